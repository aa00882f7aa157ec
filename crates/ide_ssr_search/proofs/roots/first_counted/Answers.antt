use Rattle.std.proofs.Common.{◌∙◌, ap, map, sym, subst}
use Rattle.std.proofs.lemmas.List.Elements.{All-tail}
use Rattle.std.specs.List.{All}
use Rattle.ssr_syntax_tree.specs.Places.{part_of, HasElement}
use Rattle.ssr_syntax_tree.proofs.Shared.{elements_had, parts_of-elements_of}
use Rattle.ide_ssr_search.specs.Private.Roots.{first_counted}
use Rattle.ide_ssr_search.proofs.Asked.{counted_here, counted_behind}
use Rattle.ide_ssr_search.proofs.roots.first_counted.Goals as goal

pub loop-child-init : goal.loop-child-init
loop-child-init c =
    let tree = c.args.tree.now in
    let are = c.into_iter-child-iterator.ensures.into_iter_gives ∙ c.children-child-items.ensures.elements in
    record {
      so_far = ap (λ es. first_counted (map (part_of tree) es)) are
          ∙ ap first_counted (parts_of-elements_of tree c.args.node.0 c.requires);
      had = subst (All (HasElement tree)) (sym are) (elements_had tree c.args.node.0 c.requires);
    }

pub loop-child-preserved : goal.loop-child-preserved
loop-child-preserved c =
    let tree = c.args.tree.now in
    let behind = c.next.new.self in
    let steps = c.in-Some.ensures.steps in
    record {
      so_far = sym (counted_behind (part_of tree c.in-Some.child) (map (part_of tree) behind) c.in_default.ensures)
          ∙ ap (λ es. first_counted (map (part_of tree) es)) (sym steps) ∙ c.loop-child.invariant.so_far;
      had = All-tail (HasElement tree) c.in-Some.child behind (subst (All (HasElement tree)) steps c.loop-child.invariant.had);
    }

pub returns-in-Some-counted_token : goal.returns-in-Some-counted_token
returns-in-Some-counted_token c =
    let tree = c.args.tree.now in
    counted_here (part_of tree c.in-Some.child) (map (part_of tree) c.next.new.self) c.in-Some-counted_token.kind c.in-Some-counted_token.ensures
    ∙ ap (λ es. first_counted (map (part_of tree) es)) (sym c.in-Some.ensures.steps) ∙ c.loop-child.invariant.so_far

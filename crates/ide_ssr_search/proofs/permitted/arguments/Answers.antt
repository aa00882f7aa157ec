use Rattle.std.proofs.Common.{◌∙◌, ap, map, sym, subst}
use Rattle.std.proofs.lemmas.List.Elements.{All-tail}
use Rattle.std.specs.List.{All}
use Rattle.ssr_syntax_tree.specs.Places.{part_of, HasElement}
use Rattle.ssr_syntax_tree.proofs.Shared.{elements_had, parts_of-elements_of}
use Rattle.ide_ssr_search.specs.Permitted.{first_token_tree}
use Rattle.ide_ssr_search.proofs.Arguments.{first-none}
use Rattle.ide_ssr_search.proofs.permitted.arguments.Goals as goal

pub loop-child-init : goal.loop-child-init
loop-child-init c =
    let tree = c.args.tree.now in
    let are = c.into_iter-child-iterator.ensures.into_iter_gives ∙ c.children-child-items.ensures.elements in
    record {
      so_far = ap (λ es. first_token_tree (map (part_of tree) es)) are
          ∙ ap first_token_tree (parts_of-elements_of tree c.args.call.0 c.requires);
      had = subst (All (HasElement tree)) (sym are) (elements_had tree c.args.call.0 c.requires);
    }

pub loop-child-preserved : goal.loop-child-preserved
loop-child-preserved c =
    let tree = c.args.tree.now in
    let behind = c.next.new.self in
    let steps = c.in-Some.ensures.steps in
    record {
      so_far = sym (first-none (part_of tree c.in-Some.child) (map (part_of tree) behind) c.in_default.ensures)
          ∙ ap (λ es. first_token_tree (map (part_of tree) es)) (sym steps) ∙ c.loop-child.invariant.so_far;
      had = All-tail (HasElement tree) c.in-Some.child behind (subst (All (HasElement tree)) steps c.loop-child.invariant.had);
    }

use Rattle.std.proofs.Common.{◌+◌, ◌∙◌, refl, ap, map, sym, subst}
use Rattle.std.proofs.lemmas.List.Elements.{All-tail}
use Rattle.std.specs.List.{All}
use Rattle.std.specs.Option.{option_map_or}
use Rattle.ssr_syntax_tree.specs.Places.{node_of, part_of, HasElement}
use Rattle.ssr_syntax_tree.specs.Syntax.{token_count}
use Rattle.ssr_syntax_tree.proofs.Shared.{elements_had, parts_of-elements_of}
use Rattle.ide_ssr_resolving.proofs.Children.{start_among, start_children}
use Rattle.ide_ssr_resolving.proofs.paths.name_end.Goals as goal

pub loop-child-init : goal.loop-child-init
loop-child-init c =
    let tree = c.args.tree.now in
    let node = node_of tree c.args.segment.0 in
    let past = node.first + token_count node.children in
    let are = c.into_iter-child-iterator.ensures.into_iter_gives ∙ c.children-child-items.ensures.elements in
    record {
      so_far = ap (λ es. start_among past (map (part_of tree) es)) are
          ∙ ap (start_among past) (parts_of-elements_of tree c.args.segment.0 c.requires)
          ∙ start_children node past refl;
      had = subst (All (HasElement tree)) (sym are) (elements_had tree c.args.segment.0 c.requires);
    }

pub loop-child-preserved : goal.loop-child-preserved
loop-child-preserved c =
    let tree = c.args.tree.now in
    let node = node_of tree c.args.segment.0 in
    let past = node.first + token_count node.children in
    let behind = c.next.new.self in
    let steps = c.in-Some.ensures.steps in
    record {
      so_far = ap (λ start. option_map_or (λ start. start) start (start_among past (map (part_of tree) behind))) c.in_default.ensures
          ∙ ap (λ es. start_among past (map (part_of tree) es)) (sym steps) ∙ c.loop-child.invariant.so_far;
      had = All-tail (HasElement tree) c.in-Some.child behind (subst (All (HasElement tree)) steps c.loop-child.invariant.had);
    }

pub returns-in-Some-arguments_start : goal.returns-in-Some-arguments_start
returns-in-Some-arguments_start c =
    let tree = c.args.tree.now in
    let node = node_of tree c.args.segment.0 in
    let past = node.first + token_count node.children in
    let behind = c.next.new.self in
    ap (λ start. option_map_or (λ start. start) start (start_among past (map (part_of tree) behind))) c.in-Some-arguments_start.ensures
    ∙ ap (λ es. start_among past (map (part_of tree) es)) (sym c.in-Some.ensures.steps) ∙ c.loop-child.invariant.so_far

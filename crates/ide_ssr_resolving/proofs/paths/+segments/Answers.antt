use Rattle.std.proofs.Common.{refl, rules, arith, ◌∙◌, ◌<◌, ◌*◌}
use Rattle.ssr_syntax_tree.specs.Places.{node_of, size_of}
use Rattle.ide_ssr_resolving.proofs.Children.{found_starts, found_turns, first_child_of, element_size, element_smaller}
use Rattle.ide_ssr_resolving.proofs.paths.+segments.Goals as goal

pub push_segments-loop-child-init : goal.push_segments-loop-child-init
push_segments-loop-child-init t c =
    found_starts _ _ _ _ _ c.requires.path (c.into_iter-child-iterator.ensures.into_iter_gives ∙ c.children-child-items.ensures.elements) c.requires.had refl

pub push_segments-push_segments_at-requires : goal.push_segments-push_segments_at-requires
push_segments-push_segments_at-requires t c =
    let first = first_child_of c.args.tree.now c.args.path.0 _ _ _ _ c.in-Some.child c.loop-child.invariant c.in-Some.ensures.steps in
    let there = first.0 in
    let had = c.loop-child.invariant.has in
    let lt : element_size c.args.tree.now c.in-Some.child < 2 * size_of (node_of c.args.tree.now c.args.path.0) =
    element_smaller c.args.tree.now c.args.path.0 c.in-Some.child c.requires.path first.0 first.1
    in
    (omega arith, search (rules, there, had))

pub push_segments-loop-child-preserved : goal.push_segments-loop-child-preserved
push_segments-loop-child-preserved t c =
    found_turns _ _ _ _ _ _ _ c.in-Some.child c.loop-child.invariant c.in-Some.ensures.steps c.in_ok-push_segments_at.ensures.below
    c.in_ok-push_segments_at.ensures.has

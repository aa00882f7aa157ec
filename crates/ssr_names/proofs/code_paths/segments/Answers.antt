use Rattle.std.proofs.Common.{◌++◌, subst, sym, inr}
use Rattle.std.specs.Prelude.{reverse}
use Rattle.ssr_syntax_tree.specs.Places.{node_of}
use Rattle.ssr_names.specs.CodePaths.{AreSegments}
use Rattle.ssr_names.proofs.Spelling.{segments_on, segments_end, segments_none}
use Rattle.ssr_names.proofs.code_paths.segments.Goals as goal

pub loop-init : goal.loop-init
loop-init c =
    let tree = c.args.tree.now in
    let path = node_of tree c.args.path.0 in
    record {
      has = c.requires;
      so_far = λ first are. subst (λ xs. AreSegments c.args.names.now c.args.stranger tree path (first ++ reverse xs)) (sym c.new-found.ensures.items)
          (segments_none c.args.names.now c.args.stranger tree path first are);
    }

pub loop-preserved : goal.loop-preserved
loop-preserved c =
    let tree = c.args.tree.now in
    let l = c.loop in
    record {
      has = c.in-Some.ensures.has;
      so_far = segments_on c.args.names.now c.args.stranger tree (node_of tree c.args.path.0) (node_of tree l.at.0) l.found.items _ c.segment_of-segment.result
          c.in_ok-push.ensures.items c.segment_of-segment.ensures l.invariant.so_far (node_of tree c.in-Some.front.0) (sym c.in-Some.ensures.node);
    }

pub returns-in-None : goal.returns-in-None
returns-in-None c =
    let tree = c.args.tree.now in
    let l = c.loop in
    inr (segments_end c.args.names.now c.args.stranger tree (node_of tree c.args.path.0) (node_of tree l.at.0) l.found.items _ c.segment_of-segment.result
    c.in_ok-push.ensures.items c.segment_of-segment.ensures l.invariant.so_far (sym c.in-None.ensures.node))

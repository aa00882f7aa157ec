use Rattle.std.proofs.Common.{◌≡◌, ◌<◌, ◌++◌, [], ◌∷◌, List, All, length, refl, sym, ap, ◌∙◌, subst, arith}
use Rattle.std.proofs.lemmas.List.Elements.{All-push}
use Rattle.ssr_syntax_tree.specs.declared.number.TokenNo.{TokenNo}
use Rattle.ssr_base_trees.specs.declared.ids.FileRange.{FileRange}
use Rattle.ssr_base_trees.specs.declared.ids.NodeId.{NodeId}
use Rattle.ssr_base_trees.specs.Built.{IsNodeOf}
use Rattle.ssr_base_trees.specs.Laws.{LiesInFile}
use Rattle.ssr_base_trees.specs.Workspace.{Workspace, trees, tree_of, file_span_of}
use Rattle.ide_ssr_bindings.specs.Apart.{HasHeld}
use Rattle.ide_ssr_bindings.proofs.Shared.{has_node, has_held}
use Rattle.ide_ssr.proofs.Files.{file_is, token_in_file, token_span_is, spans_more, spans_are}
use Rattle.ide_ssr.proofs.comments.comment_ranges.Goals as goal

pub kept_comments-requires-clause-node : goal.kept_comments-requires-clause-node
kept_comments-requires-clause-node c =
    has_node c.args.workspace.now c.node-file.result c.in-Some.tree.now (sym c.in-Some.ensures)
    (subst (IsNodeOf (trees c.args.workspace.now)) (sym c.node-file.ensures) c.requires.node)

pub kept_comments-requires-clause-bindings : goal.kept_comments-requires-clause-bindings
kept_comments-requires-clause-bindings c =
    subst (All (λ binding. HasHeld c.in-Some.tree.now binding.held)) (sym c.bindings.ensures)
    (has_held c.args.workspace.now c.args.m.now c.in-Some.tree.now
    (ap (λ (x : NodeId). tree_of c.args.workspace.now x.tree) (sym c.node-file.ensures) ∙ sym c.in-Some.ensures) c.requires)

no_token : TokenNo
no_token = record { 0 = 0 }

one_more : (w : Workspace) (ranges more : List FileRange) (range : FileRange) → more ≡ ranges ++ range ∷ []
    → All (λ range. LiesInFile w (file_span_of range)) ranges → LiesInFile w (file_span_of range) → All (λ range. LiesInFile w (file_span_of range)) more
one_more w ranges more range is all last =
    subst (All (λ range. LiesInFile w (file_span_of range))) (sym is) (All-push (λ range. LiesInFile w (file_span_of range)) ranges range all last)

pub loop-comment-preserved : goal.loop-comment-preserved
unfolding no_token
loop-comment-preserved c =
    let w = c.args.workspace.now in
    let file = c.node-file.result.tree in
    let tree = c.in-Some.tree.now in
    let range : FileRange = record { file_id = record { 0 = file }; range = c.token_range.result } in
    let within : file < length w.files = omega (arith, c.file_count.ensures.count) in
    record {
      ranges =
          spans_more file tree c.deref-comment-items.result.now c.loop-comment.comment-index no_token c.loop-comment.ranges.items _ range
          c.loop-comment-test.true c.loop-comment.invariant.ranges c.in_ok-push.ensures.items
          (token_span_is file tree _ range refl c.token_range.ensures.start c.token_range.ensures.end);
      in_file =
          one_more w c.loop-comment.ranges.items _ range c.in_ok-push.ensures.items c.loop-comment.invariant.in_file
          (token_in_file w file tree _ (file_span_of range) (file_is w file tree within (sym c.in-Some.ensures)) refl
          c.token_range.ensures.start c.token_range.ensures.end c.token_range.ensures.start_boundary c.token_range.ensures.end_boundary);
    }

pub returns-clause-ranges : goal.returns-clause-ranges
returns-clause-ranges c =
    let w = c.args.workspace.now in
    let within : c.node-file.result.tree < length w.files = omega (arith, c.file_count.ensures.count) in
    spans_are w c.args.m.now c.node-file.result c.in-Some.tree.now c.bindings.result.now c.deref-comment-items.result.now c.loop-comment.comment-index
    c.loop-comment.ranges.items c.node-file.ensures c.bindings.ensures (file_is w c.node-file.result.tree c.in-Some.tree.now within (sym c.in-Some.ensures))
    (c.deref-comment-items.ensures.value ∙ c.in_ok-kept_comments.ensures.comments) c.loop-comment-test.false c.loop-comment.invariant.ranges

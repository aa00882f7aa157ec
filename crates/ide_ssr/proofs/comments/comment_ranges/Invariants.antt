use Rattle.std.proofs.Common.{◌≡◌, All, map, take}
use Rattle.ssr_base_trees.specs.Laws.{LiesInFile}
use Rattle.ssr_base_trees.specs.Workspace.{file_span_of}
use Rattle.ide_ssr.specs.Comments.{token_span}
use Rattle.ide_ssr.proofs.comments.comment_ranges.Given as goal

abbrev pub invariant-loop-comment : goal.invariant-loop-comment
invariant-loop-comment l = record {
  ranges : map file_span_of l.ranges.items ≡ map (token_span l.file l.tree) (take l.comment-index l.comment-items);
  in_file : All (λ range. LiesInFile l.workspace (file_span_of range)) l.ranges.items;
}

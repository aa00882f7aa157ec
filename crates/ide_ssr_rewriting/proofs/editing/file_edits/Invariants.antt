use Rattle.std.proofs.Common.{vec_len}
use Rattle.ide_ssr_rewriting.proofs.Groups.{AreDone}
use Rattle.ide_ssr_rewriting.proofs.editing.file_edits.Given as goal

abbrev pub invariant-loop-file : goal.invariant-loop-file
invariant-loop-file l = AreDone l.fn.workspace l.fn.list.items l.list.items l.edits

abbrev pub decreases-loop-file : goal.decreases-loop-file
decreases-loop-file l = vec_len l.list

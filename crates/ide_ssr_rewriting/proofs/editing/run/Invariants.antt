use Rattle.std.proofs.Common.{option_map}
use Rattle.ide_ssr_rewriting.specs.Clashes.{clash_of}
use Rattle.ide_ssr_rewriting.specs.Replacements.{writing}
use Rattle.ide_ssr_rewriting.specs.Private.Edits.{IsRun}
use Rattle.ide_ssr_rewriting.proofs.editing.run.Given as goal

abbrev pub invariant-loop-place : goal.invariant-loop-place
invariant-loop-place g l = IsRun l.kept l.lists (writing (g.S.Semantics.meanings l.writer.semantics.now) l.writer.rules.now) l.place l.pending.texts.items (option_map clash_of l.pending.clash)

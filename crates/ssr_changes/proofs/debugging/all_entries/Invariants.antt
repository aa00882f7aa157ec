use Rattle.std.proofs.Common.{map}
use Rattle.ide_ssr.specs.Finder.{finder_of}
use Rattle.ssr_changes.specs.Debugging.{AreToldUpTo, told_by}
use Rattle.ssr_changes.proofs.debugging.all_entries.Given as goal

abbrev pub invariant-loop-file : goal.invariant-loop-file
invariant-loop-file g l = AreToldUpTo (finder_of g.S.Semantics.meanings l.finder) l.owners l.snippet l.file (map told_by l.entries.items)

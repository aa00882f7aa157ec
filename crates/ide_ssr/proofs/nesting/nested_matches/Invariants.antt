use Rattle.ide_ssr.specs.Private.Made.{AreMade}
use Rattle.ide_ssr.proofs.nesting.nested_matches.Given as goal

abbrev pub invariant-loop-place : goal.invariant-loop-place
invariant-loop-place l = AreMade l.rules l.kept l.lists l.place l.made.items

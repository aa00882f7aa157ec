use Rattle.ide_ssr.proofs.Showing.{IsHolding}
use Rattle.ide_ssr.proofs.nesting.Nesting.placeholders.Given as goal

abbrev pub invariant-loop-index : goal.invariant-loop-index
invariant-loop-index l = IsHolding l.self.rules.now l.self.kept.now l.self.lists.now l.place l.m l.index-items l.index-index l.fn.made.items l.made.items l.placeholders.items

use Rattle.ide_ssr.proofs.Taking.{IsTaking}
use Rattle.ide_ssr.proofs.made.take_list.Given as goal

abbrev pub invariant-loop-place : goal.invariant-loop-place
invariant-loop-place l = IsTaking l.places l.place-index l.fn.made.items l.made.items l.list.items

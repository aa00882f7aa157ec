-- What is left of both gives the answer.
use Rattle.std.proofs.Common.{◌≡◌, length}
use Rattle.ssr_syntax_forms.specs.Places.{behind_solid}
use Rattle.ssr_syntax_forms.proofs.places.behind_solid.Given as goal

abbrev pub invariant-loop-left : goal.invariant-loop-left
invariant-loop-left l = behind_solid l.left l.rest ≡ behind_solid l.count l.kinds

abbrev pub decreases-loop-left : goal.decreases-loop-left
decreases-loop-left l = length l.rest

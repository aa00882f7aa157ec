-- What is left is what was there, without some white space and comments.
use Rattle.std.proofs.Common.{◌≡◌, length}
use Rattle.ssr_syntax_forms.specs.Places.{behind_trivia}
use Rattle.ssr_syntax_forms.proofs.places.behind_trivia.Given as goal

abbrev pub invariant-loop-first : goal.invariant-loop-first
invariant-loop-first l = behind_trivia l.rest ≡ behind_trivia l.kinds

abbrev pub decreases-loop-first : goal.decreases-loop-first
decreases-loop-first l = length l.rest

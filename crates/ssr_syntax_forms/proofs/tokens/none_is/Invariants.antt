-- What is left of the tokens tells it.
use Rattle.std.proofs.Common.{◌≡◌, length}
use Rattle.ssr_syntax_forms.specs.Forms.{holds, none_is}
use Rattle.ssr_syntax_forms.proofs.tokens.none_is.Given as goal

abbrev pub invariant-loop-token : goal.invariant-loop-token
invariant-loop-token g l = holds (none_is (g.S.TokenSet.kinds l.set)) l.fn.tokens ≡ holds (none_is (g.S.TokenSet.kinds l.set)) l.rest

abbrev pub decreases-loop-token : goal.decreases-loop-token
decreases-loop-token g l = length l.rest

-- The token is as many ahead as are not passed.
use Rattle.std.proofs.Common.{◌≡◌, ◌-◌}
use Rattle.ssr_syntax_forms.specs.Private.Ahead.{nth}
use Rattle.ssr_syntax_forms.proofs.tokens.nth.Given as goal

abbrev pub invariant-loop-passed : goal.invariant-loop-passed
invariant-loop-passed l = nth l.fn.ahead l.fn.tokens ≡ nth (l.fn.ahead - l._passed) l.rest

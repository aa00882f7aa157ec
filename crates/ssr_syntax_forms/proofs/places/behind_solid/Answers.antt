use Rattle.std.proofs.Common.{arith, sym, ◌∙◌}
use Rattle.ssr_syntax_forms.proofs.PlaceLaws.{behind_none}
use Rattle.ssr_syntax_forms.proofs.places.behind_solid.Goals as goal

pub returns : goal.returns
returns c = sym (behind_none c.loop-left.left c.loop-left.rest.now (omega (arith, c.loop-left-test.false))) ∙ c.loop-left.invariant

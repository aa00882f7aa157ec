use Rattle.std.proofs.Common.{◌≡◌, take}
use Rattle.ssr_syntax_rows.specs.Solid.{pieces}
use Rattle.ide_ssr_rules.proofs.tokens.lexed.Given as goal

abbrev pub invariant-loop-token : goal.invariant-loop-token
invariant-loop-token l = l.tokens.items ≡ pieces l.fn.text (take l.token-index l.token-items)

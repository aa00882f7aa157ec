use Rattle.std.proofs.Common.{List, length}
use Rattle.std.specs.Prelude.{string_bytes}
use Rattle.ssr_syntax_lex.specs.declared.tokens.RawToken.{RawToken}
use Rattle.ssr_syntax.specs.Private.Gathering.{IsFront}
use Rattle.ssr_syntax.proofs.expansions.gather.Given as goal

abbrev pub invariant-loop-token : goal.invariant-loop-token
invariant-loop-token l = (raw : List RawToken) × IsFront l.tokens l.rest (string_bytes l.text) l.rows l.kinds.items raw

abbrev pub decreases-loop-token : goal.decreases-loop-token
decreases-loop-token l = length l.rest

use Rattle.std.proofs.Common.{take}
use Rattle.ssr_syntax_shorts.specs.Told.{AreTokens}
use Rattle.ssr_syntax_shorts.proofs.reading.name_tokens.Given as goal

abbrev pub invariant-loop-name : goal.invariant-loop-name
invariant-loop-name l = AreTokens l.tree l.raw (take l.name-index l.names) l.tokens.items

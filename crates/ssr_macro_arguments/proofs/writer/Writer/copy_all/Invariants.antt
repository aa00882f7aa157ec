use Rattle.std.proofs.Common.{◌≡◌, ◌++◌, take}
use Rattle.ssr_macro_arguments.specs.Private.Tokens.{written}
use Rattle.ssr_macro_arguments.specs.Arguments.{pieces}
use Rattle.ssr_macro_arguments.proofs.writer.Writer.copy_all.Given as goal

abbrev pub invariant-loop-token : goal.invariant-loop-token
invariant-loop-token l = written l.self ≡ written l.initial.self ++ pieces (take l.token-index l.tokens)

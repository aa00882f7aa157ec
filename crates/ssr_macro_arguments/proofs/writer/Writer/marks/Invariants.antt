use Rattle.std.proofs.Common.{◌≡◌, ◌++◌, map, take}
use Rattle.ssr_macro_arguments.specs.Private.Tokens.{written}
use Rattle.ssr_macro_arguments.specs.Arguments.{mark}
use Rattle.ssr_macro_arguments.proofs.writer.Writer.marks.Given as goal

abbrev pub invariant-loop-text : goal.invariant-loop-text
invariant-loop-text l = written l.self ≡ written l.initial.self ++ map (λ text. mark text.now) (take l.text-index l.texts)

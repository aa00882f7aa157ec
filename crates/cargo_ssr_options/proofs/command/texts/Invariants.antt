use Rattle.std.proofs.Common.{◌≡◌, map, take}
use Rattle.cargo_ssr_options.specs.Command.{texts_in}
use Rattle.cargo_ssr_options.proofs.command.texts.Given as goal

abbrev pub invariant-loop-text : goal.invariant-loop-text
invariant-loop-text l = texts_in l.texts ≡ map (λ text. text.now) (take l.text-index l.given)

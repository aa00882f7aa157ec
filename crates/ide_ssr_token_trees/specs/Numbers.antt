-- What placeholders hold of a token tree whose tokens have higher numbers.
use Rattle.std.specs.Prelude.{ℕ, ◌+◌}
use Rattle.ide_ssr_bindings.specs.declared.bindings.Binding.{Binding}
use Rattle.ide_ssr_bindings.specs.declared.bindings.Held.{Held}
use Rattle.ide_ssr_bindings.specs.declared.bindings.Held.TheVariants as held

-- the same that is held, where the numbers of tokens are higher by `more`
abbrev pub held_later : ℕ → Held → Held
held_later more (held.Node node) = held.Node node
held_later more (held.Tokens run) = held.Tokens (record { first = more + run.first; count = run.count })

abbrev pub bound_later : ℕ → Binding → Binding
bound_later more b = record b { held = held_later more b.held }

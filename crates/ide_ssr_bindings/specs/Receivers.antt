-- The receiver of a method call, and what a placeholder that holds it tells.
use Rattle.std.specs.Prelude.{ℕ, ◌==◌, Bool, false, if◌then◌else◌}
use Rattle.ide_ssr_bindings.specs.declared.bindings.Binding.{Binding}
use Rattle.ide_ssr_bindings.specs.declared.bindings.Held.{Held}
use Rattle.ide_ssr_bindings.specs.declared.bindings.Held.TheVariants as held
use Rattle.ide_ssr_bindings.specs.declared.receivers.Receiver.{Receiver}

abbrev pub is_node : ℕ → Held → Bool
is_node n (held.Node node) = node.0 == n
is_node n (held.Tokens run) = false

-- a placeholder that holds the receiver itself keeps how it is taken
abbrev pub received : Receiver → Binding → Binding
received r b = if is_node r.node.0 b.held then record b { deref_count = r.deref_count; self_kind = r.self_kind } else b

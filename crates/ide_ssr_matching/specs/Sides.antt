-- What of two nodes has to pair so that the one matches the other.
use Rattle.std.specs.Prelude.{List, Option, Some, None, map}
use Rattle.ssr_syntax_tree.specs.Places.{Part}
use Rattle.ide_ssr_bindings.specs.declared.bindings.Binding.{Binding}
use Rattle.ide_ssr_bindings.specs.declared.receivers.Receiver.{Receiver}
use Rattle.ide_ssr_bindings.specs.Receivers.{received}

-- the parts of the pattern and those of the code that have to pair, one by one; and the receiver, if there is one
pub record Sides : Type 0 where
  pub pattern : List Part
  pub code : List Part
  pub receiver : Option Receiver

-- what placeholders hold, where the receiver, if there is one, is known
abbrev pub kept : Option Receiver → List Binding → List Binding
kept None bs = bs
kept (Some r) bs = map (received r) bs

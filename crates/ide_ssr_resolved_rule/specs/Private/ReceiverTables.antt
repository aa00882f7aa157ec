-- Private: the table of which placeholders are receivers.
use Rattle.std.specs.Prelude.{ℕ, ◌≡◌, Bool, false, List, Option, slice_index_or}
use Rattle.std.specs.Option.{option_map_or}
use Rattle.ssr_syntax_tree.specs.Syntax.{Syntax}
use Rattle.ide_ssr_resolved_rule.specs.Receivers.{is_receiver_in}

-- a table tells of each placeholder whether it is alone the receiver of a method call
abbrev pub TellsReceivers : List (List ℕ) → Syntax → List Bool → Type 0
TellsReceivers names template table = (i : ℕ) → slice_index_or table i false ≡ is_receiver_in names template i

-- that, of a template, where there is one; without one there is no receiver
abbrev pub TellsReceiversOf : List (List ℕ) → Option Syntax → List Bool → Type 0
TellsReceiversOf names template table = (i : ℕ) → slice_index_or table i false ≡ option_map_or (λ tree. is_receiver_in names tree i) template false

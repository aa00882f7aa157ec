-- A change that stands by some test, in parentheses where it stands only so.
use Rattle.std.specs.Prelude.{Bool, if◌then◌else◌, ℕ, List, Option, None, Some}
use Rattle.ssr_syntax_kinds.specs.declared.range.TextRange.{TextRange}
use Rattle.ssr_base_trees.specs.Changes.{Change}
use Rattle.ssr_standing.specs.Code.{parenthesized}

-- the change that puts a text in the place of a range
abbrev pub change_with : TextRange → List ℕ → Change
change_with range text = record { start = range.start; end = range.end; text = text }

-- a change with the code of its text in parentheses
abbrev pub in_parentheses : Change → Change
in_parentheses c = record { start = c.start; end = c.end; text = parenthesized c.text }

-- a change as it is, if it stands, else in parentheses
abbrev pub fitted : (Change → Bool) → Change → Change
fitted stands c = if stands c then c else in_parentheses c

-- a change as it stands, if it does: as it is, or else in parentheses
abbrev pub if_fitted : (Change → Bool) → Change → Option Change
if_fitted stands c = if stands (fitted stands c) then Some (fitted stands c) else None

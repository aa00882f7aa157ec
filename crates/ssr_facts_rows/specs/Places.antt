-- Places in trees and in files.
use Rattle.std.specs.Prelude.{ℕ, nat_le, Option, Some}
use Rattle.serde_json.specs.Data.{Data}
use Rattle.ssr_syntax_kinds.specs.declared.range.TextRange.{TextRange}
use Rattle.ssr_base_trees.specs.Origins.{Span}
use Rattle.ssr_base_trees.specs.Workspace.{FileSpan}
use Rattle.ssr_base_trees.specs.declared.ids.FilePosition.{FilePosition}
use Rattle.ssr_facts_rows.specs.Fields.{◌>>=◌, when, number, two, three}
use Rattle.ssr_facts_rows.specs.declared.places.PlaceRow.{PlaceRow}

-- a start, and an end that is not below it
abbrev pub span : Data → Data → Option Span
span start end = do
  s ← number start
  e ← number end
  _ ← when (nat_le s e)
  Some (record { start = s; end = e })

-- a span in a tree
abbrev pub place : Data → Data → Data → Option PlaceRow
place tree start end = do
  t ← number tree
  range ← span start end
  Some (record { tree = t; start = range.start; end = range.end })

-- [tree, start, end]
abbrev pub place_row : Data → Option PlaceRow
place_row d = do
  (tree, start, end) ← three d
  place tree start end

-- the bytes of a tree that are a macro call
abbrev pub call_place : ℕ × TextRange → PlaceRow
call_place call = record { tree = call.0; start = call.1.start; end = call.1.end }

-- [file, start, end]
abbrev pub file_span : Data → Option FileSpan
file_span d = do
  (file, start, end) ← three d
  f ← number file
  range ← span start end
  Some (record { file = f; span = range })

-- [file, offset]
abbrev pub file_position : Data → Option FilePosition
file_position d = do
  (file, offset) ← two d
  f ← number file
  o ← number offset
  Some (record { file_id = record { 0 = f }; offset = o })

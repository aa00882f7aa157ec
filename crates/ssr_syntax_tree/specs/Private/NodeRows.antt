-- Private: how the two vectors of `NodeRows` are seen as one list of rows.
use Rattle.std.specs.Prelude.{◌≡◌, List, length}
use Rattle.std.specs.Simd.Lanes.{zip2}
use Rattle.ssr_syntax_kinds.specs.declared.kinds.SyntaxKind.{SyntaxKind}
use Rattle.ssr_syntax_tree.specs.declared.node_rows.NodePlace.{NodePlace}
use Rattle.ssr_syntax_tree.specs.declared.rows.NodeRow.{NodeRow}
use Rattle.ssr_syntax_tree.specs.declared.node_rows.NodeRows.TheInside.{Inside}

-- the row of a kind and a place
abbrev pub row_with : SyntaxKind → NodePlace → NodeRow
row_with kind place =
    record {
      kind = kind;
      parent = place.parent;
      first = place.first;
      past = place.past;
      below = place.below;
    }

abbrev pub rows_of : Inside → List NodeRow
rows_of rows = zip2 row_with rows.kinds.items rows.places.items

-- each row has its kind and its place
abbrev pub AreBeside : Inside → Type 0
AreBeside rows = length rows.kinds.items ≡ length rows.places.items

-- What the bytes of a facts file say, or why they are refused.
use Rattle.std.specs.Prelude.{◌≡◌, ℕ, if◌then◌else◌, List, [], ◌∷◌, map, Option, Some, None, Result, Ok, Err, codes}
use Rattle.std.specs.Option.{ok_or}
use Rattle.std.specs.Str.{is_utf8}
use Rattle.serde_json.specs.Data.{Data}
use Rattle.serde_json.specs.Read.{read}
use Rattle.ssr_base_trees.specs.declared.ids.DefId.{DefId}
use Rattle.ssr_base_trees.specs.declared.ids.FilePosition.{FilePosition}
use Rattle.ssr_base_trees.specs.declared.ids.TypeId.{TypeId}
use Rattle.ssr_base_trees.specs.declared.semantics.Res.{Res}
use Rattle.ssr_base_trees.specs.Workspace.{FileSpan, file_span_of}
use Rattle.ssr_facts_rows.specs.Fields.{◌>>=◌, has_only, optional, rows_at}
use Rattle.ssr_facts_rows.specs.Places.{place_row, file_span, file_position}
use Rattle.ssr_facts_rows.specs.Sources.{PlainFile, plain_file, file_row, PlainExpansion, plain_expansion, expansion_row}
use Rattle.ssr_facts_rows.specs.Meanings.{definition, PlainNameKey, plain_name, name_row, PlainMemberKey, plain_member, member_row, path_row, method_row, plain_types, type_row, plain_printed, printed_row}
use Rattle.ssr_facts_rows.specs.declared.places.PlaceRow.{PlaceRow}
use Rattle.ssr_facts_rows.specs.declared.meanings.Definition.{Definition}
use Rattle.ssr_facts_rows.specs.declared.meanings.Method.{Method}
use Rattle.ssr_facts_rows.specs.declared.meanings.PrintedKey.{PrintedKey}
use Rattle.ssr_facts_rows.specs.declared.facts.FactRows.{FactRows}
use Rattle.ssr_facts_rows.specs.declared.rows_error.RowsError.{RowsError}
use Rattle.ssr_facts_rows.specs.declared.rows_error.RowsError.TheVariants.{NotJson, Shape, Memory}

pub record PlainFacts : Type 0 where
  pub files : List PlainFile
  pub expansions : List PlainExpansion
  pub definitions : List Definition
  pub scopes : List PlaceRow
  pub names : List (PlainNameKey × Res)
  pub members : List (PlainMemberKey × DefId)
  pub paths : List (PlaceRow × Res)
  pub methods : List (PlaceRow × Method)
  pub types : List (PlaceRow × List TypeId)
  pub printed : List (PrintedKey × List ℕ)
  pub position : Option FilePosition
  pub ranges : List FileSpan

abbrev pub plain_facts : FactRows → PlainFacts
plain_facts rows = record {
  files = map plain_file rows.files.items;
  expansions = map plain_expansion rows.expansions.items;
  definitions = rows.definitions.items;
  scopes = rows.scopes.items;
  names = map plain_name rows.names.items;
  members = map plain_member rows.members.items;
  paths = rows.paths.items;
  methods = rows.methods.items;
  types = map plain_types rows.types.items;
  printed = map plain_printed rows.printed.items;
  position = rows.position;
  ranges = map file_span_of rows.ranges.items;
}

abbrev pub fact_keys : List (List ℕ)
fact_keys =
    codes "files" ∷ codes "expansions" ∷ codes "defs" ∷ codes "scopes" ∷ codes "names" ∷ codes "members" ∷
    codes "paths" ∷ codes "methods" ∷ codes "types" ∷ codes "printed" ∷ codes "position" ∷ codes "ranges" ∷ []

-- what an object says
abbrev pub rows_of : Data → Option PlainFacts
rows_of d = do
  _ ← has_only fact_keys d
  files ← rows_at (codes "files") file_row d
  expansions ← rows_at (codes "expansions") expansion_row d
  definitions ← rows_at (codes "defs") definition d
  scopes ← rows_at (codes "scopes") place_row d
  names ← rows_at (codes "names") name_row d
  members ← rows_at (codes "members") member_row d
  paths ← rows_at (codes "paths") path_row d
  methods ← rows_at (codes "methods") method_row d
  types ← rows_at (codes "types") type_row d
  printed ← rows_at (codes "printed") printed_row d
  position ← optional (codes "position") file_position d
  ranges ← rows_at (codes "ranges") file_span d
  Some (record {
    files = files;
    expansions = expansions;
    definitions = definitions;
    scopes = scopes;
    names = names;
    members = members;
    paths = paths;
    methods = methods;
    types = types;
    printed = printed;
    position = position;
    ranges = ranges;
  })

-- the JSON of bytes, which have to be text
abbrev pub json_of : List ℕ → Option Data
json_of bytes = if is_utf8 bytes then read bytes else None

abbrev pub facts_in : Option Data → Result PlainFacts RowsError
facts_in None = Err NotJson
facts_in (Some d) = ok_or (rows_of d) Shape

-- what the bytes of a facts file say
unfoldable pub facts_of : List ℕ → Result PlainFacts RowsError
facts_of bytes = facts_in (json_of bytes)

-- An answer is what is due, as it is seen. Want of memory says nothing.
abbrev pub Tells : Result PlainFacts RowsError → Result FactRows RowsError → Type 0
Tells due (Ok rows) = due ≡ Ok (plain_facts rows)
Tells due (Err Memory) = Unit {0}
Tells due (Err e) = due ≡ Err e

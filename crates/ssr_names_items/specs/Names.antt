-- Names as others are compared with them.
use Rattle.std.specs.Prelude.{ℕ, ◌≡◌, Some, Option, List, [], bytes_eq, codes, take, drop, slice_get, string_bytes, if◌then◌else◌}
use Rattle.std.specs.BTreeMap.{get_by_text}
use Rattle.std.specs.Option.{option_map_or}
use Rattle.ssr_names_items.specs.declared.names.Names.{Names}
use Rattle.ssr_names_items.specs.declared.table.Name.{Name}

-- a name without `r#` in front
abbrev pub bare : List ℕ → List ℕ
bare text = if bytes_eq (take 2 text) (codes "r#") then drop 2 text else text

-- the text of a name; an empty one where the number is none of these
abbrev pub text_of : Names → Name → List ℕ
text_of names name = option_map_or string_bytes (slice_get names.texts.items name.0) []

-- the number of a name, if it is one of these
abbrev pub number_of : Names → List ℕ → Option Name
number_of names text = get_by_text names.numbers (bare text)

-- each name has the number that it had
abbrev pub KeepsNumbers : Names → Names → Type 0
KeepsNumbers old new = (text : List ℕ) (name : Name) → number_of old text ≡ Some name → number_of new text ≡ Some name

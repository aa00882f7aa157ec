-- Stand-ins: the identifiers that are read in the place of placeholders.
use Rattle.std.specs.Prelude.{ℕ, Bool, List, ◌++◌, Option, None, bytes_eq, codes, if◌then◌else◌}
use Rattle.std.specs.List.{list_any, position_from}
use Rattle.ssr_syntax_kinds.specs.Kinds.{is_ident}
use Rattle.ssr_syntax_tree.specs.Syntax.{Token}

abbrev pub stand_in_of : List ℕ → List ℕ
stand_in_of name = codes "__placeholder_" ++ name

abbrev pub is_stand_in : List (List ℕ) → List ℕ → Bool
is_stand_in names text = list_any (λ name. bytes_eq text (stand_in_of name)) names

-- which name's stand-in a token is
unfoldable pub name_at : List (List ℕ) → Token → Option ℕ
name_at names token = if is_ident token.kind then position_from (λ name. bytes_eq token.text (stand_in_of name)) 0 names else None

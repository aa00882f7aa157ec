-- What a manifest says.
use Rattle.std.specs.Prelude.{ℕ, Bool, false, not, List, Option, codes}
use Rattle.std.specs.Option.{option_map_or, option_and_then}
use Rattle.toml.specs.Data.{Members, as_str, as_bool, as_table, get_member}

-- the string, and the table, at a key of a table
abbrev pub text_at : List ℕ → Members → Option (List ℕ)
text_at key table = option_and_then as_str (get_member key table)

abbrev pub table_at : List ℕ → Members → Option Members
table_at key table = option_and_then as_table (get_member key table)

-- `key = false`
abbrev pub is_off : List ℕ → Members → Bool
is_off key table = option_map_or not (option_and_then as_bool (get_member key table)) false

-- `name` of `[package]`
abbrev pub package_name : Members → Option (List ℕ)
package_name manifest = option_and_then (text_at (codes "name")) (table_at (codes "package") manifest)

-- `name` of `[lib]`
abbrev pub library_name : Members → Option (List ℕ)
library_name manifest = option_and_then (text_at (codes "name")) (table_at (codes "lib") manifest)

-- `path` of `[lib]`
abbrev pub library_path : Members → Option (List ℕ)
library_path manifest = option_and_then (text_at (codes "path")) (table_at (codes "lib") manifest)

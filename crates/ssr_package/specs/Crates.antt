-- The crates of a package.
use Rattle.std.specs.Prelude.{ℕ, ◌==◌, if◌then◌else◌, Option, Some, map, codes, is_some, option_map}
use Rattle.std.specs.Option.{option_map_or, option_and_then}
use Rattle.std.specs.Str.{bytes_eq}
use Rattle.toml.specs.Data.{Members}
use Rattle.ssr_package.specs.Manifest.{text_at, table_at}
use Rattle.ssr_package.specs.Paths.{Text}
use Rattle.ssr_package.specs.declared.crates.Edition.{Edition}
use Rattle.ssr_package.specs.declared.crates.Edition.TheVariants.{Edition2015, Edition2018, Edition2021, Edition2024}

-- `_` for `-`
abbrev pub underscored : ℕ → ℕ
underscored b = if b == 45 then 95 else b

-- the name of a target's crate
abbrev pub crate_name : Text → Text
crate_name target = map underscored target

-- the edition of a year
abbrev pub edition_named : Text → Edition
edition_named year =
    if bytes_eq year (codes "2015") then Edition2015 else
    if bytes_eq year (codes "2018") then Edition2018 else
    if bytes_eq year (codes "2021") then Edition2021 else Edition2024

-- `edition = "2021"` of a `[package]`
abbrev pub own_edition : Members → Option Edition
own_edition section = option_map edition_named (text_at (codes "edition") section)

-- `edition` of `[workspace.package]`
abbrev pub workspace_edition : Members → Option Edition
workspace_edition manifest =
    option_and_then own_edition (option_and_then (table_at (codes "package")) (table_at (codes "workspace") manifest))

-- the edition that a `[package]` says, by a table that of its workspace; it is 2015, where nothing is said
abbrev pub stated_edition : Members → Option Edition → Option Edition
stated_edition section workspace =
    if is_some (table_at (codes "edition") section) then workspace else
    option_map_or (λ year. Some (edition_named year)) (text_at (codes "edition") section) (Some Edition2015)

abbrev pub package_edition : Members → Option Edition → Option Edition
package_edition manifest workspace =
    option_map_or (λ section. stated_edition section workspace) (table_at (codes "package") manifest) (Some Edition2015)

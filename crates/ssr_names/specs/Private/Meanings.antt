-- Private: what a meaning says.
use Rattle.std.specs.Prelude.{◌≡◌, Bool, true, false}
use Rattle.ssr_names.specs.declared.definitions.Definition.{Definition}
use Rattle.ssr_names.specs.declared.definitions.Meaning.{Meaning}
use Rattle.ssr_names.specs.declared.definitions.Meaning.TheVariants as meaning

-- P of the definition that is known, if one is
abbrev pub Means : Meaning → (Definition → Type 0) → Type 0
Means m P = (d : Definition) → m ≡ meaning.One d → P d

abbrev pub is_something : Meaning → Bool
is_something meaning.Nothing = false
is_something m = true

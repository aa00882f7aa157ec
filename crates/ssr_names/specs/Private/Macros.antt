-- Private: how what is found of a macro's name agrees with what it stands for.
use Rattle.std.specs.Prelude.{◌≡◌}
use Rattle.ssr_names_items.specs.declared.table.Name.{Name}
use Rattle.ssr_names_items.specs.declared.table.ItemNo.{ItemNo}
use Rattle.ssr_names.specs.declared.definitions.Definition.{Definition}
use Rattle.ssr_names.specs.declared.definitions.Definition.TheVariants as definition
use Rattle.ssr_names.specs.declared.definitions.Meaning.{Meaning}
use Rattle.ssr_names.specs.declared.definitions.Meaning.TheVariants as meaning
use Rattle.ssr_names.specs.declared.lookup.PathQuestion.{PathQuestion}
use Rattle.ssr_names.specs.declared.macros.OwnMacros.{OwnMacros}
use Rattle.ssr_names.specs.declared.macros.OwnMacros.TheVariants as own
use Rattle.ssr_names.specs.declared.space.Space.{Space}
use Rattle.ssr_names.specs.Lookup.{IsKnown, IsOutside, PathStandsFor}
use Rattle.ssr_names.specs.WholePaths.{IsSeenMacro}
use Rattle.ssr_names.specs.Private.Answered.{place_of}

-- what stands for a type where something does: for what isn't read something that isn't read
pub data IsAsType (m : Meaning) : Definition → Type 0 where
  type_itself : (d : Definition) → m ≡ meaning.One d → IsAsType m d
  type_outside : (c d : Definition) → m ≡ meaning.One c → IsOutside c → IsOutside d → IsAsType m d

-- the one macro of the run with a name, if it is an item
abbrev pub IsOwnMacro : Space → Name → OwnMacros → Type 0
IsOwnMacro space name (own.One item) = IsKnown space.macros.items name (definition.Item item)
IsOwnMacro space name macros = Unit {0}

-- What a macro's name alone stands for: a macro of the run where that is seen, what its path stands for, or a macro of a crate
-- that isn't read.
pub data IsMacro (space : Space) (path : PathQuestion) (name : Name) : Definition → Type 0 where
  macro_own : (item : ItemNo) (d : Definition) → IsKnown space.macros.items name (definition.Item item) → IsSeenMacro space path.«module» item d → IsMacro space path name d
  macro_by_path : (d : Definition) → PathStandsFor space (place_of path) path.namespace path.names.now d → IsMacro space path name d
  macro_outside : (d : Definition) → IsOutside d → IsMacro space path name d

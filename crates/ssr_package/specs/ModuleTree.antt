-- The modules of a run, and which declares which.
use Rattle.std.specs.Prelude.{ℕ, ◌+◌, ◌<◌, nat_lt, Bool, true, List, [], ◌∷◌, ◌++◌, Option, Some, None, Vec, String, IfSome, length, slice_get}
use Rattle.std.specs.Option.{option_map_or, option_and_then}
use Rattle.std.specs.declared.alloc.Global.{Global}
use Rattle.ssr_package.specs.declared.crates.Crate.{Crate}
use Rattle.ssr_package.specs.declared.module_tree.Module.{Module}
use Rattle.ssr_package.specs.declared.module_tree.Origin.{Origin}
use Rattle.ssr_package.specs.declared.module_tree.Origin.TheVariants.{Root, Declared}

-- the modules, and the one whose file is read
pub record ModuleTree : Type 0 where
  pub modules : List Module
  pub here : Option ℕ

-- the number of the module that declares one; a root has none
abbrev pub declarer_of : Origin → Option ℕ
declarer_of (Root of) = None
declarer_of (Declared item) = Some item.declarer

abbrev pub declarer : Module → Option ℕ
declarer m = declarer_of m.origin

-- Each module is a root, or one that stands before it declares it. So one declares it at most, and each comes from a root.
pub data IsTree : List Module → Type 0 where
  none : IsTree []
  more : (modules : List Module) (last : Module) → IsTree modules → IfSome (declarer last) (λ number. number < length modules)
      → IsTree (modules ++ last ∷ [])

abbrev pub module_here : ModuleTree → Option Module
module_here tree = option_and_then (λ here. slice_get tree.modules here) tree.here

-- the number of the module that is next
abbrev pub next : ModuleTree → ℕ
next tree = option_map_or (λ here. here + 1) tree.here 0

abbrev pub has_next : ModuleTree → Bool
has_next tree = nat_lt (next tree) (length tree.modules)

-- a root in its own folder
abbrev pub root : String Global → Option Crate → Module
root file of = record { file = file; owns_folder = true; origin = Root of }

-- where a module comes from whose item stands in the file of this module
abbrev pub origin : Option ℕ → Vec (String Global) Global → String Global → Origin
origin (Some here) around name = Declared (record { declarer = here; around = around; name = name })
origin None around name = Root None

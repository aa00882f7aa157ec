-- What the sources say of each path of the code that is told to stand for something, and of each path that is printed.
use Rattle.std.specs.Prelude.{ℕ, ◌≡◌, ◌⊎◌, Bool, true, false, nat_lt, List, [], Option, Some, None, bytes_eq, codes, slice_get, if◌then◌else◌}
use Rattle.std.specs.Option.{option_map_or}
use Rattle.ssr_syntax_kinds.specs.declared.kinds.SyntaxKind.{SyntaxKind}
use Rattle.ssr_syntax_kinds.specs.declared.kinds.SyntaxKind.TheVariants as k
use Rattle.ssr_syntax_tree.specs.Syntax.{Syntax}
use Rattle.ssr_syntax_tree.specs.Places.{node_of}
use Rattle.ssr_base_trees.specs.declared.ids.NodeId.{NodeId}
use Rattle.ssr_base_trees.specs.declared.ids.ScopeId.{ScopeId}
use Rattle.ssr_base_trees.specs.declared.semantics.Res.{Res}
use Rattle.ssr_base_trees.specs.declared.semantics.Res.TheVariants as res
use Rattle.ssr_base_trees.specs.Workspace.{PlacedTree, with_number}
use Rattle.ssr_names_items.specs.declared.table.Name.{Name}
use Rattle.ssr_names_items.specs.declared.table.ModuleNo.{ModuleNo}
use Rattle.ssr_names_items.specs.declared.table.Namespace.{Namespace}
use Rattle.ssr_names_items.specs.declared.table.Namespace.TheVariants as ns
use Rattle.ssr_names_items.specs.declared.table.Start.{Start}
use Rattle.ssr_names_items.specs.declared.table.Start.TheVariants as starts
use Rattle.ssr_names_items.specs.declared.table.Table.{Table}
use Rattle.ssr_names_items.specs.Names.{number_of, text_of}
use Rattle.ssr_names.specs.declared.definitions.Definition.{Definition}
use Rattle.ssr_names.specs.declared.provider.Names.{Names}
use Rattle.ssr_names.specs.declared.space.Space.{Space}
use Rattle.ssr_names.specs.CodePaths.{IsSpelledAs}
use Rattle.ssr_names.specs.Declarations.{Declares, HasAliases, HasMembers, IsLater, IsOfTable}
use Rattle.ssr_names.specs.Lookup.{Place}
use Rattle.ssr_names.specs.Printed.{PathsLead}
use Rattle.ssr_names.specs.Provider.{told}
use Rattle.ssr_names.specs.Settled.{IsSettled}
use Rattle.ssr_names.specs.WholePaths.{WholeStandsFor}

-- the namespace of a path that stands in a node of this kind
abbrev pub namespace_in : SyntaxKind → Namespace
namespace_in k.PATH_EXPR = ns.Value
namespace_in k.PATH_PAT = ns.Value
namespace_in k.TUPLE_STRUCT_PAT = ns.Value
namespace_in k.MACRO_CALL = ns.Macro
namespace_in kind = ns.Type

-- the namespace of a path, by what it stands in
abbrev pub namespace_of : Syntax → ℕ → Namespace
namespace_of tree n = if nat_lt 0 n then namespace_in (node_of tree (node_of tree n).parent).kind else ns.Type

-- whether the first one of some names is `Self`
abbrev pub begins_with_self : Space → List Name → Bool
begins_with_self space names = option_map_or (λ first. bytes_eq (text_of space.table.now.names first) (codes "Self")) (slice_get names 0) false

-- a path begins with `Self`
abbrev pub BeginsWithSelf : Space → Start → List Name → Type 0
BeginsWithSelf space start names = (start ≡ starts.Plain) × (begins_with_self space names ≡ true)

-- what a path stands for that is spelled in a module; of one that begins with `Self` nothing is said
abbrev pub IsTold : Space → ModuleNo → Start → List Name → Namespace → Definition → Type 0
IsTold space m start names n d =
    WholeStandsFor space (record { start = start; within = m; import = None }) n names d ⊎ BeginsWithSelf space start names

-- a path of a tree is spelled so, and stands for a definition in a module
pub record IsToldIn (space : Space) (stranger : Name) (tree : Syntax) (path : ℕ) (m : ModuleNo) (d : Definition) : Type 0 where
  pub start : Start
  pub names : List Name
  pub spelled : IsSpelledAs space.table.now.names stranger tree path start names
  pub told : IsTold space m start names (namespace_of tree path) d

-- a path of the code stands for a definition in its scope
pub record StandsAt (space : Space) (stranger : Name) (scope_of : NodeId → Option ScopeId) (trees : List PlacedTree) (path : NodeId) (d : Definition) : Type 0 where
  pub placed : PlacedTree
  pub is : with_number trees path.tree ≡ Some placed
  pub scope : ScopeId
  pub within : scope_of path ≡ Some scope
  pub told : IsToldIn space stranger placed.syntax path.node.0 (record { 0 = scope.0 }) d

-- a thing is the definition of its number
abbrev pub IsNumbered : List Definition → Res → Definition → Type 0
IsNumbered definitions (res.Def n) d = slice_get definitions n.0 ≡ Some d
IsNumbered definitions r d = ⊥

-- What is looked up in is ready: it is what its table declares, and imports are settled. They were looked up in what there was
-- before it was known what `type` items are aliases of, and which types `impl`s are for.
pub record IsReady (space : Space) : Type 0 where
  pub of_table : IsOfTable space
  pub members : HasMembers space
  pub aliases : HasAliases space
  pub first : Space
  pub first_of_table : IsOfTable first
  pub first_members : HasMembers first
  pub first_aliases : first.aliases.items ≡ []
  pub later : IsLater first space
  pub settled : IsSettled first

-- Each path that is told to stand for a thing stands for the definition of that number, and each path that is printed leads to
-- the one of its number, by the names of the table and by what each import stands for.
pub record TellsWhatStands (table : Table) (trees : List PlacedTree) (names : Names) : Type 0 where
  -- what the paths of the code are looked up in
  pub space : Space
  -- what stands for each name that none of the run is
  pub stranger : Name
  pub is_stranger : number_of space.table.now.names (codes "?") ≡ Some stranger
  -- the definitions by their numbers
  pub definitions : List Definition
  pub declared : Declares table space.table.now
  pub ready : IsReady space
  pub stands : (path : NodeId) (r : Res) → (told names).path path ≡ Some r
      → (d : Definition) × IsNumbered definitions r d × StandsAt space stranger (told names).scope trees path d
  -- each path that is printed leads to the definition of its number
  pub printed : PathsLead space definitions (told names)

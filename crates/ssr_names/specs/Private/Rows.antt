-- Private: what rows tell of the paths of the code.
use Rattle.std.specs.Prelude.{◌≡◌, ◌⊎◌, List, Some}
use Rattle.std.specs.BTreeMap.{BTreeMap, get}
use Rattle.ssr_base_trees.specs.declared.ids.NodeId.{NodeId}
use Rattle.ssr_base_trees.specs.declared.semantics.Res.{Res}
use Rattle.ssr_base_trees.specs.contracts.ids.NodeIdOrd.TheImpl as id_order
use Rattle.ssr_base_trees.specs.Workspace.{PlacedTree}
use Rattle.ssr_names_items.specs.declared.table.Name.{Name}
use Rattle.ssr_names.specs.declared.definitions.Definition.{Definition}
use Rattle.ssr_names.specs.declared.definitions.Meaning.TheVariants as meanings
use Rattle.ssr_names.specs.declared.resolving.Row.{Row}
use Rattle.ssr_names.specs.declared.scopes.TreeScopes.{TreeScopes}
use Rattle.ssr_names.specs.declared.space.Space.{Space}
use Rattle.ssr_names.specs.Told.{IsNumbered, StandsAt}
use Rattle.ssr_names.specs.Private.Scopes.{scope_in}

-- a row tells of its path what that stands for
abbrev pub TellsRow : Space → Name → List TreeScopes → List PlacedTree → Row → Type 0
TellsRow space stranger scopes trees row = (d : Definition) → row.meaning ≡ meanings.One d → StandsAt space stranger (scope_in scopes) trees row.node d

-- each path of the rows stands for the definition of the number that it has
abbrev pub AreKnown : Space → Name → List TreeScopes → List PlacedTree → List Definition → BTreeMap NodeId Res → Type 0
AreKnown space stranger scopes trees definitions known =
    (path : NodeId) (r : Res) → get ((id_order.ghosts).cmp) known path ≡ Some r
    → (d : Definition) × IsNumbered definitions r d × StandsAt space stranger (scope_in scopes) trees path d

-- a path is added to rows, or given another thing
abbrev pub IsAdded : BTreeMap NodeId Res → BTreeMap NodeId Res → NodeId → Res → Type 0
IsAdded old new node r =
    (path : NodeId) (told : Res) → get ((id_order.ghosts).cmp) new path ≡ Some told
    → (get ((id_order.ghosts).cmp) old path ≡ Some told) ⊎ ((path ≡ node) × (told ≡ r))

-- The numbers of scopes, definitions and types.
use Rattle.std.specs.Prelude.{Option, Some}
use Rattle.serde_json.specs.Data.{Data}
use Rattle.ssr_base_trees.specs.declared.ids.ScopeId.{ScopeId}
use Rattle.ssr_base_trees.specs.declared.ids.DefId.{DefId}
use Rattle.ssr_base_trees.specs.declared.ids.TypeId.{TypeId}
use Rattle.ssr_facts_rows.specs.Fields.{◌>>=◌, number}

abbrev pub scope_id : Data → Option ScopeId
scope_id d = do
  n ← number d
  Some (record { 0 = n })

abbrev pub def_id : Data → Option DefId
def_id d = do
  n ← number d
  Some (record { 0 = n })

abbrev pub type_id : Data → Option TypeId
type_id d = do
  n ← number d
  Some (record { 0 = n })

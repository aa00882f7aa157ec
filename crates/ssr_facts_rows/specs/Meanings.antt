-- What names mean, and which types expressions have. A row is a key, or the place of a node, and what is known of it.
use Rattle.std.specs.Prelude.{ℕ, false, List, [], ◌∷◌, map, Option, Some, codes, Vec, String, string_bytes}
use Rattle.std.specs.Global.{Global}
use Rattle.serde_json.specs.Data.{Data}
use Rattle.serde_json.specs.Find.{as_str, as_bool}
use Rattle.ssr_base_trees.specs.declared.ids.ScopeId.{ScopeId}
use Rattle.ssr_base_trees.specs.declared.ids.DefId.{DefId}
use Rattle.ssr_base_trees.specs.declared.ids.TypeId.{TypeId}
use Rattle.ssr_base_trees.specs.declared.semantics.DefKind.{DefKind}
use Rattle.ssr_base_trees.specs.declared.semantics.DefKind.TheVariants as kinds
use Rattle.ssr_base_trees.specs.declared.semantics.Res.{Res}
use Rattle.ssr_base_trees.specs.declared.semantics.Res.TheVariants as things
use Rattle.ssr_base_trees.specs.declared.semantics.SelfKind.{SelfKind}
use Rattle.ssr_base_trees.specs.declared.semantics.SelfKind.TheVariants as self_kinds
use Rattle.ssr_facts_rows.specs.Fields.{◌>>=◌, number, meaning, two, three, four, five, rows, has_only, required, defaulted}
use Rattle.ssr_facts_rows.specs.Ids.{scope_id, def_id, type_id}
use Rattle.ssr_facts_rows.specs.Places.{place}
use Rattle.ssr_facts_rows.specs.declared.places.PlaceRow.{PlaceRow}
use Rattle.ssr_facts_rows.specs.declared.meanings.Definition.{Definition}
use Rattle.ssr_facts_rows.specs.declared.meanings.NameKey.{NameKey}
use Rattle.ssr_facts_rows.specs.declared.meanings.MemberKey.{MemberKey}
use Rattle.ssr_facts_rows.specs.declared.meanings.PrintedKey.{PrintedKey}
use Rattle.ssr_facts_rows.specs.declared.meanings.Method.{Method}

-- ** Definitions.

abbrev pub def_kind : Data → Option DefKind
def_kind = meaning
    (("module", kinds.Module) ∷
    ("function", kinds.Function) ∷
    ("adt", kinds.Adt) ∷
    ("variant", kinds.Variant) ∷
    ("const", kinds.Const) ∷
    ("static", kinds.Static) ∷
    ("trait", kinds.Trait) ∷
    ("type_alias", kinds.TypeAlias) ∷
    ("builtin", kinds.BuiltinType) ∷
    ("macro", kinds.Macro) ∷
    [])

-- {"kind": kind, "assoc": flag, "self": flag, "type": number}, of which only the kind has to stand
abbrev pub definition : Data → Option Definition
definition d = do
  _ ← has_only (codes "kind" ∷ codes "assoc" ∷ codes "self" ∷ codes "type" ∷ []) d
  kind ← required (codes "kind") def_kind d
  assoc ← defaulted (codes "assoc") as_bool false d
  takes_self ← defaulted (codes "self") as_bool false d
  adt_type ← defaulted (codes "type") type_id (record { 0 = 0 }) d
  Some (record { info = record { kind = kind; assoc = assoc; takes_self = takes_self }; adt_type = adt_type })

-- ** What paths stand for.

abbrev pub res_kind : Data → Option (ℕ → Res)
res_kind = meaning
    (("def", λ n. things.Def (record { 0 = n })) ∷
    ("local", things.Local) ∷
    ("typeparam", things.TypeParam) ∷
    ("constparam", things.ConstParam) ∷
    ("selftype", things.SelfType) ∷
    ("other", things.Other) ∷
    [])

-- [kind, number]
abbrev pub res : Data → Option Res
res d = do
  (kind, number_of) ← two d
  thing ← res_kind kind
  n ← number number_of
  Some (thing n)

-- ** Names.

pub record PlainNameKey : Type 0 where
  pub scope : ScopeId
  pub path : List (List ℕ)

abbrev pub plain_name_key : NameKey → PlainNameKey
plain_name_key key = record { scope = key.scope; path = map string_bytes key.path.items }

abbrev pub plain_name : NameKey × Res → PlainNameKey × Res
plain_name row = (plain_name_key row.0, row.1)

-- [scope, [text, ..], resolution]
abbrev pub name_row : Data → Option (PlainNameKey × Res)
name_row d = do
  (scope, path, thing) ← three d
  s ← scope_id scope
  p ← rows as_str path
  r ← res thing
  Some (record { scope = s; path = p }, r)

pub record PlainMemberKey : Type 0 where
  pub scope : ScopeId
  pub adt : DefId
  pub name : List ℕ

abbrev pub plain_member_key : MemberKey → PlainMemberKey
plain_member_key key = record { scope = key.scope; adt = key.adt; name = string_bytes key.name }

abbrev pub plain_member : MemberKey × DefId → PlainMemberKey × DefId
plain_member row = (plain_member_key row.0, row.1)

-- [scope, definition, name, member]
abbrev pub member_row : Data → Option (PlainMemberKey × DefId)
member_row d = do
  (scope, adt, name, member) ← four d
  s ← scope_id scope
  a ← def_id adt
  n ← as_str name
  m ← def_id member
  Some (record { scope = s; adt = a; name = n }, m)

-- ** Nodes of trees.

-- [tree, start, end, resolution]
abbrev pub path_row : Data → Option (PlaceRow × Res)
path_row d = do
  (tree, start, end, thing) ← four d
  p ← place tree start end
  r ← res thing
  Some (p, r)

abbrev pub self_kind : Data → Option SelfKind
self_kind = meaning (("owned", self_kinds.Owned) ∷ ("ref", self_kinds.Ref) ∷ ("mut", self_kinds.Mut) ∷ [])

-- [tree, start, end, definition, self]
abbrev pub method_row : Data → Option (PlaceRow × Method)
method_row d = do
  (tree, start, end, def, receiver) ← five d
  p ← place tree start end
  m ← def_id def
  s ← self_kind receiver
  Some (p, record { def = m; self_kind = s })

abbrev pub plain_types : PlaceRow × Vec TypeId Global → PlaceRow × List TypeId
plain_types row = (row.0, row.1.items)

-- [tree, start, end, [number, ..]]
abbrev pub type_row : Data → Option (PlaceRow × List TypeId)
type_row d = do
  (tree, start, end, types) ← four d
  p ← place tree start end
  ts ← rows type_id types
  Some (p, ts)

-- ** Printed paths.

abbrev pub plain_printed : PrintedKey × String Global → PrintedKey × List ℕ
plain_printed row = (row.0, string_bytes row.1)

-- [scope, definition, text]
abbrev pub printed_row : Data → Option (PrintedKey × List ℕ)
printed_row d = do
  (scope, def, text) ← three d
  s ← scope_id scope
  o ← def_id def
  t ← as_str text
  Some (record { scope = s; def = o }, t)

-- What names, types and scopes of a workspace mean: for each question to a provider a function from what is asked to the answer.
use Rattle.std.specs.Prelude.{ℕ, ◌<◌, ◌≡◌, ◌≢◌, ◌==◌, ◌^◌, Bool, false, List, Option, Some, Contains}
use Rattle.ssr_base_trees.specs.declared.ids.NodeId.{NodeId}
use Rattle.ssr_base_trees.specs.declared.ids.ScopeId.{ScopeId}
use Rattle.ssr_base_trees.specs.declared.ids.DefId.{DefId}
use Rattle.ssr_base_trees.specs.declared.ids.TypeId.{TypeId}
use Rattle.ssr_base_trees.specs.declared.semantics.Res.{Res}
use Rattle.ssr_base_trees.specs.declared.semantics.Res.TheVariants as res
use Rattle.ssr_base_trees.specs.declared.semantics.DefKind.TheVariants as kinds
use Rattle.ssr_base_trees.specs.declared.semantics.DefInfo.{DefInfo}
use Rattle.ssr_base_trees.specs.declared.semantics.SelfKind.{SelfKind}

-- whether two things are the same
abbrev pub same_res : Res → Res → Bool
same_res (res.Def a) (res.Def b) = a.0 == b.0
same_res (res.Local a) (res.Local b) = a == b
same_res (res.TypeParam a) (res.TypeParam b) = a == b
same_res (res.ConstParam a) (res.ConstParam b) = a == b
same_res (res.SelfType a) (res.SelfType b) = a == b
same_res (res.Other a) (res.Other b) = a == b
same_res a b = false

-- texts are lists of bytes
pub record Meanings : Type 0 where
  -- the scope that a node stands in
  pub scope : NodeId → Option ScopeId
  -- what the path with these segments stands for that is written in a scope
  pub lookup : ScopeId → List (List ℕ) → Option Res
  -- the member with this name of a type, as a scope sees it
  pub member : ScopeId → DefId → List ℕ → Option DefId
  pub info : DefId → DefInfo
  -- the type that a definition declares
  pub adt_type : DefId → TypeId
  -- what a path of the workspace stands for
  pub path : NodeId → Option Res
  -- the function that a method call of the workspace calls
  pub method : NodeId → Option DefId
  -- the type of an expression, and then that after each dereference
  pub types : NodeId → Option (List TypeId)
  -- how the function of a method call takes the value that it is called on
  pub self_kind : NodeId → SelfKind
  -- the path by which a scope reaches a definition
  pub path_from : ScopeId → DefId → Option (List ℕ)
  -- nodes that may stand for a thing
  pub usages : Res → List NodeId

-- a node that a program can name
abbrev pub IsNamed : NodeId → Type 0
IsNamed node = (node.tree < 2 ^ 32) × (node.node.0 < 2 ^ 32)

abbrev pub IsNoBuiltin : Meanings → Res → Type 0
IsNoBuiltin m r = (d : DefId) → r ≡ res.Def d → (m.info d).kind ≢ kinds.BuiltinType

-- Whatever uses a thing that is no builtin type is among its usages; others may be there too, and each of them more than once.
pub record IsComplete (m : Meanings) : Type 0 where
  pub paths : (r : Res) (node : NodeId) → IsNoBuiltin m r → IsNamed node → m.path node ≡ Some r → Contains (m.usages r) node
  pub methods : (d : DefId) (node : NodeId) → IsNoBuiltin m (res.Def d) → IsNamed node → m.method node ≡ Some d → Contains (m.usages (res.Def d)) node

-- What the provider of one function tells.
use Rattle.std.specs.Prelude.{ℕ, ◌≡◌, Bool, false, if◌then◌else◌, List, [], ◌∷◌, Some, None, bytes_eq}
use Rattle.std.specs.List.{list_any}
use Rattle.ssr_syntax_kinds.specs.declared.kinds.SyntaxKind.TheVariants as k
use Rattle.ssr_syntax_tree.specs.Places.{HasNode, node_of, text_of}
use Rattle.ssr_syntax_tree.specs.Syntax.{Syntax}
use Rattle.ssr_base_trees.specs.declared.ids.DefId.{DefId}
use Rattle.ssr_base_trees.specs.declared.ids.NodeId.{NodeId}
use Rattle.ssr_base_trees.specs.declared.ids.ScopeId.{ScopeId}
use Rattle.ssr_base_trees.specs.declared.semantics.DefKind.TheVariants as kinds
use Rattle.ssr_base_trees.specs.declared.semantics.Res.TheVariants as res
use Rattle.ssr_base_trees.specs.declared.semantics.SelfKind.TheVariants as takes
use Rattle.ssr_base_trees.specs.Meanings.{Meanings}
use Rattle.ssr_base_trees.specs.Workspace.{same_id}

-- whether a path has this name as its one segment
abbrev pub is_name : List ℕ → List (List ℕ) → Bool
is_name name [] = false
is_name name (segment ∷ []) = bytes_eq segment name
is_name name (segment ∷ next ∷ others) = false

abbrev pub one_scope : ScopeId
one_scope = record { 0 = 0 }

abbrev pub the_function : DefId
the_function = record { 0 = 0 }

-- the function has this name in all code, and these nodes stand for it
abbrev pub known : List ℕ → List NodeId → Meanings
known name uses = record {
  scope = λ node. Some one_scope;
  lookup = λ scope path. if is_name name path then Some (res.Def the_function) else None;
  member = λ scope type name. None;
  info = λ def. record { kind = kinds.Function; assoc = false; takes_self = false };
  adt_type = λ def. record { 0 = 0 };
  path = λ node. if list_any (same_id node) uses then Some (res.Def the_function) else None;
  method = λ call. None;
  types = λ expr. None;
  self_kind = λ call. takes.Owned;
  path_from = λ scope def. Some name;
  usages = λ res. uses;
}

-- a node is a path that is spelled so
abbrev pub IsPath : Syntax → List ℕ → ℕ → Type 0
IsPath tree spelled n = ((node_of tree n).kind ≡ k.PATH) × (text_of (node_of tree n) ≡ spelled)

-- the same, of a node of the tree with this number
abbrev pub IsPathOf : Syntax → ℕ → List ℕ → NodeId → Type 0
IsPathOf tree number spelled path = (path.tree ≡ number) × HasNode tree path.node.0 × IsPath tree spelled path.node.0

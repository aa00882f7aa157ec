-- Qualified calls: a call whose callee names an associated function that takes `self` says what a method call can say too.
use Rattle.std.specs.Prelude.{ℕ, ◌+◌, ◌==◌, Bool, ◌&&◌, List, Option, Some, None, if◌then◌else◌}
use Rattle.std.specs.List.{filter_map}
use Rattle.std.specs.Option.{option_map, option_and_then}
use Rattle.ssr_syntax_kinds.specs.declared.kinds.SyntaxKind.{SyntaxKind}
use Rattle.ssr_syntax_kinds.specs.declared.kinds.SyntaxKind.TheVariants as k
use Rattle.ssr_syntax_kinds.specs.Kinds.{same_kind}
use Rattle.ssr_syntax_tree.specs.Places.{node_of}
use Rattle.ssr_syntax_tree.specs.Syntax.{Forest, Syntax}
use Rattle.ssr_base_trees.specs.declared.ids.DefId.{DefId}
use Rattle.ssr_base_trees.specs.declared.ids.ScopeId.{ScopeId}
use Rattle.ssr_base_trees.specs.declared.ids.TypeId.{TypeId}
use Rattle.ssr_base_trees.specs.declared.semantics.DefInfo.{DefInfo}
use Rattle.ssr_base_trees.specs.declared.semantics.Res.{Res}
use Rattle.ssr_base_trees.specs.declared.semantics.Res.TheVariants as res
use Rattle.ssr_base_trees.specs.Meanings.{Meanings}
use Rattle.ide_ssr_resolved_rule.specs.declared.qualified_calls.QualifiedCall.{QualifiedCall}
use Rattle.ide_ssr_resolved_rule.specs.declared.used_paths.UsedPath.{UsedPath}
use Rattle.ide_ssr_resolved_rule.specs.Paths.{qualifier}
use Rattle.ide_ssr_resolving.specs.Resolving.{adt_of, resolution}
use Rattle.ide_ssr_resolving.specs.Used.{is_function}

-- ** Callees.

-- whether a node is the first one among the children of another: in preorder it has the next number
abbrev pub is_first_in : Syntax → ℕ → ℕ → Bool
is_first_in tree parent n = n == (parent + 1) && (node_of tree n).parent == parent

-- the node of this kind in which a node is the first one
abbrev pub first_in : Syntax → SyntaxKind → ℕ → Option ℕ
first_in tree kind n =
    if is_first_in tree (node_of tree n).parent n && same_kind (node_of tree (node_of tree n).parent).kind kind then Some (node_of tree n).parent
    else None

-- the call whose callee a path is
unfoldable pub called_by : Syntax → ℕ → Option ℕ
called_by tree path = option_and_then (first_in tree k.CALL_EXPR) (first_in tree k.PATH_EXPR path)

-- ** What they name.

abbrev pub is_method : DefInfo → Bool
is_method info = is_function info.kind && (info.assoc && info.takes_self)

-- the associated function with `self` that a thing is, if it is one
abbrev pub method_of : Meanings → Res → Option DefId
method_of m (res.Def d) = if is_method (m.info d) then Some d else None
method_of m _ = None

module _ (m : Meanings) (scope : ScopeId) where
  -- the type that a path's qualifier resolves to; a trait, say, is none
  unfoldable pub qualifier_type : Forest → Option TypeId
  qualifier_type path = option_map m.adt_type (option_and_then (adt_of m) (option_and_then (resolution m scope) (qualifier path)))

  abbrev pub call_of : Syntax → ℕ → DefId → ℕ → QualifiedCall
  call_of tree path function call =
      record { node = record { 0 = call }; function = function; qualifier_type = qualifier_type (node_of tree path).children }

  -- the qualified call that a used path is the callee of, if it is that of one
  unfoldable pub qualified_call : Syntax → UsedPath → Option QualifiedCall
  qualified_call tree path =
      option_and_then (λ function. option_map (call_of tree path.node.0 function) (called_by tree path.node.0)) (method_of m path.res)

  -- the qualified calls of all used paths, in the order of the paths, which is that of the calls too
  abbrev pub qualified_calls_of : Syntax → List UsedPath → List QualifiedCall
  qualified_calls_of tree paths = filter_map (qualified_call tree) paths

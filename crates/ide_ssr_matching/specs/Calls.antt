-- Qualified calls of a pattern against calls of the code.
use Rattle.std.specs.Prelude.{ℕ, ◌==◌, ◌&&◌, Bool, true, false, if◌then◌else◌, List, [], ◌∷◌, ◌++◌, length, map, Option, Some, None, option_to_list, is_some}
use Rattle.std.specs.List.{find, position}
use Rattle.std.specs.Option.{option_map, option_map_or, option_and_then}
use Rattle.ssr_syntax_kinds.specs.declared.kinds.SyntaxKind.{SyntaxKind}
use Rattle.ssr_syntax_kinds.specs.declared.kinds.SyntaxKind.TheVariants as k
use Rattle.ssr_syntax_kinds.specs.Kinds.{same_kind}
use Rattle.ssr_syntax_tree.specs.Places.{Node, Part, token_part, node_part, parts_of}
use Rattle.ssr_base_trees.specs.declared.ids.NodeId.{NodeId}
use Rattle.ssr_base_trees.specs.declared.ids.TypeId.{TypeId}
use Rattle.ssr_base_trees.specs.declared.semantics.Res.{Res}
use Rattle.ssr_base_trees.specs.declared.semantics.Res.TheVariants as res
use Rattle.ssr_base_trees.specs.Meanings.{Meanings, same_res}
use Rattle.ssr_base_trees.specs.Workspace.{node_id}
use Rattle.ide_ssr_resolved_rule.specs.declared.qualified_calls.QualifiedCall.{QualifiedCall}
use Rattle.ide_ssr_resolved_rule.specs.Paths.{first_of_kind}
use Rattle.ide_ssr_resolved_rule.specs.QualifiedCalls.{call_at}
use Rattle.ide_ssr_resolved_rule.specs.Resolved.{ResolvedRule}
use Rattle.ide_ssr_matching.specs.Children.{bare}
use Rattle.ide_ssr_matching.specs.UsedPaths.{arguments_of, pattern_res}
use Rattle.ide_ssr_bindings.specs.declared.receivers.Receiver.{Receiver}
use Rattle.ide_ssr_matching.specs.Sides.{Sides}

-- ** How calls are put together.

-- the nodes among siblings
abbrev pub nodes_among : List Part → List Node
nodes_among [] = []
nodes_among (token_part t token ∷ rest) = nodes_among rest
nodes_among (node_part node ∷ rest) = node ∷ nodes_among rest

abbrev pub child_nodes : Node → List Node
child_nodes node = nodes_among (parts_of node)

abbrev pub first_among : List Node → Option Node
first_among [] = None
first_among (node ∷ rest) = Some node

abbrev pub first_node : SyntaxKind → List Node → Option Node
first_node kind nodes = find (λ node. same_kind node.kind kind) nodes

-- generic arguments, if there are some, and arguments among the nodes of a call
abbrev pub generics_among : List Node → List Node
generics_among nodes = option_to_list (first_node k.GENERIC_ARG_LIST nodes)

abbrev pub arguments_among : List Node → List Node
arguments_among nodes = option_map_or child_nodes (first_node k.ARG_LIST nodes) []

-- a method call of the code
pub record Method : Type 0 where
  pub receiver : Node
  pub generics : List Node
  pub arguments : List Node

abbrev pub method_in : List Node → Option Method
method_in [] = None
method_in (receiver ∷ behind) = Some (record { receiver = receiver; generics = generics_among behind; arguments = arguments_among behind })

abbrev pub method_call : Node → Option Method
method_call c = method_in (child_nodes c)

-- a call of the pattern: the path that is its callee, and its arguments, of which it has at least one
pub record PathCall : Type 0 where
  pub path : Node
  pub arguments : List Node

-- a call of the pattern by the nodes of its callee, which is only a path, and of its arguments; the path has a segment
abbrev pub called_with : List Node → List Node → Option PathCall
called_with (path ∷ []) (first ∷ rest) =
    if same_kind path.kind k.PATH
    then option_map (λ _. record { path = path; arguments = first ∷ rest }) (first_of_kind k.PATH_SEGMENT (parts_of path))
    else None
called_with callee arguments = None

-- whether two nodes are a path expression and a list of arguments
abbrev pub are_call : Node → Node → Bool
are_call callee list = same_kind callee.kind k.PATH_EXPR && same_kind list.kind k.ARG_LIST

-- a call of the pattern by its nodes: the callee, and the list of arguments
abbrev pub called_in : List Node → Option PathCall
called_in (callee ∷ list ∷ []) = if are_call callee list then called_with (child_nodes callee) (child_nodes list) else None
called_in _ = None

abbrev pub called : Node → Option PathCall
called call = called_in (child_nodes call)

-- ** Which calls match.

-- the qualified call that a node of the pattern is, if it is one
abbrev pub call_of : ResolvedRule → Node → Option QualifiedCall
call_of rule p = call_at rule.qualified_calls (record { 0 = p.number })

-- whether a qualified call meets a method call
abbrev pub meets_method : ResolvedRule → Node → Node → Bool
meets_method rule p c = is_some (call_of rule p) && same_kind c.kind k.METHOD_CALL_EXPR

abbrev pub same_type : TypeId → TypeId → Bool
same_type a b = a.0 == b.0

-- how often an expression of the code is dereferenced to be of the qualifier's type, if it can be; without such a type, never
abbrev pub derefs : Meanings → Option TypeId → NodeId → Option ℕ
derefs m None node = Some 0
derefs m (Some type) node = option_and_then (position (same_type type)) (m.types node)

-- whether a method call calls what a callee stands for
abbrev pub calls_same : Meanings → Option Res → NodeId → Bool
calls_same m None call = false
calls_same m (Some r) call = option_map_or (λ function. same_res r (res.Def function)) (m.method call) false

-- a method call's parts in the order of a qualified call
abbrev pub method_parts : Method → List Node
method_parts method = method.generics ++ method.receiver ∷ method.arguments

-- The bare arguments of the callee are paired with the generic arguments of the method call, and the arguments with the
-- receiver and the arguments behind it.
abbrev pub method_pairs : PathCall → Method → Receiver → Sides
method_pairs called method receiver = record {
  pattern = bare (arguments_of called.path) ++ map node_part called.arguments;
  code = map node_part (method_parts method);
  receiver = Some receiver;
}

-- generic arguments are there on both sides or on neither
abbrev pub alike_pairs : PathCall → Method → Receiver → Option Sides
alike_pairs called method receiver =
    if length (bare (arguments_of called.path)) == length method.generics then Some (method_pairs called method receiver) else None

module _ (m : Meanings) (tree : ℕ) where
  -- how the method call c takes its receiver, if that can be of the qualifier's type
  abbrev pub receiver_by : Option TypeId → ℕ → ℕ → Option Receiver
  receiver_by type c receiver =
      option_map (λ count. record { node = record { 0 = receiver }; deref_count = count; self_kind = m.self_kind (node_id tree c) })
      (derefs m type (node_id tree receiver))

  -- how the method call c takes its receiver, if it calls what the callee stands for, and that can be of the qualifier's type
  abbrev pub receiver_with : Option Res → Option TypeId → ℕ → ℕ → Option Receiver
  receiver_with used type c receiver = if calls_same m used (node_id tree c) then receiver_by type c receiver else None

  abbrev pub method_with : ResolvedRule → Option TypeId → Node → PathCall → Method → Option Sides
  method_with rule type c called method =
      option_and_then (alike_pairs called method) (receiver_with (pattern_res rule called.path) type c.number method.receiver.number)

  -- a qualified call against a method call: none, where that cannot match it
  abbrev pub method_sides : ResolvedRule → QualifiedCall → Node → Node → Option Sides
  method_sides rule call p c =
      option_and_then (λ called. option_and_then (method_with rule call.qualifier_type c called) (method_call c)) (called p)

  -- whether a call of the code can be a qualified call: the first argument, if there is one, has to be of the qualifier's type,
  -- maybe after dereferences
  abbrev pub takes_first : Option TypeId → List Node → Bool
  takes_first type [] = true
  takes_first type (first ∷ rest) = is_some (derefs m type (node_id tree first.number))

  abbrev pub can_be_call : Option QualifiedCall → Node → Bool
  can_be_call None c = true
  can_be_call (Some call) c = takes_first call.qualifier_type (arguments_among (child_nodes c))

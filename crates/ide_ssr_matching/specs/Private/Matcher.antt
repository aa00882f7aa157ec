-- Private: what is bound where a matcher tests parts of its rule's pattern, by the numbers of their nodes.
use Rattle.std.specs.Prelude.{Bool, List, Option}
use Rattle.std.specs.Option.{option_and_then, option_map}
use Rattle.ssr_syntax_tree.specs.declared.number.Element.{Element}
use Rattle.ssr_syntax_tree.specs.declared.number.NodeNo.{NodeNo}
use Rattle.ssr_syntax_tree.specs.Places.{Node, node_of, part_of, root_of}
use Rattle.ssr_base_trees.specs.declared.semantics.Res.{Res}
use Rattle.ssr_base_trees.specs.Meanings.{Meanings}
use Rattle.ide_ssr_resolved_rule.specs.declared.qualified_calls.QualifiedCall.{QualifiedCall}
use Rattle.ide_ssr_bindings.specs.declared.bindings.Binding.{Binding}
use Rattle.ide_ssr_matching.specs.declared.calls.CalledNodes.{CalledNodes}
use Rattle.ide_ssr_matching.specs.declared.calls.MethodNodes.{MethodNodes}
use Rattle.ide_ssr_matching.specs.declared.matcher.Matcher.{Matcher}
use Rattle.ide_ssr_matching.specs.Bindings.{Binder, pair_by, can_match, like_pairs, like_sides, sides_of, sides_by, bindings_in}
use Rattle.ide_ssr_matching.specs.Calls.{child_nodes, method_sides}
use Rattle.ide_ssr_matching.specs.Matching.{HasShape}
use Rattle.ide_ssr_matching.specs.Records.{named_nodes, named_pairs}
use Rattle.ide_ssr_matching.specs.Sides.{Sides}
use Rattle.ide_ssr_matching.specs.Private.Bindings.{counted_by, generics_by, arguments_by}
use Rattle.ide_ssr_matching.specs.Private.Calls.{method_at, arguments_at}
use Rattle.ide_ssr_matching.specs.Private.Records.{fields_by}

module _ {S : Type 0} (told : S → Meanings) (m : Matcher S) where
  abbrev pub binder : Binder
  binder = bindings_in m.names (told m.semantics.now) m.number m.rule.now

  -- a node of the pattern, and one of the code
  abbrev pub pattern_node : NodeNo → Node
  pattern_node p = node_of m.rule.now.pattern p.0

  abbrev pub code_node : NodeNo → Node
  code_node c = node_of m.code.now c.0

  abbrev pub by_sides : Option Sides → Option (List Binding)
  by_sides sides = option_and_then (sides_by binder) sides

  -- the root of the pattern
  abbrev pub at_root : NodeNo → Option (List Binding)
  at_root c = binder (root_of m.rule.now.pattern) (code_node c)

  -- what the first phase accepts
  abbrev pub HasRootShape : NodeNo → Type 0
  HasRootShape c = HasShape (told m.semantics.now) m.number m.rule.now (root_of m.rule.now.pattern) (code_node c)

  -- any node of the pattern
  abbrev pub at_node : NodeNo → NodeNo → Option (List Binding)
  at_node p c = binder (pattern_node p) (code_node c)

  -- one that is no placeholder and no token tree
  abbrev pub at_parts : NodeNo → NodeNo → Option (List Binding)
  at_parts p c = by_sides (sides_of m.names (told m.semantics.now) m.number m.rule.now (pattern_node p) (code_node c))

  -- a qualified call, and a method call of the code
  abbrev pub call_sides : QualifiedCall → NodeNo → NodeNo → Option Sides
  call_sides call p c = method_sides (told m.semantics.now) m.number m.rule.now call (pattern_node p) (code_node c)

  abbrev pub at_method : QualifiedCall → NodeNo → NodeNo → Option (List Binding)
  at_method call p c = by_sides (call_sides call p c)

  abbrev pub at_generics : CalledNodes → MethodNodes → Option (List Binding)
  at_generics called method = generics_by binder (pattern_node called.path) (method_at m.code.now method).generics

  abbrev pub at_arguments : CalledNodes → MethodNodes → Option (List Binding)
  at_arguments called method = arguments_by binder (child_nodes (pattern_node called.list)) (arguments_at m.code.now method)

  -- a node that matches those of its kind
  abbrev pub at_like : NodeNo → NodeNo → Option (List Binding)
  at_like p c = by_sides (like_sides m.names (told m.semantics.now) m.number m.rule.now (pattern_node p) (code_node c))

  abbrev pub can_be_like : Option Res → NodeNo → NodeNo → Bool
  can_be_like used p c = can_match m.names (told m.semantics.now) m.number m.rule.now used (pattern_node p) (code_node c)

  -- the parts of such a node
  abbrev pub at_pairs : Option Res → NodeNo → NodeNo → Option (List Binding)
  at_pairs used p c = by_sides (like_pairs m.names (told m.semantics.now) m.number m.rule.now used (pattern_node p) (code_node c))

  -- lists of record fields
  abbrev pub at_named : NodeNo → NodeNo → Option (List Binding)
  at_named p c = by_sides (option_map (named_pairs (pattern_node p)) (named_nodes (pattern_node p) (code_node c)))

  abbrev pub at_fields : NodeNo → NodeNo → Option (List Binding)
  at_fields p c = fields_by binder (child_nodes (pattern_node p)) (child_nodes (code_node c))

  -- what counts of both nodes
  abbrev pub at_children : Option Res → NodeNo → NodeNo → Option (List Binding)
  at_children used p c = counted_by binder used (pattern_node p) (code_node c)

  -- children, which may be tokens
  abbrev pub at_elements : Element → Element → Option (List Binding)
  at_elements p c = pair_by binder (part_of m.rule.now.pattern p) (part_of m.code.now c)

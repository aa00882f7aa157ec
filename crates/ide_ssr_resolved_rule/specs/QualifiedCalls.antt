-- Qualified calls of a tree by their nodes.
use Rattle.std.specs.Prelude.{◌==◌, All, List, Option}
use Rattle.std.specs.List.{find}
use Rattle.ssr_syntax_tree.specs.declared.number.NodeNo.{NodeNo}
use Rattle.ssr_syntax_tree.specs.Places.{HasNode}
use Rattle.ssr_syntax_tree.specs.Syntax.{Syntax}
use Rattle.ide_ssr_resolved_rule.specs.declared.qualified_calls.QualifiedCall.{QualifiedCall}

-- qualified calls are nodes of their tree
abbrev pub HasCalls : Syntax → List QualifiedCall → Type 0
HasCalls tree calls = All (λ call. HasNode tree call.node.0) calls

-- the qualified call that a node is, if it is one of these
abbrev pub call_at : List QualifiedCall → NodeNo → Option QualifiedCall
call_at calls node = find (λ call. call.node.0 == node.0) calls

-- Which placeholders of a template are receivers of method calls. What the code has in such a place is called on as it is.
use Rattle.std.specs.Prelude.{ℕ, ◌==◌, Bool, false, List, [], ◌∷◌, Option, Some, None, if◌then◌else◌}
use Rattle.std.specs.List.{list_any}
use Rattle.std.specs.Option.{option_and_then, option_map_or}
use Rattle.ssr_syntax_kinds.specs.declared.kinds.SyntaxKind.TheVariants as k
use Rattle.ssr_syntax_kinds.specs.Kinds.{same_kind}
use Rattle.ssr_syntax_tree.specs.Places.{Node, Part, token_part, node_part, nodes_of, parts_of}
use Rattle.ssr_syntax_tree.specs.Syntax.{Syntax}
use Rattle.ide_ssr_resolved_rule.specs.Placeholders.{placeholder_at}
use Rattle.ide_ssr_resolved_rule.specs.Resolved.{ResolvedRule}

-- the first child, if it is a node
abbrev pub first_if_node : List Part → Option Node
first_if_node [] = None
first_if_node (token_part t token ∷ rest) = None
first_if_node (node_part node ∷ rest) = Some node

-- the receiver of a method call is its first child
abbrev pub receiver_of : Node → Option Node
receiver_of call = first_if_node (parts_of call)

-- the placeholder that is alone the receiver of the method call that a node is
abbrev pub placeholder_called_on : List (List ℕ) → Node → Option ℕ
placeholder_called_on names node =
    if same_kind node.kind k.METHOD_CALL_EXPR then option_and_then (placeholder_at names) (receiver_of node) else None

abbrev pub is_called_on : List (List ℕ) → ℕ → Node → Bool
is_called_on names i node = option_map_or (λ j. j == i) (placeholder_called_on names node) false

-- Whether the placeholder whose name has the place i is alone the receiver of the nearest method call above it in a template.
-- No call stands between it and one that it is the receiver of: in that there would be more than the placeholder.
abbrev pub is_receiver_in : List (List ℕ) → Syntax → ℕ → Bool
is_receiver_in names template i = list_any (is_called_on names i) (nodes_of template)

-- that, in the template of a rule
unfoldable pub is_receiver : ResolvedRule → ℕ → Bool
is_receiver rule i = option_map_or (λ template. is_receiver_in rule.names template i) rule.template false

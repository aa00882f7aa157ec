-- Nodes of a pattern that have placeholders among their own tokens.
use Rattle.std.specs.Prelude.{ℕ, ◌&&◌, ◌||◌, not, Bool, false, List, [], ◌∷◌, Option, None, if◌then◌else◌, is_some}
use Rattle.std.specs.Option.{is_none}
use Rattle.ssr_syntax_kinds.specs.declared.kinds.SyntaxKind.TheVariants as k
use Rattle.ssr_syntax_kinds.specs.Kinds.{same_kind}
use Rattle.ssr_syntax_tree.specs.Places.{Node, Part, token_part, node_part, parts_of}
use Rattle.ide_ssr_resolved_rule.specs.StandIns.{name_at}
use Rattle.ide_ssr_resolved_rule.specs.Placeholders.{placeholder_at, token_placeholders}
use Rattle.ide_ssr_resolved_rule.specs.Resolved.{ResolvedRule}
use Rattle.ide_ssr_bindings.specs.declared.bindings.Binding.{Binding}
use Rattle.ide_ssr_token_trees.specs.Bindings.{placeholder_in, tree_bindings}

abbrev pub is_token_tree : Node → Bool
is_token_tree node = same_kind node.kind k.TOKEN_TREE

-- which placeholder a token of the pattern is, by its number
abbrev pub token_placeholder : ResolvedRule → ℕ → Option ℕ
token_placeholder rule = placeholder_in (token_placeholders rule.names rule.pattern)

-- what the placeholders of a token tree hold where another one matches it
abbrev pub tree_by : ResolvedRule → Node → Node → Option (List Binding)
tree_by rule p c = if is_token_tree c then tree_bindings (token_placeholder rule) p c else None

-- whether one of these children is a token that is a placeholder
abbrev pub has_token_placeholder : ResolvedRule → List Part → Bool
has_token_placeholder rule [] = false
has_token_placeholder rule (token_part t token ∷ rest) = is_some (name_at rule.names token) || has_token_placeholder rule rest
has_token_placeholder rule (node_part node ∷ rest) = has_token_placeholder rule rest

-- Whether a node of the pattern is no `macro_rules` item of which a token of its own is a placeholder. In such an item an
-- identifier stands beside other children, the word `macro_rules`. Were it a placeholder, the item would match nothing.
abbrev pub is_plain : ResolvedRule → Node → Bool
is_plain rule p = not (same_kind p.kind k.MACRO_RULES && has_token_placeholder rule (parts_of p))

-- whether a node of the pattern is matched by its parts: it is no placeholder and no token tree
abbrev pub is_by_parts : ResolvedRule → Node → Bool
is_by_parts rule p = is_none (placeholder_at rule.names p) && (not (is_token_tree p) && is_plain rule p)

-- Placeholders in macro calls: nothing tests their constraints there.
use Rattle.std.specs.Prelude.{ℕ, Bool, true, false, ◌&&◌, List, Option, Some, None, bytes_eq, if◌then◌else◌}
use Rattle.std.specs.List.{list_any}
use Rattle.ssr_syntax_kinds.specs.declared.kinds.SyntaxKind.{SyntaxKind}
use Rattle.ssr_syntax_kinds.specs.declared.kinds.SyntaxKind.TheVariants as k
use Rattle.ssr_syntax_kinds.specs.Kinds.{is_ident}
use Rattle.ssr_syntax_tree.specs.Places.{Node, Part, token_part, node_part, parts_of, nodes_of}
use Rattle.ssr_syntax_tree.specs.Syntax.{Syntax}
use Rattle.ide_ssr_rules.specs.declared.elements.Element.{Element}
use Rattle.ide_ssr_rules.specs.declared.elements.Element.TheVariants as e
use Rattle.ide_ssr_rules.specs.declared.kinds.ParsedRule.{ParsedRule}
use Rattle.ide_ssr_rules.specs.Elements.{asks}
use Rattle.ide_ssr_resolved_rule.specs.StandIns.{stand_in_of}
use Rattle.ide_ssr_rules.specs.StandIns.{first_of}

abbrev pub is_token_tree : SyntaxKind → Bool
is_token_tree k.TOKEN_TREE = true
is_token_tree _ = false

-- whether a child is an identifier of this text
abbrev pub is_spelled : List ℕ → Part → Bool
is_spelled text (token_part t token) = is_ident token.kind && bytes_eq token.text text
is_spelled text (node_part node) = false

-- whether a node is a token tree with a child that is an identifier of this text
abbrev pub is_tree_with : List ℕ → Node → Bool
is_tree_with text node = is_token_tree node.kind && list_any (is_spelled text) (parts_of node)

-- whether an identifier stands in a token tree; what stands in one is a child of it, or of one in it
unfoldable pub in_token_tree : List ℕ → Syntax → Bool
in_token_tree text tree = list_any (is_tree_with text) (nodes_of tree)

abbrev pub in_macro_call : List ParsedRule → List ℕ → Bool
in_macro_call kinds name = list_any (λ kind. in_token_tree (stand_in_of name) kind.pattern) kinds

-- the name of a placeholder whose constraints nothing tests, since the name is one of those that pass
abbrev pub untested_name : (List ℕ → Bool) → Element → Option (List ℕ)
untested_name passes (e.Token token) = None
untested_name passes (e.Placeholder placeholder) =
    if asks placeholder.constraints && passes placeholder.name then Some placeholder.name else None

-- the name of the first placeholder in a pattern whose constraints nothing tests
abbrev pub untested : List ParsedRule → List Element → Option (List ℕ)
untested kinds pattern = first_of (untested_name (in_macro_call kinds)) pattern

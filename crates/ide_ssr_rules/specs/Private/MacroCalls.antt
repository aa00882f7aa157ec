-- Private: names that are collected from token trees.
use Rattle.std.specs.Prelude.{ℕ, ◌≡◌, ◌||◌, Bool, List, Option, Some, None, if◌then◌else◌}
use Rattle.ssr_syntax_kinds.specs.Kinds.{is_ident}
use Rattle.ssr_syntax_tree.specs.Places.{Node, Part, token_part, node_part}
use Rattle.ssr_syntax_tree.specs.Syntax.{Syntax}
use Rattle.ide_ssr_resolved_rule.specs.Names.{has}
use Rattle.ide_ssr_rules.specs.MacroCalls.{is_spelled, is_tree_with, in_token_tree}
use Rattle.ide_ssr_resolved_rule.specs.StandIns.{stand_in_of}

-- the text of a part that is an identifier
abbrev pub ident_text : Part → Option (List ℕ)
ident_text (token_part t token) = if is_ident token.kind then Some token.text else None
ident_text (node_part node) = None

-- whether a name's stand-in is a part, or stands in a token tree
abbrev pub in_part : Part → List ℕ → Bool
in_part part name = is_spelled (stand_in_of name) part

abbrev pub in_node : Node → List ℕ → Bool
in_node node name = is_tree_with (stand_in_of name) node

abbrev pub in_tree : Syntax → List ℕ → Bool
in_tree tree name = in_token_tree (stand_in_of name) tree

-- the new names are the old ones, and those that pass
abbrev pub HasAlso : List (List ℕ) → (List ℕ → Bool) → List (List ℕ) → Type 0
HasAlso old passes new = (name : List ℕ) → has new name ≡ (has old name || passes name)

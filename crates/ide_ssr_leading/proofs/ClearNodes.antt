-- What the grammar keeps of paths and token trees, at each node of a pattern and on the way down from it.
use Rattle.std.proofs.Common.{◌≡◌, ℕ, zero, suc, ◌+◌, ◌||◌, true, not, List, All, Option, Some, sym, ap, ◌∙◌, subst, inl, inr, arith}
use Rattle.std.specs.Option.{option_and_then}
use Rattle.std.proofs.lemmas.Bool.{and_parts}
use Rattle.std.proofs.lemmas.List.Elements.{All-append, All-cons, All-get_or, All-nil}
use Rattle.std.proofs.lemmas.Option.{none-some}
use Rattle.ssr_syntax_kinds.specs.declared.kinds.SyntaxKind.TheVariants as k
use Rattle.ssr_syntax_kinds.specs.Kinds.{same_kind}
use Rattle.ssr_syntax_tree.specs.ClearPaths.{are_token_trees, begin_with_sign, is_arguments, is_clear, HaveClearPaths, HasClearPaths}
use Rattle.ssr_syntax_tree.specs.Places.{Node, nodes_in, nodes_of, parts_in, root_of}
use Rattle.ssr_syntax_tree.specs.Syntax.{Token, Forest, nothing, leaf, branch, Syntax, node_count, token_count}
use Rattle.ssr_syntax_tree.proofs.Shared.{length-nodes_of, node_is}
use Rattle.ide_ssr_resolved_rule.specs.Placeholders.{only_token, placeholder_at}
use Rattle.ide_ssr_resolved_rule.specs.StandIns.{name_at}
use Rattle.ide_ssr_matching.specs.Calls.{nodes_among}
use Rattle.ide_ssr_matching.specs.TokenTrees.{is_token_tree}
use Rattle.ide_ssr_leading.proofs.Facts.{IsAmong, Below, IsNodeIn}
use Rattle.ide_ssr_leading.proofs.Way.{is_child}

-- ** Each node.

abbrev pub IsClear : Node → Type 0
IsClear node = (is_clear node.kind node.children ≡ true) × HaveClearPaths node.children

clear_in : (parent m t : ℕ) (forest : Forest) → HaveClearPaths forest → All IsClear (nodes_in parent m t forest)
clear_in parent m t nothing clear = All-nil IsClear
clear_in parent m t (leaf token next) clear = clear_in parent m (1 + t) next clear
clear_in parent m t (branch kind below next) clear =
    let inner = nodes_in m (1 + m) t below in
    let behind = nodes_in parent (1 + m + node_count below) (t + token_count below) next in
    All-cons IsClear (record { number = m; parent = parent; first = t; kind = kind; children = below }) _ (clear.0, clear.1)
    (All-append IsClear inner behind (clear_in m (1 + m) t below clear.1) (clear_in parent (1 + m + node_count below) (t + token_count below) next clear.2))

pub clear_node : (s : Syntax) (p : Node) → HasClearPaths s → IsNodeIn s p → IsClear p
clear_node s p clear is =
    let has = is.has in
    subst IsClear (sym (node_is s p.number has) ∙ is.is)
    (All-get_or IsClear (nodes_of s) p.number (root_of s) (omega (arith, has, length-nodes_of s))
    (All-cons IsClear (root_of s) (nodes_in 0 1 0 s.children) clear (clear_in 0 1 0 s.children clear.1)))

-- ** Token trees.

tree_among : (parent m t : ℕ) (forest : Forest) (child : Node) → are_token_trees forest ≡ true → IsAmong (nodes_among (parts_in parent m t forest)) child
    → is_token_tree child ≡ true
tree_among parent m t nothing child trees among = absurd among
tree_among parent m t (leaf token next) child trees among = tree_among parent m (1 + t) next child trees among
tree_among parent m t (branch kind below next) child trees (inl same) =
    ap is_token_tree same ∙ (and_parts (same_kind kind k.TOKEN_TREE) (are_token_trees next) trees).0
tree_among parent m t (branch kind below next) child trees (inr later) =
    tree_among parent (1 + m + node_count below) (t + token_count below) next child (and_parts (same_kind kind k.TOKEN_TREE) (are_token_trees next) trees).1 later

are_trees : (p : Node) → IsClear p → is_token_tree p ≡ true → are_token_trees p.children ≡ true
are_trees p clear tree =
    let inner = are_token_trees p.children in
    ap (λ b. not b || inner) (sym tree)
    ∙ (and_parts (not (is_token_tree p) || inner) (not (is_arguments p.kind) || begin_with_sign p.children) clear.0).0

-- all nodes below a token tree are token trees
pub trees_below : (s : Syntax) (d : ℕ) (q p : Node) → HasClearPaths s → IsNodeIn s p → Below q p d → is_token_tree p ≡ true → is_token_tree q ≡ true
trees_below s zero q p clear is below tree = ap is_token_tree below ∙ tree
trees_below s (suc d) q p clear is below tree =
    let child = below.0 in
    trees_below s d q child clear (is_child s p child is below.1).node below.2
    (tree_among p.number (1 + p.number) p.first p.children child (are_trees p (clear_node s p clear is) tree) below.1)

-- ** Single children.

alone_among : (f : Token → Option ℕ) (parent m t : ℕ) (forest : Forest) (child : Node) (i : ℕ) → IsAmong (nodes_among (parts_in parent m t forest)) child
    → option_and_then f (only_token forest) ≡ Some i → option_and_then f (only_token child.children) ≡ Some i
alone_among f parent m t nothing child i among is = absurd among
alone_among f parent m t (leaf token nothing) child i among is = absurd among
alone_among f parent m t (leaf token (leaf u next)) child i among is = absurd (none-some i is)
alone_among f parent m t (leaf token (branch kind below next)) child i among is = absurd (none-some i is)
alone_among f parent m t (branch kind below nothing) child i (inl same) is = ap (λ (node : Node). option_and_then f (only_token node.children)) same ∙ is
alone_among f parent m t (branch kind below nothing) child i (inr later) is = absurd later
alone_among f parent m t (branch kind below (leaf u next)) child i among is = absurd (none-some i is)
alone_among f parent m t (branch kind below (branch other more next)) child i among is = absurd (none-some i is)

-- what stands below a placeholder is that placeholder
pub placeholder_below : (names : List (List ℕ)) (d : ℕ) (q p : Node) (i : ℕ) → Below q p d → placeholder_at names p ≡ Some i → placeholder_at names q ≡ Some i
unfolding placeholder_at
placeholder_below names zero q p i below is = ap (placeholder_at names) below ∙ is
placeholder_below names (suc d) q p i below is =
    let child = below.0 in
    placeholder_below names d q child i below.2 (alone_among (name_at names) p.number (1 + p.number) p.first p.children child i below.1 is)

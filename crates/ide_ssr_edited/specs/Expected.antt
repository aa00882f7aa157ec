-- The tree that a file is expected to have when its edit is made.
use Rattle.std.specs.Prelude.{ℕ, ◌-◌, ◌==◌, ◌&&◌, eqb, if◌then◌else◌, Bool, true, false, List, [], ◌∷◌, filter, length, slice_get, take, Option, Some, None}
use Rattle.std.specs.List.{ends_with}
use Rattle.std.specs.Option.{option_and_then, option_map, option_map_or}
use Rattle.std.specs.Result.{result_ok}
use Rattle.ssr_syntax_kinds.specs.declared.fragment.Fragment.{Fragment}
use Rattle.ssr_syntax_kinds.specs.declared.fragment.Fragment.TheVariants as fragments
use Rattle.ssr_syntax_tree.specs.Places.{node_of}
use Rattle.ssr_syntax_tree.specs.Syntax.{Syntax}
use Rattle.ssr_syntax.specs.Reading.{fragment_reading_of}
use Rattle.ssr_base_trees.specs.Changes.{Change}
use Rattle.ssr_base_trees.specs.Workspace.{Workspace, original_range, tree_of, trees}
use Rattle.ide_ssr_bindings.specs.Found.{FoundMatch}
use Rattle.ide_ssr_resolved_rule.specs.Resolved.{ResolvedRule}
use Rattle.ide_ssr_debugging.specs.Expressions.{is_expression}
use Rattle.ide_ssr_nesting.specs.Holding.{Kept}
use Rattle.ide_ssr_nesting.specs.Lists.{Listing, listed}
use Rattle.ide_ssr_rewriting.specs.Replacements.{comments_kept}
use Rattle.ssr_swaps.specs.declared.swap.Swap.{Swap}
use Rattle.ssr_swaps.specs.Swapped.{with_swaps}

-- ** The outermost matches of a file.

-- a match comes from this file
abbrev pub comes_from : Workspace → ℕ → FoundMatch → Bool
comes_from w file m = option_map_or (λ range. range.file == file) (original_range (trees w) m.node) false

-- the kept match of this place does
abbrev pub lies_in : Kept → ℕ → ℕ → Bool
lies_in kept file n = option_map_or (comes_from kept.workspace file) (slice_get kept.matches n) false

-- the places of the outermost matches of a file, in order
abbrev pub places_in : Kept → Listing → ℕ → List ℕ
places_in kept lists file = filter (lies_in kept file) (listed lists None)

-- ** What stands in their places.

abbrev pub is_expr : Fragment → Bool
is_expr fragments.Expr = true
is_expr category = false

-- the template of a match's rule is an expression
abbrev pub becomes_expression : List ResolvedRule → FoundMatch → Bool
becomes_expression rules m = option_map_or (λ rule. is_expr rule.category) (slice_get rules m.rule) false

-- an expression of the file's own tree, which is rewritten to an expression
abbrev pub is_of_expressions : Workspace → List ResolvedRule → ℕ → FoundMatch → Bool
is_of_expressions w rules file m =
    m.node.tree == file
    && (option_map_or (λ tree. is_expression (node_of tree m.node.node.0).kind) (tree_of w m.node.tree) false
    && becomes_expression rules m)

-- what a text has in front of its end, if it ends so
abbrev pub in_front_of : List ℕ → List ℕ → Option (List ℕ)
in_front_of end text = if ends_with eqb text end then Some (take (length text - length end) text) else None

-- what a change writes for a match, if it is an expression, the comments aside that the match keeps, which stand behind it
abbrev pub written : Workspace → FoundMatch → Change → Option Syntax
written w m c = option_and_then (λ text. result_ok (fragment_reading_of w.reach fragments.Expr text)) (in_front_of (comments_kept w m) c.text)

-- what stands in the place of a match's node
abbrev pub swap_of : Workspace → List ResolvedRule → ℕ → Change → FoundMatch → Option Swap
swap_of w rules file c m =
    if is_of_expressions w rules file m then option_map (λ tree. record { node = m.node.node; tree = tree }) (written w m c) else None

-- the same of the kept match of this place
abbrev pub swap_at_place : Kept → List ResolvedRule → ℕ → ℕ → Change → Option Swap
swap_at_place kept rules file n c = option_and_then (swap_of kept.workspace rules file c) (slice_get kept.matches n)

-- for each of the matches of these places, of which each has its change, what stands in its node's place
abbrev pub swaps_for : Kept → List ResolvedRule → ℕ → List ℕ → List Change → Option (List Swap)
swaps_for kept rules file [] [] = Some []
swaps_for kept rules file [] (c ∷ cs) = None
swaps_for kept rules file (n ∷ ns) [] = None
swaps_for kept rules file (n ∷ ns) (c ∷ cs) =
    option_and_then (λ swap. option_map (λ swaps. swap ∷ swaps) (swaps_for kept rules file ns cs)) (swap_at_place kept rules file n c)

-- The tree of a file with what is written for its outermost matches in the places of their nodes. There is one where they are all
-- expressions of the file's own tree, and so is what is written for them.
abbrev pub expected : Kept → Listing → List ResolvedRule → ℕ → Syntax → List Change → Option Syntax
expected kept lists rules file tree cs =
    option_map (λ swaps. with_swaps swaps tree) (swaps_for kept rules file (places_in kept lists file) cs)

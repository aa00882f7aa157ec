-- What a match holds is there.
use Rattle.std.proofs.Common.{◌≡◌, ℕ, Bool, true, false, All, List, Option, Some, None, refl}
use Rattle.std.proofs.lemmas.Bool.{false≢true}
use Rattle.std.proofs.lemmas.List.Elements.{All-weaker}
use Rattle.std.proofs.lemmas.Option.{option_and_then_some}
use Rattle.std.specs.Prelude.{IsSome, if◌then◌else◌}
use Rattle.std.specs.Option.{IsSomeAnd, option_map}
use Rattle.ssr_syntax_tree.specs.Syntax.{Syntax}
use Rattle.ssr_base_trees.specs.declared.ids.TokenRun.{TokenRun}
use Rattle.ssr_base_trees.specs.Laws.{LiesIn}
use Rattle.ssr_base_trees.specs.Origins.{Span}
use Rattle.ssr_base_trees.specs.Workspace.{Workspace, PlacedTree, FileSpan, trees, with_number, tree_of, file_of, node_id, has_run, original_run_in, original_run, original_range, run_range}
use Rattle.ssr_base_trees.proofs.Shared.{and_some}
use Rattle.ide_ssr_bindings.specs.declared.bindings.Held.{Held}
use Rattle.ide_ssr_bindings.specs.declared.bindings.Held.TheVariants as held
use Rattle.ide_ssr_bindings.specs.Apart.{HasHeld}
use Rattle.ide_ssr_bindings.specs.Found.{FoundMatch, range_of_held, IsInRange, IsMatch}
use Rattle.ide_ssr_bindings.proofs.Nodes.{is_tree, in_tree, ranged_node, has_node}

-- tokens with an original range are tokens of their tree
ranged_tokens : (ts : List PlacedTree) (t : ℕ) (run : TokenRun) → IsSome (run_range ts t run) → IsSomeAnd (with_number ts t) (λ p. has_run p.syntax run ≡ true)
ranged_tokens ts t run = by (original_run ts t run) refl
  where
    in_file : Span → FileSpan
    in_file span = record { file = file_of ts t; span = span }

    tested : (p : PlacedTree) (span : Span) → with_number ts t ≡ Some p → (b : Bool) → has_run p.syntax run ≡ b
        → ◌≡◌ {A = Option Span} (if b then original_run_in p run else None) (Some span) → IsSomeAnd (with_number ts t) (λ p. has_run p.syntax run ≡ true)
    tested p span is true test here = and_some (with_number ts t) (λ p. has_run p.syntax run ≡ true) p is test
    tested p span is false test here = cc

    by : (o : Option Span) → original_run ts t run ≡ o → IsSome (option_map in_file o) → IsSomeAnd (with_number ts t) (λ p. has_run p.syntax run ≡ true)
    by None is ranged = absurd (false≢true ranged)
    by (Some span) is ranged =
        option_and_then_some {P = IsSomeAnd (with_number ts t) (λ p. has_run p.syntax run ≡ true)} (λ p. if has_run p.syntax run then original_run_in p run else None)
        (with_number ts t) span is
        (λ p plants here. tested p span plants (has_run p.syntax run) refl here)

-- what is held and has an original range is there
ranged_held : (w : Workspace) (t : ℕ) (s : Syntax) (h : Held) → tree_of w t ≡ Some s → IsSome (range_of_held (trees w) t h) → HasHeld s h
ranged_held w t s (held.Node node) is ranged = has_node w (node_id t node.0) s is (ranged_node (trees w) (node_id t node.0) ranged)
ranged_held w t s (held.Tokens run) is ranged =
    in_tree (trees w) t s (λ s. has_run s run ≡ true) (is_tree w t s is) (ranged_tokens (trees w) t run ranged)

-- what a match holds is there
pub has_held : (w : Workspace) (m : FoundMatch) (s : Syntax) → tree_of w m.node.tree ≡ Some s → IsMatch (trees w) m → All (λ b. HasHeld s b.held) m.bindings
has_held w m s is match =
    All-weaker (IsInRange (trees w) m.node) (λ b. HasHeld s b.held)
    (λ b within. ranged_held w m.node.tree s b.held is
    (there (range_of_held (trees w) m.node.tree b.held) (λ inner. IsSomeAnd (original_range (trees w) m.node) (λ outer. LiesIn inner outer)) within))
    m.bindings match.held
  where
    there : (o : Option FileSpan) (P : FileSpan → Type 0) → IsSomeAnd o P → IsSome o
    there None P known = absurd known
    there (Some range) P known = refl

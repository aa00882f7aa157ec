-- The way up in a workspace undoes the way down in a tree of it.
use Rattle.std.proofs.Common.{◌≡◌, ℕ, zero, suc, ◌+◌, List, Some, ap, ◌∙◌, arith}
use Rattle.ssr_syntax_tree.specs.Places.{Node}
use Rattle.ssr_base_trees.proofs.Shared.{climbed_next, above_inner, climbed_on}
use Rattle.ssr_base_trees.specs.Laws.{climbed}
use Rattle.ssr_base_trees.specs.Workspace.{PlacedTree, with_number, node_id, above}
use Rattle.ide_ssr_leading.proofs.Facts.{Below, IsNodeIn}
use Rattle.ide_ssr_leading.proofs.Way.{is_child}

module _ (ts : List PlacedTree) (t : ℕ) (p : PlacedTree) (is : with_number ts t ≡ Some p) where
  pub climb : (d : ℕ) (e c : Node) → IsNodeIn p.syntax c → Below e c d → climbed ts d (node_id t e.number) ≡ Some (node_id t c.number)
  climb zero e c there below = ap (λ (x : Node). Some (node_id t x.number)) below
  climb (suc d) e c there below =
      let child = below.0 in
      let known = is_child p.syntax c child there below.1 in
      let behind = known.behind in
      let up : above ts (node_id t child.number) ≡ Some (node_id t c.number) =
      above_inner ts t child.number p is known.node.has (omega arith)
      ∙ ap (λ (x : Node). Some (node_id t x.parent)) known.node.is
      ∙ ap (λ n. Some (node_id t n)) known.parent
      in
      ap (λ n. climbed ts n (node_id t e.number)) (let same : suc d ≡ d + 1 = omega arith in same)
      ∙ climbed_on ts d 1 (node_id t e.number) (node_id t child.number) (node_id t c.number) (climb d e child known.node below.2)
      (climbed_next ts 0 (node_id t child.number) (node_id t c.number) up)

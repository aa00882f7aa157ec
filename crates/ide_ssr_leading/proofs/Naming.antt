-- Trees whose nodes a program can name.
use Rattle.std.proofs.Common.{◌≡◌, ℕ, ◌+◌, ◌<◌, ◌≤◌, ◌^◌, List, length, Some, None, ap, ◌∙◌, subst, arith, inl, inr}
use Rattle.std.proofs.lemmas.Bool.{cases_lt}
use Rattle.std.proofs.lemmas.Option.{none-some, same_Some}
use Rattle.std.specs.Option.{option_map}
use Rattle.ssr_syntax_tree.specs.Syntax.{Syntax, node_count}
use Rattle.ssr_base_trees.specs.Workspace.{Workspace, PlacedTree, trees, with_number, tree_of}
use Rattle.ssr_base_trees.specs.Built.{IsBuilt}
use Rattle.ssr_base_trees.proofs.Shared.{placed_within, length-trees}
use Rattle.ide_ssr_leading.specs.Found.{AreNamed}

-- the trees with a number below n have few nodes
abbrev pub AreNamedTo : List PlacedTree → ℕ → Type 0
AreNamedTo ts n = (t : ℕ) (p : PlacedTree) → t < n → with_number ts t ≡ Some p → 1 + node_count p.syntax.children < 2 ^ 32

pub named_none : (ts : List PlacedTree) → AreNamedTo ts 0
named_none ts t p before is = absurd (omega arith)

pub named_more : (w : Workspace) (n : ℕ) → ((p : PlacedTree) → with_number (trees w) n ≡ Some p → 1 + node_count p.syntax.children < 2 ^ 32)
    → AreNamedTo (trees w) n → AreNamedTo (trees w) (n + 1)
named_more w n here so_far t p before is =
    elim (cases_lt t n) [
      | inl low ↦ so_far t p low is
      | inr high ↦
          let same : t ≡ n = omega arith in
          here p (subst (λ t. with_number (trees w) t ≡ Some p) same is)
    ]

pub named_tree : (w : Workspace) (n : ℕ) (s : Syntax) → Some s ≡ tree_of w n → 1 + node_count s.children < 2 ^ 32
    → (p : PlacedTree) → with_number (trees w) n ≡ Some p → 1 + node_count p.syntax.children < 2 ^ 32
named_tree w n s is few p at =
    let same : s ≡ p.syntax = same_Some s p.syntax (is ∙ ap (option_map (λ (p : PlacedTree). p.syntax)) at) in
    subst (λ s. 1 + node_count s.children < 2 ^ 32) same few

pub named_nothing : (w : Workspace) (n : ℕ) → None ≡ tree_of w n
    → (p : PlacedTree) → with_number (trees w) n ≡ Some p → 1 + node_count p.syntax.children < 2 ^ 32
named_nothing w n none p at = absurd (none-some p.syntax (none ∙ ap (option_map (λ (p : PlacedTree). p.syntax)) at))

pub named_all : (w : Workspace) (n : ℕ) → IsBuilt w → length w.files + length w.expansions ≤ n → AreNamedTo (trees w) n → AreNamed (trees w)
named_all w n built all so_far t p is =
    let within = placed_within (trees w) t p is in
    let counted = length-trees w in
    let few = built.few in
    let low : t < length w.files + length w.expansions = omega arith in
    (omega arith, so_far t p (omega arith) is)

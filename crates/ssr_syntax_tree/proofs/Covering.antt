-- The steps of the search for the node that covers a range.
use Rattle.std.proofs.Common.{◌≡◌, ℕ, ◌+◌, ◌<◌, ◌≤◌, inl, inr, arith, refl, sym, ap, subst}
use Rattle.std.proofs.lemmas.Bool.{cases_lt}
use Rattle.ssr_syntax_kinds.specs.declared.range.TextRange.{TextRange}
use Rattle.ssr_syntax_tree.specs.Places.{node_of, size_of, IsAbove, depth_at, HasNode, HoldsRange}
use Rattle.ssr_syntax_tree.specs.Syntax.{Syntax, node_count}
use Rattle.ssr_syntax_tree.proofs.Places.{node_of-number, depth_at-root, root_size}
use Rattle.ssr_syntax_tree.proofs.Ranges.{start_of-below, end_of-below}

-- of the nodes before `next`, the node `found` is the one that covers the range, at this depth
pub record IsBest (syntax : Syntax) (range : TextRange) (next found depth : ℕ) : Type 0 where
  pub before : found < next
  pub within : next ≤ 1 + node_count syntax.children
  pub holds : HoldsRange syntax found range
  pub depth_is : depth ≡ depth_at syntax found
  pub deepest : (m : ℕ) → m < next → HoldsRange syntax m range → depth_at syntax m ≤ depth
  pub first : (m : ℕ) → m < next → HoldsRange syntax m range → depth_at syntax m ≡ depth → found ≤ m

-- a node above one that holds the range holds it too
pub holds_above : (syntax : Syntax) (range : TextRange) (n m : ℕ) → HasNode syntax n → IsAbove (node_of syntax n) m → HoldsRange syntax m range → HoldsRange syntax n range
holds_above syntax range n m h above holds =
    (omega (arith, holds.0, start_of-below syntax n m h above), omega (arith, holds.1, end_of-below syntax n m h above))

pub root_holds : (syntax : Syntax) (range : TextRange) (n : ℕ) → HasNode syntax n → HoldsRange syntax n range → HoldsRange syntax 0 range
root_holds syntax range n h holds =
    elim (cases_lt 0 n) [
      | inl below ↦
          let number = node_of-number syntax 0 (omega arith) in
          holds_above syntax range 0 n (omega arith) (omega arith, root_size syntax n h) holds
      | inr here ↦ subst (λ n. HoldsRange syntax n range) (let root : n ≡ 0 = omega arith in root) holds
    ]

pub best_root : (syntax : Syntax) (range : TextRange) → HoldsRange syntax 0 range → IsBest syntax range 1 0 0
best_root syntax range holds = record {
  before = omega arith;
  within = omega arith;
  holds = holds;
  depth_is = sym (depth_at-root syntax);
  deepest = λ m h held. let root : m ≡ 0 = omega arith in omega (arith, ap (depth_at syntax) root, depth_at-root syntax);
  first = λ m h held same. omega arith;
}

-- the next node holds the range, and isn't deeper
pub best_same : (syntax : Syntax) (range : TextRange) (next found depth : ℕ) → IsBest syntax range next found depth → HasNode syntax next → depth_at syntax next ≤ depth → IsBest syntax range (next + 1) found depth
best_same syntax range next found depth best h low = record {
  before = let b = best.before in omega arith;
  within = omega arith;
  holds = best.holds;
  depth_is = best.depth_is;
  deepest = λ m g held.
      elim (cases_lt m next) [
        | inl earlier ↦ best.deepest m earlier held
        | inr here ↦ let same : m ≡ next = omega arith in omega (arith, ap (depth_at syntax) same, low)
      ];
  first = λ m g held same.
      elim (cases_lt m next) [ inl earlier ↦ best.first m earlier held same | inr here ↦ omega (arith, best.before) ];
}

-- the next node holds the range, and is deeper
pub best_deeper : (syntax : Syntax) (range : TextRange) (next found depth : ℕ) → IsBest syntax range next found depth → HasNode syntax next → HoldsRange syntax next range → depth < depth_at syntax next → IsBest syntax range (next + 1) next (depth_at syntax next)
best_deeper syntax range next found depth best h holds deep = record {
  before = omega arith;
  within = omega arith;
  holds = holds;
  depth_is = refl;
  deepest = λ m g held.
      elim (cases_lt m next) [
        | inl earlier ↦ omega (arith, best.deepest m earlier held, deep)
        | inr here ↦ let same : m ≡ next = omega arith in omega (arith, ap (depth_at syntax) same)
      ];
  first = λ m g held same.
      elim (cases_lt m next) [ inl earlier ↦ absurd (omega (arith, best.deepest m earlier held, deep)) | inr here ↦ omega arith ];
}

-- the next node doesn't hold the range, and so none below it does
pub best_past : (syntax : Syntax) (range : TextRange) (next found depth past : ℕ) → IsBest syntax range next found depth → HasNode syntax next → (HoldsRange syntax next range → ⊥) → past ≡ next + size_of (node_of syntax next) → past ≤ 1 + node_count syntax.children → IsBest syntax range past found depth
best_past syntax range next found depth past best h free is within = record {
  before = omega (arith, best.before);
  within = within;
  holds = best.holds;
  depth_is = best.depth_is;
  deepest = λ m g held. best.deepest m (earlier m g held) held;
  first = λ m g held same. best.first m (earlier m g held) held same;
}
  where
    earlier : (m : ℕ) → m < past → HoldsRange syntax m range → m < next
    earlier m g held =
        elim (cases_lt m next) [
          | inl e ↦ e
          | inr behind ↦
              absurd (
              elim (cases_lt next m) [
                | inl below ↦
                    let number = node_of-number syntax next h in
                    free (holds_above syntax range next m h (omega arith, omega arith) held)
                | inr here ↦ free (subst (λ n. HoldsRange syntax n range) (let same : m ≡ next = omega arith in same) held)
              ]
              )
        ]

-- Whether one of the first numbers passes a test, one number after the other; a node's parts, and what it stands in.
use Rattle.std.proofs.Common.{◌≡◌, ◌∙◌, ℕ, zero, suc, ◌+◌, ◌<◌, Bool, true, false, Option, Some, refl, subst, sym, ap, add-one, inl, inr, arith}
use Rattle.std.specs.Prelude.{◌||◌, slice_get}
use Rattle.std.specs.Option.{option_map_or}
use Rattle.std.proofs.lemmas.Bool.{cases_eq}
use Rattle.ssr_syntax_tree.specs.Places.{Node, Part, node_of, parts_of}
use Rattle.ssr_syntax_tree.specs.Syntax.{Syntax}
use Rattle.ssr_standing.specs.ArgumentNames.{is_equals, is_equals_at, some_below}

or_true : (b : Bool) → (b || true) ≡ true
or_true true = refl
or_true false = refl

-- one more that doesn't
pub none_more : (test : ℕ → Bool) (i : ℕ) → some_below test i ≡ false → test i ≡ false → some_below test (i + 1) ≡ false
none_more test i none here =
    let next : some_below test (i + 1) ≡ (some_below test i || test i) = rw add-one refl in
    next ∙ ap (λ (b : Bool). b || test i) none ∙ here

-- one that does
pub one_passes : (test : ℕ → Bool) (i count : ℕ) → i < count → test i ≡ true → some_below test count ≡ true
one_passes test i zero h passes = absurd (omega arith)
one_passes test i (suc count) h passes = elim (cases_eq i count) [
  | inl same ↦
      ap (λ k. some_below test count || test k) (sym same) ∙ ap (λ (b : Bool). some_below test count || b) passes ∙ or_true (some_below test count)
  | inr other ↦
      ap (λ (b : Bool). b || test count) (one_passes test i count (omega arith) passes)
]

-- the root stands in itself
pub own_parent : (s : Syntax) (n : ℕ) → n ≡ 0 → n ≡ (node_of s n).parent
unfolding node_of
own_parent s n is = subst (λ (n : ℕ). n ≡ (node_of s n).parent) (sym is) refl

-- what is asked of the part at a place of a list
pub part_is : (node : Node) (i : ℕ) (part : Part) (answer : Bool) → slice_get (parts_of node) i ≡ Some part → answer ≡ is_equals part → answer ≡ is_equals_at node i
part_is node i part answer there is = is ∙ ap (λ (o : Option Part). option_map_or is_equals o false) (sym there)

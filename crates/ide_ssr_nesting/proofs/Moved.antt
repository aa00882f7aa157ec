-- Places before and after nodes go in behind another place.
use Rattle.std.proofs.Common.{◌≡◌, ℕ, ◌+◌, ◌<◌, ◌≤◌, inl, inr, ap, arith}
use Rattle.std.proofs.lemmas.Bool.{cases_lt}
use Rattle.std.proofs.lemmas.Bool.Decides.{nat_tests}
use Rattle.ide_ssr_nesting.specs.Order.{moved}

pub moved_not : (s n x : ℕ) → x ≤ s → moved s n x ≡ x
moved_not s n x h = grind (arith, nat_tests)

pub moved_far : (s n x : ℕ) → s < x → moved s n x ≡ x + n
moved_far s n x h = grind (arith, nat_tests)

-- either way a place keeps its order to others
pub moved_up : (s n x y : ℕ) → x < y → moved s n x < moved s n y
moved_up s n x y h =
    elim (cases_lt s x) [
      | inl far ↦ omega (arith, moved_far s n x far, moved_far s n y (omega arith))
      | inr near ↦ elim (cases_lt s y) [
        | inl far ↦ omega (arith, moved_not s n x near, moved_far s n y far)
        | inr low ↦ omega (arith, moved_not s n x near, moved_not s n y low)
      ]
    ]

pub moved_back : (s n x y : ℕ) → moved s n x < moved s n y → x < y
moved_back s n x y h =
    elim (cases_lt x y) [
      | inl less ↦ less
      | inr more ↦ elim (cases_lt y x) [
        | inl greater ↦ absurd (let back = moved_up s n y x greater in omega arith)
        | inr equal ↦ absurd (let same = ap (moved s n) (let e : x ≡ y = omega arith in e) in omega arith)
      ]
    ]

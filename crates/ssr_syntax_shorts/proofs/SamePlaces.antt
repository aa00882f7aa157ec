-- Places of a short text, and the same places of the long one.
use Rattle.std.proofs.Common.{◌≡◌, ◌≢◌, ℕ, ◌+◌, ◌-◌, ◌<◌, ◌≤◌, nat_lt, Bool, true, false, if◌then◌else◌, List, [], ◌∷◌, length, map, inl, inr, refl, sym, ap, subst, ◌∙◌, arith}
use Rattle.std.proofs.lemmas.Bool.{cases_lt}
use Rattle.std.proofs.lemmas.Bool.Decides.{nat_tests}
use Rattle.ssr_syntax_kinds.specs.declared.reach.Reach.{Reach}
use Rattle.ssr_syntax_places.specs.Spans.{inside_at, IsSamePlace, BeginsHere, EndsHere, AreSameBytes}
use Rattle.ssr_syntax_places.specs.Woven.{Part}
use Rattle.ssr_syntax_shorts.specs.Shorts.{Stretch, names_from, AreStretches, moved, long_place, IsOutside}
use Rattle.ssr_syntax_shorts.specs.declared.stand_ins.Name.{Name}
use Rattle.ssr_syntax_shorts.proofs.Joined.{names_moved}
use Rattle.ssr_syntax_shorts.proofs.PutNames.{AreMatched}

-- ** Places grow.

place_if : (b : Bool) (n m k : ℕ) → (b ≡ true → m ≤ k) → (b ≡ false → m ≤ n) → m ≤ (if b then k else n)
place_if true n m k h g = h refl
place_if false n m k h g = g refl

pub place_low : (names : List Name) (n : ℕ) → n ≤ long_place names n
place_low [] n = omega arith
place_low (name ∷ names) n =
    place_if (nat_lt name.at n) n n ((name.bytes - 1) + long_place names n) (λ _. omega (arith, place_low names n)) (λ _. omega arith)

-- the same place, and a later one
two_places : (b c : Bool) (n m k l : ℕ) → n < m → k < l → m ≤ l → (b ≡ true → c ≡ true) → (if b then k else n) < (if c then l else m)
two_places true true n m k l less further high both = further
two_places true false n m k l less further high both = let clash = both refl in cc
two_places false true n m k l less further high both = omega (arith, less, high)
two_places false false n m k l less further high both = less

pub place_less : (names : List Name) (n m : ℕ) → n < m → long_place names n < long_place names m
place_less [] n m less = less
place_less (name ∷ names) n m less =
    two_places (nat_lt name.at n) (nat_lt name.at m) n m ((name.bytes - 1) + long_place names n) ((name.bytes - 1) + long_place names m) less
    (omega (arith, place_less names n m less)) (omega (arith, place_low names m)) (λ before. grind (arith, nat_tests, before, less))

-- ** Names further on.

place_moved : (k : ℕ) (names : List Name) (n : ℕ) → long_place (map (moved k) names) (k + n) ≡ k + long_place names n
place_moved k [] n = refl
place_moved k (name ∷ names) n =
    ap (λ b. if b then (name.bytes - 1) + long_place (map (moved k) names) (k + n) else k + n) (same_less k name.at n)
    ∙ ap (λ m. if nat_lt name.at n then (name.bytes - 1) + m else k + n) (place_moved k names n)
    ∙ both (nat_lt name.at n) where
      same_less : (k a b : ℕ) → nat_lt (k + a) (k + b) ≡ nat_lt a b
      same_less k a b = grind (arith, nat_tests)

      both : (b : Bool) → (if b then (name.bytes - 1) + (k + long_place names n) else k + n) ≡ k + (if b then (name.bytes - 1) + long_place names n else n)
      both true = omega arith
      both false = refl

outside_moved : (k : ℕ) (names : List Name) (n : ℕ) → IsOutside (map (moved k) names) (k + n) → IsOutside names n
outside_moved k [] n is = tt
outside_moved k (name ∷ names) n (begins, ends, is) =
    (λ e. begins (omega (arith, e)), λ e. ends (omega (arith, e)), outside_moved k names n is)

-- ** The same places.

-- where a place is told of both texts, if it is in front of an inside
abbrev IsFront : (Part → Part → ℕ → ℕ → Type 0) → Type 0
IsFront Here = (p q : Part) (n : ℕ) → n < inside_at p → Here p q n n

pub same_place : (Here : Part → Part → ℕ → ℕ → Type 0) → IsFront Here → (reach : Reach) (d : ℕ) (ps qs : List Part) (ss : List Stretch) (last : List ℕ)
    → AreMatched ps qs ss → AreStretches reach d ss last → (n : ℕ) → IsOutside (names_from 0 ss) n → IsSamePlace Here ps qs n (long_place (names_from 0 ss) n)
same_place Here front reach d [] [] [] last matched are n outside = refl
same_place Here front reach d (p ∷ ps) (q ∷ qs) (s ∷ ss) last (here, matched) (utf8, shut, inside, are) n (begins, ends, outside) =
    let a : ℕ = 0 + (length s.front + 1) in
    let k : ℕ = (length s.front + 1) + 1 in
    let bytes : ℕ = length s.inside.text in
    let at_p : inside_at p ≡ length s.front + 1 = ap (λ l. length l + 1) here.front in
    let at_q : inside_at q ≡ length s.front + 1 = ap (λ l. length l + 1) here.other_front in
    let one : length p.inside ≡ 1 = ap length here.name in
    let all : length q.inside ≡ bytes = ap length here.inside in
    let rest : ℕ = long_place (names_from (0 + k) ss) n in
    elim (cases_lt a n) [
      | inr low ↦
          let is : nat_lt a n ≡ false = grind (arith, nat_tests, low) in
          let less : n < inside_at p = strictly a n (inside_at p) low begins (omega (arith, at_p)) in
          let same : (if nat_lt a n then (bytes - 1) + rest else n) ≡ n = ap (λ (b : Bool). if b then (bytes - 1) + rest else n) is in
          inl (subst (Here p q n) (sym same) (front p q n less))
      | inl high ↦
          let is : nat_lt a n ≡ true = grind (arith, nat_tests, high) in
          let same : (if nat_lt a n then (bytes - 1) + rest else n) ≡ (bytes - 1) + rest = ap (λ (b : Bool). if b then (bytes - 1) + rest else n) is in
          let i : ℕ = n - k in
          let far : a + 1 < n = beyond a n high ends in
          let place : n ≡ k + i = omega (arith, far) in
          let names : names_from (0 + k) ss ≡ map (moved k) (names_from 0 ss) =
          ap (λ m. names_from m ss) (omega arith) ∙ names_moved k 0 ss in
          let rest_is : rest ≡ k + long_place (names_from 0 ss) i =
          ap (λ l. long_place l n) names ∙ ap (long_place (map (moved k) (names_from 0 ss))) place ∙ place_moved k (names_from 0 ss) i in
          let inner : IsOutside (names_from 0 ss) i =
          outside_moved k (names_from 0 ss) i (subst (IsOutside (map (moved k) (names_from 0 ss))) place (subst (λ l. IsOutside l n) names outside)) in
          let further = same_place Here front reach d ps qs ss last matched are i inner in
          let low : i ≤ long_place (names_from 0 ss) i = place_low (names_from 0 ss) i in
          inr (
            i,
            long_place (names_from 0 ss) i,
            omega (arith, place, at_p, one),
            omega (arith, same, rest_is, at_q, all, inside.some),
            omega (arith, far),
            omega (arith, far, low),
            further,
          )
    ] where
      strictly : (a n m : ℕ) → n ≤ a → n ≢ a → m ≡ a → n < m
      strictly a n m le apart e = elim (cases_lt n a) [ inl less ↦ omega (arith, less, e) | inr more ↦ absurd (apart (omega (arith, more, le))) ]

      beyond : (a n : ℕ) → a < n → n ≢ a + 1 → a + 1 < n
      beyond a n less apart = elim (cases_lt (a + 1) n) [ inl far ↦ far | inr more ↦ absurd (apart (omega (arith, more, less))) ]
same_place Here front reach d _ _ _ last matched are n outside = absurd matched

pub same_bytes : (reach : Reach) (d : ℕ) (ps qs : List Part) (ss : List Stretch) (last : List ℕ) → AreMatched ps qs ss → AreStretches reach d ss last
    → (from to : ℕ) → from < to → IsOutside (names_from 0 ss) from → IsOutside (names_from 0 ss) to
    → AreSameBytes ps qs from to (long_place (names_from 0 ss) from) (long_place (names_from 0 ss) to)
same_bytes reach d ps qs ss last matched are from to less outside other = record {
  some = less;
  long_some = place_less (names_from 0 ss) from to less;
  begin = same_place BeginsHere (λ p q n before. inl (refl, before)) reach d ps qs ss last matched are from outside;
  end = same_place EndsHere (λ p q n before. inl (refl, before)) reach d ps qs ss last matched are to other;
}

-- Laws of lists that the standard library lacks, of use to each crate.
use Rattle.std.proofs.Common.{◌≡◌, ℕ, zero, suc, ◌+◌, ◌-◌, ◌<◌, ◌≤◌, ◌⊎◌, inl, inr, List, [], ◌∷◌, ◌++◌, length, map, reverse, take, drop, get_or, slice_get, Some, All, AllPairs, Contains, refl, sym, ap, ◌∙◌, subst, arith, drop-drop, take-append-drop}
use Rattle.std.proofs.lemmas.List.{take-take, drop_at, drop-take, map-append, reverse-append}
use Rattle.std.proofs.lemmas.List.Elements.{All-contains, Contains-append_right}
use Rattle.std.proofs.lemmas.Option.{slice_get_within, get_or_from_slice_get, slice_get-get_or, slice_get_cases, same_Some}

-- the elements behind a place
pub drop_one : {A : Type 0} (xs : List A) (m : ℕ) (y : A) (ys : List A) → drop m xs ≡ y ∷ ys → drop (1 + m) xs ≡ ys
drop_one xs m y ys e = ap (λ n. drop n xs) (omega arith) ∙ sym (drop-drop 1 m xs) ∙ ap (drop 1) e

pub drop_part : {A : Type 0} (xs : List A) (m k : ℕ) (front ys : List A) → drop m xs ≡ front ++ ys → length front ≡ k → drop (m + k) xs ≡ ys
drop_part xs m k front ys e l = sym (drop-drop k m xs) ∙ ap (drop k) e ∙ drop_at front ys k l

pub slice_get-drop : {A : Type 0} (xs : List A) (m : ℕ) (y : A) (ys : List A) → drop m xs ≡ y ∷ ys → slice_get xs m ≡ Some y
slice_get-drop [] zero y ys e = cc
slice_get-drop [] (suc m) y ys e = cc
slice_get-drop (x ∷ xs) zero y ys e = cc
slice_get-drop (x ∷ xs) (suc m) y ys e = slice_get-drop xs m y ys e

-- the elements between two places
pub take_between : {A : Type 0} (xs : List A) (a b : ℕ) → a ≤ b → take b xs ≡ take a xs ++ take (b - a) (drop a xs)
take_between xs a b h =
    sym (take-append-drop a (take b xs))
    ∙ ap (λ front. front ++ drop a (take b xs)) (take-take a b xs h)
    ∙ ap (λ n. take a xs ++ drop a (take n xs)) (omega arith)
    ∙ ap (λ rest. take a xs ++ rest) (drop-take a (b - a) xs)

pub map-reverse : {A B : Type 0} (f : A → B) (xs : List A) → map f (reverse xs) ≡ reverse (map f xs)
map-reverse f [] = refl
map-reverse f (x ∷ xs) =
    ap (map f) (reverse-append (x ∷ []) xs)
    ∙ map-append f (reverse xs) (x ∷ [])
    ∙ ap (λ ys. ys ++ f x ∷ []) (map-reverse f xs)
    ∙ sym (reverse-append (f x ∷ []) (map f xs))

-- ** Elements by their places.

pub all_at : {X : Type 0} (P : X → Type 0) (xs : List X) (n : ℕ) (x : X) → All P xs → slice_get xs n ≡ Some x → P x
all_at P xs n x all is = subst P (get_or_from_slice_get xs n x x is) (all n x (slice_get_within xs n x is))

pub pairs_at : {X : Type 0} (R : X → X → Type 0) (xs : List X) (i j : ℕ) (x y : X) → AllPairs R xs → i < j → slice_get xs i ≡ Some x → slice_get xs j ≡ Some y → R x y
pairs_at R xs i j x y pairs less x_is y_is =
    let first = pairs i j x less (slice_get_within xs j y y_is) in
    subst (R x) (get_or_from_slice_get xs j y x y_is)
    (subst (λ a. R a (get_or xs j x)) (get_or_from_slice_get xs i x x x_is) first)

pub contains_at : {X : Type 0} (xs : List X) (n : ℕ) (x : X) → slice_get xs n ≡ Some x → Contains xs x
contains_at xs n x is = (n, slice_get_within xs n x is, get_or_from_slice_get xs n x x is)

pub place_in : {X : Type 0} (xs : List X) (x : X) → Contains xs x → (n : ℕ) × (slice_get xs n ≡ Some x)
place_in xs x at = (at.0, slice_get-get_or xs at.0 x at.1 ∙ ap Some at.2)

pub stands_at : {X : Type 0} (xs : List X) (n : ℕ) → n < length xs → (x : X) × (slice_get xs n ≡ Some x)
stands_at xs n within = elim (slice_get_cases xs n).1 [ inl there ↦ (there.0, there.2) | inr past ↦ absurd (let low = past.0 in omega arith) ]

-- the elements once another one was pushed
pub pushed_at : {X : Type 0} (xs : List X) (y : X) (n : ℕ) (x : X) → slice_get (xs ++ y ∷ []) n ≡ Some x
    → (slice_get xs n ≡ Some x) ⊎ ((n ≡ length xs) × (y ≡ x))
pushed_at [] y zero x is = inr (omega arith, same_Some y x is)
pushed_at [] y (suc n) x is = cc
pushed_at (z ∷ xs) y zero x is = inl is
pushed_at (z ∷ xs) y (suc n) x is = elim (pushed_at xs y n x is) [ inl there ↦ inl there | inr last ↦ inr (omega (arith, last.0), last.1) ]

pub slice_get-left : {X : Type 0} (xs ys : List X) (n : ℕ) (x : X) → slice_get xs n ≡ Some x → slice_get (xs ++ ys) n ≡ Some x
slice_get-left [] ys n x is = cc
slice_get-left (z ∷ xs) ys zero x is = is
slice_get-left (z ∷ xs) ys (suc n) x is = slice_get-left xs ys n x is

-- ** Each two.

pub pairs_none : {X : Type 0} (R : X → X → Type 0) → AllPairs R []
pairs_none R i j d before within = absurd (omega arith)

pub pairs_head : {X : Type 0} (R : X → X → Type 0) (x : X) (xs : List X) → AllPairs R (x ∷ xs) → All (R x) xs
pairs_head R x xs all = λ k d lt. all zero (suc k) d (omega arith) (omega arith)

pub pairs_tail : {X : Type 0} (R : X → X → Type 0) (x : X) (xs : List X) → AllPairs R (x ∷ xs) → AllPairs R xs
pairs_tail R x xs all = λ i j d lt within. all (suc i) (suc j) d (omega arith) (omega arith)

-- ** Elements of a list with a first one.

pub at_front : {X : Type 0} (x : X) (xs : List X) → Contains (x ∷ xs) x
at_front x xs = (0, omega arith, refl)

pub at_back : {X : Type 0} (x y : X) (xs : List X) → Contains xs y → Contains (x ∷ xs) y
at_back x y xs at = (suc at.0, (let within = at.1 in omega arith), at.2)

pub front_or_back : {X : Type 0} (x y : X) (xs : List X) → Contains (x ∷ xs) y → (x ≡ y) ⊎ Contains xs y
front_or_back x y xs (zero, within, is) = inl is
front_or_back x y xs (suc n, within, is) = inr (n, omega arith, is)

pub pairs_right : {X : Type 0} (R : X → X → Type 0) (xs ys : List X) → AllPairs R (xs ++ ys) → AllPairs R ys
pairs_right R [] ys all = all
pairs_right R (x ∷ xs) ys all = pairs_right R xs ys (pairs_tail R x (xs ++ ys) all)

pub pairs_across : {X : Type 0} (R : X → X → Type 0) (xs : List X) (y : X) (ys : List X) (x : X) → AllPairs R (xs ++ y ∷ ys) → Contains xs x → R x y
pairs_across R [] y ys x all at = absurd (let within = at.1 in omega arith)
pairs_across R (z ∷ xs) y ys x all at = elim (front_or_back z x xs at) [
  | inl here ↦
      subst (λ z. R z y) here
      (All-contains (R z) (xs ++ y ∷ ys) y (pairs_head R z (xs ++ y ∷ ys) all) (Contains-append_right xs (y ∷ ys) y (at_front y ys)))
  | inr later ↦ pairs_across R xs y ys x (pairs_tail R z (xs ++ y ∷ ys) all) later
]

-- ** Lists in order.

module _ {X : Type 0} (R : X → X → Type 0) (one_way : (x y : X) → R x y → R y x → ⊥) where
  -- two such lists begin with the same element if each has that of the other
  same_first : (x y : X) (xs ys : List X) → AllPairs R (x ∷ xs) → AllPairs R (y ∷ ys) → Contains (y ∷ ys) x → Contains (x ∷ xs) y → x ≡ y
  same_first x y xs ys rising other first second =
      elim (front_or_back y x ys first) [
        | inl same ↦ sym same
        | inr behind_y ↦
            elim (front_or_back x y xs second) [
              | inl same ↦ same
              | inr behind_x ↦
                  absurd (one_way x y
                  (All-contains (R x) xs y (pairs_head R x xs rising) behind_x)
                  (All-contains (R y) ys x (pairs_head R y ys other) behind_y))
            ]
      ]

  -- what comes behind the first element of one is in the other, and not its first element
  among_rest : (x : X) (xs ys : List X) → AllPairs R (x ∷ xs) → ((z : X) → Contains (x ∷ xs) z → Contains (x ∷ ys) z) → (z : X) → Contains xs z → Contains ys z
  among_rest x xs ys rising among z at =
      elim (front_or_back x z ys (among z (at_back x z xs at))) [
        | inl same ↦
            let twice : R x x = subst (R x) (sym same) (All-contains (R x) xs z (pairs_head R x xs rising) at) in
            absurd (one_way x x twice twice)
        | inr behind ↦ behind
      ]

  -- so two that have the same elements are one
  pub same_rising : (xs ys : List X) → AllPairs R xs → AllPairs R ys → ((z : X) → Contains xs z → Contains ys z) → ((z : X) → Contains ys z → Contains xs z) → xs ≡ ys
  same_rising [] [] rising other among back = refl
  same_rising [] (y ∷ ys) rising other among back = absurd (let none = back y (at_front y ys) in let within = none.1 in omega arith)
  same_rising (x ∷ xs) [] rising other among back = absurd (let none = among x (at_front x xs) in let within = none.1 in omega arith)
  same_rising (x ∷ xs) (y ∷ ys) rising other among back =
      let same : x ≡ y = same_first x y xs ys rising other (among x (at_front x xs)) (back y (at_front y ys)) in
      let there = subst (λ y. AllPairs R (y ∷ ys)) (sym same) other in
      let to = subst (λ y. (z : X) → Contains (x ∷ xs) z → Contains (y ∷ ys) z) (sym same) among in
      let from = subst (λ y. (z : X) → Contains (y ∷ ys) z → Contains (x ∷ xs) z) (sym same) back in
      ap (λ x. x ∷ xs) same
      ∙ ap (λ xs. y ∷ xs)
      (same_rising xs ys (pairs_tail R x xs rising) (pairs_tail R x ys there) (among_rest x xs ys rising to) (among_rest x ys xs there from))

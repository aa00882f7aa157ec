-- Names and their places: one name more, and how places of stand-ins follow from them.
use Rattle.std.proofs.Common.{◌≡◌, ℕ, ◌+◌, ◌<◌, Bool, true, false, ◌||◌, List, [], ◌∷◌, ◌++◌, length, Option, Some, None, refl, sym, ap, ◌∙◌, subst, arith, inl, inr, bytes_eq, add-zero, zero-add}
use Rattle.std.proofs.lemmas.Bool.{cases_Bool, false_from_ne_true}
use Rattle.std.proofs.lemmas.Slice.Eq.{bytes_eq-Decides}
use Rattle.std.specs.Prelude.{cond}
use Rattle.std.specs.List.{list_any, position_from}
use Rattle.std.specs.Option.{is_some, option_or, IfSome}

module _ {X : Type 0} where
  pub position-append : (p : X → Bool) (k : ℕ) (xs : List X) (x : X)
      → position_from p k (xs ++ x ∷ []) ≡ option_or (position_from p k xs) (cond (p x) (Some (k + length xs)) None)
  position-append p k [] x = ap (λ n. cond (p x) (Some n) None) (sym (add-zero k))
  position-append p k (y ∷ ys) x = at (p y) (position-append p (k + 1) ys x) where
    at : (b : Bool) → position_from p (k + 1) (ys ++ x ∷ []) ≡ option_or (position_from p (k + 1) ys) (cond (p x) (Some (k + 1 + length ys)) None)
        → cond b (Some k) (position_from p (k + 1) (ys ++ x ∷ [])) ≡ option_or (cond b (Some k) (position_from p (k + 1) ys)) (cond (p x) (Some (k + length (y ∷ ys))) None)
    at true rest = refl
    at false rest =
        rest ∙ ap (λ n. option_or (position_from p (k + 1) ys) (cond (p x) (Some n) None)) (let same : k + 1 + length ys ≡ k + length (y ∷ ys) = omega arith in same)

  pub is_some-position : (p : X → Bool) (k : ℕ) (xs : List X) → is_some (position_from p k xs) ≡ list_any p xs
  is_some-position p k [] = refl
  is_some-position p k (x ∷ xs) = at (p x) (is_some-position p (k + 1) xs) where
    at : (b : Bool) → is_some (position_from p (k + 1) xs) ≡ list_any p xs → is_some (cond b (Some k) (position_from p (k + 1) xs)) ≡ (b || list_any p xs)
    at true rest = refl
    at false rest = rest

  position-within : (p : X → Bool) (k : ℕ) (xs : List X) → IfSome (position_from p k xs) (λ place. place < k + length xs)
  position-within p k [] = tt
  position-within p k (x ∷ xs) = at (p x) (position-within p (k + 1) xs) where
    at : (b : Bool) → IfSome (position_from p (k + 1) xs) (λ place. place < k + 1 + length xs)
        → IfSome (cond b (Some k) (position_from p (k + 1) xs)) (λ place. place < k + length (x ∷ xs))
    at true rest = omega arith
    at false rest =
        subst (λ n. IfSome (position_from p (k + 1) xs) (λ place. place < n)) (let same : k + 1 + length xs ≡ k + length (x ∷ xs) = omega arith in same) rest

  pub found_within : (p : X → Bool) (xs : List X) → IfSome (position_from p 0 xs) (λ place. place < length xs)
  found_within p xs = subst (λ n. IfSome (position_from p 0 xs) (λ place. place < n)) (zero-add (length xs)) (position-within p 0 xs)

  pub position-same : (p q : X → Bool) (k : ℕ) (xs : List X) → ((x : X) → p x ≡ q x) → position_from p k xs ≡ position_from q k xs
  position-same p q k [] same = refl
  position-same p q k (x ∷ xs) same =
      ap (λ b. cond b (Some k) (position_from p (k + 1) xs)) (same x) ∙ ap (cond (q x) (Some k)) (position-same p q (k + 1) xs same)

  pub nowhere : (k : ℕ) (xs : List X) → position_from (λ _. false) k xs ≡ None
  nowhere k [] = refl
  nowhere k (x ∷ xs) = nowhere (k + 1) xs

none_from : (o : Option ℕ) → is_some o ≡ false → o ≡ None
none_from None h = refl
none_from (Some n) h = let wrong : true ≡ false = h in cc

or_else : (o other : Option ℕ) → is_some o ≡ true → option_or o other ≡ o
or_else None other h = let wrong : false ≡ true = h in cc
or_else (Some n) other h = refl

or_nothing : (o : Option ℕ) → option_or o None ≡ o
or_nothing None = refl
or_nothing (Some n) = refl

-- ** One name more.

turned : (a b : List ℕ) → bytes_eq a b ≡ true → bytes_eq b a ≡ true
turned a b is = (bytes_eq-Decides b a).1 (sym ((bytes_eq-Decides a b).0 is))

module _ (names : List (List ℕ)) (name text : List ℕ) where
  abbrev place : List ℕ → Option ℕ
  place text = position_from (bytes_eq text) 0 names

  appended : (b : Bool) → bytes_eq text name ≡ b
      → position_from (bytes_eq text) 0 (names ++ name ∷ []) ≡ option_or (place text) (cond b (Some (length names)) None)
  appended b is =
      position-append (bytes_eq text) 0 names name
      ∙ ap (λ n. option_or (place text) (cond (bytes_eq text name) (Some n) None)) (let same : 0 + length names ≡ length names = omega arith in same)
      ∙ ap (λ b. option_or (place text) (cond b (Some (length names)) None)) is

  found_as : (b : Bool) → list_any (bytes_eq name) names ≡ b → bytes_eq text name ≡ true → is_some (place text) ≡ b
  found_as b known is =
      is_some-position (bytes_eq text) 0 names ∙ ap (λ text. list_any (bytes_eq text) names) ((bytes_eq-Decides text name).0 is) ∙ known

  -- one that is among them already
  pub known_again : list_any (bytes_eq name) names ≡ true → position_from (bytes_eq text) 0 (names ++ name ∷ []) ≡ place text
  known_again known =
      elim (cases_Bool (bytes_eq text name)) [
        | inl is ↦ appended true is ∙ or_else (place text) (Some (length names)) (found_as true known is)
        | inr other ↦ appended false other ∙ or_nothing (place text)
      ]

  -- one that isn't
  pub new_name : list_any (bytes_eq name) names ≡ false
      → position_from (bytes_eq text) 0 (names ++ name ∷ []) ≡ cond (bytes_eq name text) (Some (length names)) (place text)
  new_name new =
      elim (cases_Bool (bytes_eq text name)) [
        | inl is ↦
            appended true is ∙ ap (λ o. option_or o (Some (length names))) (none_from (place text) (found_as false new is))
            ∙ ap (λ b. cond b (Some (length names)) (place text)) (sym (turned text name is))
        | inr other ↦
            let apart : bytes_eq name text ≡ false = false_from_ne_true (bytes_eq name text) (λ same. let wrong : true ≡ false = sym (turned name text same) ∙ other in cc) in
            appended false other ∙ or_nothing (place text) ∙ ap (λ b. cond b (Some (length names)) (place text)) (sym apart)
      ]

-- Paths, name by name.
use Rattle.std.proofs.Common.{◌≡◌, ℕ, zero, suc, ◌+◌, ◌-◌, ◌<◌, List, [], ◌∷◌, ◌++◌, length, take, get_or, slice_get, Some, None, refl, sym, ap, ◌∙◌, subst, arith, add-one, length-append}
use Rattle.std.proofs.Math.Seq.{take-suc}
use Rattle.std.proofs.lemmas.Option.{none-some, same_Some, slice_get_within, slice_get-get_or}
use Rattle.ssr_names_items.specs.declared.table.Name.{Name}
use Rattle.ssr_names_items.specs.declared.table.Namespace.{Namespace}
use Rattle.ssr_names.specs.declared.definitions.Definition.{Definition}
use Rattle.ssr_names.specs.declared.lookup.Front.{Front}
use Rattle.ssr_names.specs.declared.space.Space.{Space}
use Rattle.ssr_names.specs.Lookup.{Begins, PathStandsFor, Place, asked_in, path_first}
use Rattle.ssr_names.specs.Private.Answered.{IsFront, IsFrontOf}

-- ** The last of a list.

longer : {X : Type 0} (xs : List X) (x : X) → [] ≡ xs ++ x ∷ [] → ⊥
longer [] x is = cc
longer (y ∷ ys) x is = cc

-- what stands in front of the last of a list is one list
pub same_front : {X : Type 0} (xs ys : List X) (x y : X) → xs ++ x ∷ [] ≡ ys ++ y ∷ [] → xs ≡ ys
same_front [] [] x y is = refl
same_front [] (b ∷ ys) x y is = (let tail : [] ≡ ys ++ y ∷ [] = cc in absurd (longer ys y tail))
same_front (a ∷ xs) [] x y is = (let tail : xs ++ x ∷ [] ≡ [] = cc in absurd (longer xs x (sym tail)))
same_front (a ∷ xs) (b ∷ ys) x y is =
    let tail : xs ++ x ∷ [] ≡ ys ++ y ∷ [] = cc in
    let head : a ≡ b = cc in
    let rest = same_front xs ys x y tail in
    cc

pub none_last : {X : Type 0} (xs : List X) → slice_get xs (length xs - 1) ≡ None → xs ≡ []
none_last [] is = refl
none_last (x ∷ xs) is =
    let within : length (x ∷ xs) - 1 < length (x ∷ xs) = omega arith in
    absurd (none-some _ (sym is ∙ slice_get-get_or (x ∷ xs) (length (x ∷ xs) - 1) x within))

last_at : {X : Type 0} (xs : List X) (i : ℕ) (x : X) → suc i ≡ length xs → slice_get xs i ≡ Some x → (first : List X) × (xs ≡ first ++ x ∷ [])
last_at [] i x count is = absurd (none-some x is)
last_at (y ∷ []) zero x count is = ([], ap (λ z. z ∷ []) (same_Some y x is))
last_at (y ∷ (z ∷ zs)) zero x count is = absurd (omega arith)
last_at (y ∷ ys) (suc i) x count is =
    let rest = last_at ys i x (omega arith) is in
    (y ∷ rest.0, ap (λ zs. y ∷ zs) rest.1)

pub some_last : {X : Type 0} (xs : List X) (x : X) → slice_get xs (length xs - 1) ≡ Some x → (first : List X) × (xs ≡ first ++ x ∷ [])
some_last xs x is =
    let within = slice_get_within xs (length xs - 1) x is in
    last_at xs (length xs - 1) x (omega arith) is

-- ** The names in front of the last one.

module _ (space : Space) (place : Place) (names : List Name) where
  pub front_of_none : (front : Front) → length names ≡ 0 → IsFrontOf space place names front
  front_of_none front none first last is =
      let count = ap length is in
      absurd (omega (arith, length-append first (last ∷ []), count))

  pub front_of : (rest : List Name) (x : Name) (front : Front) → names ≡ rest ++ x ∷ [] → IsFront space place rest front → IsFrontOf space place names front
  front_of rest x front split known first last is =
      subst (λ ns. IsFront space place ns front) (same_front rest first x last (sym split ∙ is)) known

  pub in_front : (front : Front) (first : List Name) (last : Name) → names ≡ first ++ last ∷ [] → IsFrontOf space place names front → IsFront space place first front
  in_front front first last is known = known first last is

-- a path of one name
pub one_name : (space : Space) (place : Place) (n : Namespace) (name : Name) (done : List Name) (d : Definition) → done ≡ [] → Begins space place (asked_in place n name) d
    → PathStandsFor space place n (done ++ name ∷ []) d
one_name space place n name done d none begins =
    subst (λ ns. PathStandsFor space place n (ns ++ name ∷ []) d) (sym none) (path_first n name d begins)

-- one name more of a list
pub name_more : {X : Type 0} (names : List X) (i : ℕ) (name : X) → i < length names → get_or names i name ≡ name → take (i + 1) names ≡ take i names ++ name ∷ []
name_more names i name within is =
    ap (λ n. take n names) (add-one i) ∙ take-suc names i name within ∙ ap (λ x. take i names ++ x ∷ []) is

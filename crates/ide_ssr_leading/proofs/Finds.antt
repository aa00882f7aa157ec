-- What `find` finds in a list of which something is known.
use Rattle.std.proofs.Common.{◌≡◌, Bool, true, false, ◌||◌, List, [], ◌∷◌, All, cond, Some, refl, sym, ap, ◌∙◌, subst}
use Rattle.std.specs.Prelude.{Contains}
use Rattle.std.specs.List.{find, list_any}
use Rattle.std.proofs.lemmas.Bool.{false≢true, or_left, or_right}
use Rattle.std.proofs.lemmas.List.Elements.{All-head, All-tail}
use Rattle.std.proofs.lemmas.List.Folds.{list_any-from_Any}
use Rattle.std.proofs.lemmas.Option.{none-some, same_Some}

module _ {X : Type 0} (P : X → Type 0) (test : X → Bool) where
  -- it is known, it passes, and so some element does
  pub record IsPassing (xs : List X) (x : X) : Type 0 where
    pub known : P x
    pub passes : test x ≡ true
    pub some : list_any test xs ≡ true

  pub found : (xs : List X) (x : X) → All P xs → find test xs ≡ Some x → IsPassing xs x
  found [] x all is = absurd (none-some x is)
  found (y ∷ ys) x all is = by (test y) refl (found ys x (All-tail P y ys all)) is
    where
      by : (b : Bool) → test y ≡ b → (find test ys ≡ Some x → IsPassing ys x) → cond b (Some y) (find test ys) ≡ Some x → IsPassing (y ∷ ys) x
      by true passes behind is =
          let same = same_Some y x is in
          record {
            known = subst P same (All-head P y ys all);
            passes = ap test (sym same) ∙ passes;
            some = or_left (test y) (list_any test ys) passes;
          }
      by false fails behind is =
          let later = behind is in
          record { known = later.known; passes = later.passes; some = or_right (test y) (list_any test ys) later.some }

module _ {X : Type 0} (test : X → Bool) where
  -- where some element passes, one is found
  first_found : (xs : List X) → list_any test xs ≡ true → (x : X) × (find test xs ≡ Some x)
  first_found [] some = absurd (false≢true some)
  first_found (y ∷ ys) some = by (test y) some (first_found ys)
    where
      by : (b : Bool) → (b || list_any test ys) ≡ true → (list_any test ys ≡ true → (x : X) × (find test ys ≡ Some x)) → (x : X) × (cond b (Some y) (find test ys) ≡ Some x)
      by true some behind = (y, refl)
      by false some behind = behind some

  pub some_found : (xs : List X) (x : X) → Contains xs x → test x ≡ true → (y : X) × (find test xs ≡ Some y)
  some_found xs x contains passes = first_found xs (list_any-from_Any test xs (contains.0, x, contains.1, contains.2, passes))

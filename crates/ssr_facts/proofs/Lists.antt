-- Lists, and what a test or a search finds in them.
use Rattle.std.proofs.Common.{◌≡◌, ℕ, ◌+◌, List, [], ◌∷◌, ◌++◌, map, take, Bool, cond, ◌&&◌, Option, Some, None, refl, sym, ap, ◌∙◌, arith, append-nil}
use Rattle.std.proofs.lemmas.List.{take_more}
use Rattle.std.proofs.lemmas.Option.{slice_get_within, get_or_from_slice_get}
use Rattle.std.specs.Prelude.{Contains, slice_get}
use Rattle.std.proofs.lemmas.List.Elements.{filter_map-append}
use Rattle.std.proofs.lemmas.List.Folds.{find-append}
use Rattle.std.specs.List.{list_all, find, filter_map, cons_option}
use Rattle.std.specs.Option.{option_map, option_or, option_to_list}

pub all_alike : {A : Type 0} (p q : A → Bool) → ((x : A) → p x ≡ q x) → (xs : List A) → list_all p xs ≡ list_all q xs
all_alike p q alike [] = refl
all_alike p q alike (x ∷ xs) = (λ i. alike x i && all_alike p q alike xs i)

-- ** The first that is there.

pub option_or_assoc : {A : Type 0} (a b c : Option A) → option_or (option_or a b) c ≡ option_or a (option_or b c)
option_or_assoc None b c = refl
option_or_assoc (Some x) b c = refl

pub option_or_none : {A : Type 0} (a : Option A) → option_or a None ≡ a
option_or_none None = refl
option_or_none (Some x) = refl

pub option_map-or : {A B : Type 0} (f : A → B) (a b : Option A) → option_map f (option_or a b) ≡ option_or (option_map f a) (option_map f b)
option_map-or f None b = refl
option_map-or f (Some x) b = refl

pub find_push : {A : Type 0} (test : A → Bool) (xs : List A) (y : A) → find test (xs ++ y ∷ []) ≡ option_or (find test xs) (cond (test y) (Some y) None)
find_push test xs y = find-append test xs (y ∷ [])

-- ** What a list contains.

pub none_among : {A : Type 0} (y : A) → Contains [] y → ⊥
none_among y among = omega (arith, among.1)

-- ** The element at a place.

-- one element more
pub take_one : {A : Type 0} (xs : List A) (n : ℕ) (x : A) → slice_get xs n ≡ Some x → take (n + 1) xs ≡ take n xs ++ x ∷ []
take_one xs n x is =
    take_more xs n x (slice_get_within xs n x is) ∙ ap (λ y. take n xs ++ y ∷ []) (get_or_from_slice_get xs n x x is)

-- what a list gives of one element more
pub filter_map_one : {A B : Type 0} (f : A → Option B) (xs : List A) (n : ℕ) (x : A) (old new : List B) → slice_get xs n ≡ Some x → old ≡ filter_map f (take n xs)
    → new ≡ old ++ option_to_list (f x) → new ≡ filter_map f (take (n + 1) xs)
filter_map_one f xs n x old new is before adds =
    adds ∙ ap (λ ys. ys ++ option_to_list (f x)) before ∙ ap (λ ys. filter_map f (take n xs) ++ ys) (one (f x))
    ∙ sym (ap (filter_map f) (take_one xs n x is) ∙ filter_map-append f (take n xs) (x ∷ []))
  where
    one : {B : Type 0} (o : Option B) → option_to_list o ≡ cons_option o []
    one None = refl
    one (Some y) = refl

pub append_none : {A : Type 0} (xs : List A) → xs ≡ xs ++ []
append_none xs = sym (append-nil xs)

pub map_of_map : {A B C : Type 0} (f : A → B) (g : B → C) (xs : List A) → map g (map f xs) ≡ map (λ x. g (f x)) xs
map_of_map f g [] = refl
map_of_map f g (x ∷ xs) = ap (λ ys. g (f x) ∷ ys) (map_of_map f g xs)

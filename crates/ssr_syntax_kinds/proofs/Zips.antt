-- Laws of two lists of one length that are zipped by a function, of use to each type whose rows stand in two vectors.
use Rattle.std.proofs.Common.{◌≡◌, ℕ, ◌<◌, List, [], ◌∷◌, ◌++◌, length, vec_len, get_or, map, take, Some, refl, ap, ◌∙◌, sym, arith, length-append, ◌-◌}
use Rattle.std.proofs.lemmas.Option.{slice_get-get_or}
use Rattle.std.proofs.lemmas.Simd.{get_or-zip2, length-zip2}
use Rattle.std.proofs.Math.ListN.{set}
use Rattle.std.proofs.Math.Seq.{take-append_seam}
use Rattle.std.specs.Prelude.{zero, suc, slice_get}
use Rattle.std.specs.Simd.Lanes.{zip2}
use Rattle.std.specs.declared.vec.Vec.{Vec}

-- one more row
pub zip2-push : {A B C : Type 0} (f : A → B → C) (xs : List A) (ys : List B) (x : A) (y : B) → length xs ≡ length ys
    → zip2 f (xs ++ x ∷ []) (ys ++ y ∷ []) ≡ zip2 f xs ys ++ f x y ∷ []
zip2-push f [] [] x y e = refl
zip2-push f [] (b ∷ ys) x y e = absurd (omega (arith, e))
zip2-push f (a ∷ xs) [] x y e = absurd (omega (arith, e))
zip2-push f (a ∷ xs) (b ∷ ys) x y e = ap (λ rows. f a b ∷ rows) (zip2-push f xs ys x y (omega (arith, e)))

-- another row at a place
pub zip2-set : {A B C : Type 0} (f : A → B → C) (xs : List A) (ys : List B) (n : ℕ) (x : A) (y : B) → length xs ≡ length ys
    → zip2 f (set xs n x) (set ys n y) ≡ set (zip2 f xs ys) n (f x y)
zip2-set f [] [] n x y e = refl
zip2-set f [] (b ∷ ys) n x y e = absurd (omega (arith, e))
zip2-set f (a ∷ xs) [] n x y e = absurd (omega (arith, e))
zip2-set f (a ∷ xs) (b ∷ ys) zero x y e = refl
zip2-set f (a ∷ xs) (b ∷ ys) (suc n) x y e = ap (λ rows. f a b ∷ rows) (zip2-set f xs ys n x y (omega (arith, e)))

-- the row at a place
pub slice_get-zip2 : {A B C : Type 0} (f : A → B → C) (xs : List A) (ys : List B) (n : ℕ) (x : A) (y : B) → length xs ≡ length ys → n < length xs
    → x ≡ get_or xs n x → y ≡ get_or ys n y → slice_get (zip2 f xs ys) n ≡ Some (f x y)
slice_get-zip2 f xs ys n x y e h read_x read_y =
    slice_get-get_or (zip2 f xs ys) n (f x y) (omega (arith, length-zip2 f xs ys e, h))
    ∙ ap Some (get_or-zip2 f xs ys n x y (f x y) h (omega (arith, e, h)) ∙ ap (λ a. f a (get_or ys n y)) (sym read_x) ∙ ap (f x) (sym read_y))

-- what the first list was, from the rows
pub map-zip2 : {A B C : Type 0} (f : A → B → C) (first : C → A) (xs : List A) (ys : List B) → ((x : A) (y : B) → first (f x y) ≡ x) → length xs ≡ length ys
    → map first (zip2 f xs ys) ≡ xs
map-zip2 f first [] ys told e = refl
map-zip2 f first (x ∷ xs) [] told e = absurd (omega (arith, e))
map-zip2 f first (x ∷ xs) (y ∷ ys) told e = ap (λ a. a ∷ map first (zip2 f xs ys)) (told x y) ∙ ap (λ rest. x ∷ rest) (map-zip2 f first xs ys told (omega (arith, e)))

-- the first rows
pub zip2-take : {A B C : Type 0} (f : A → B → C) (n : ℕ) (xs : List A) (ys : List B) → zip2 f (take n xs) (take n ys) ≡ take n (zip2 f xs ys)
zip2-take f zero xs ys = refl
zip2-take f (suc n) [] ys = refl
zip2-take f (suc n) (x ∷ xs) [] = refl
zip2-take f (suc n) (x ∷ xs) (y ∷ ys) = ap (λ rows. f x y ∷ rows) (zip2-take f n xs ys)

-- a type's rows stand in two vectors of their length
pub vectors_counted : {A B C Z : Type 0} (f : A → B → C) (first : Vec A Z) (second : Vec B Z) (rows : List C) → length first.items ≡ length second.items
    → zip2 f first.items second.items ≡ rows → (vec_len first ≡ length rows) × (vec_len second ≡ length rows)
vectors_counted f first second rows beside seen =
    let counted = length-zip2 f first.items second.items beside in (
      omega (arith, first.ok, ap length seen, counted),
      omega (arith, second.ok, beside, ap length seen, counted),
    )

-- what was pushed last is taken off again
pub popped : {A Z : Type 0} (before pushed after : Vec A Z) (x : A) → pushed.items ≡ before.items ++ x ∷ [] → after.items ≡ take (vec_len pushed - 1) pushed.items
    → after.items ≡ before.items
popped before pushed after x one_more rest =
    let count : vec_len pushed - 1 ≡ length before.items = omega (arith, pushed.ok, ap length one_more, length-append before.items (x ∷ [])) in
    rest ∙ ap (take (vec_len pushed - 1)) one_more ∙ ap (λ n. take n (before.items ++ x ∷ [])) count ∙ take-append_seam before.items (x ∷ [])

-- The parts of a path, one after the other.
use Rattle.std.proofs.Common.{◌≡◌, ◌≢◌, ℕ, suc, ◌+◌, ◌<◌, eqb, false, List, [], ◌∷◌, ◌++◌, length, get_or, map, take, fold, Option, Some, None, option_map, Result, IfOk, Bool, if◌then◌else◌, subst, MatchOption, Bor, refl, ap, sym, ◌∙◌, lit<, arith}
use Rattle.std.proofs.lemmas.Bool.{ne_eqb}
use Rattle.std.proofs.lemmas.List.{take_more}
use Rattle.std.proofs.lemmas.List.Splits.{slice_split-cons_no, slice_split_first}
use Rattle.std.proofs.lemmas.Str.Pattern.{IsSplitOnceResult, split_parts, split_once_first}
use Rattle.ssr_package.specs.Paths.{Text, parts, within, joined, walked, is_absolute, normal}

-- a text without a slash is one part
parts-none : (bs : Text) → ((i : ℕ) → i < length bs → get_or bs i 0 ≢ 47) → parts bs ≡ bs ∷ []
parts-none [] h = refl
parts-none (b ∷ bs) h =
    let rest : parts bs ≡ bs ∷ [] = parts-none bs (λ i below. h (suc i) (omega arith)) in
    slice_split-cons_no (λ x. eqb x 47) b bs (ne_eqb b 47 (h 0 (omega arith))) ∙ rw rest refl

-- what `split_once` at a slash says of the parts
pub parts_once : (bs : Text) (r : Option (Bor Text × Bor Text)) → IsSplitOnceResult 47 bs r → MatchOption r (parts bs ≡ bs ∷ []) (λ x. parts bs ≡ x.0.now ∷ parts x.1.now)
parts_once bs None h = parts-none bs (split_parts 47 bs None h (lit< tt))
parts_once bs (Some x) h =
    let found = split_once_first 47 bs (Some x) h (lit< tt) in
    rw (found.1, found.2) (slice_split_first (λ b. eqb b 47) bs 0 found.0)

-- nothing leads back inside
pub walked_none : (path : List Text) → walked None path ≡ None
walked_none [] = refl
walked_none (part ∷ path) = walked_none path

fold-more : (f : Text → Text → Text) (a : Text) (front : List Text) (part : Text) → fold f a (front ++ part ∷ []) ≡ f (fold f a front) part
fold-more f a [] part = refl
fold-more f a (x ∷ front) part = fold-more f (f a x) front part

now-more : (front : List (Bor Text)) (part : Bor Text) → map (λ x. x.now) (front ++ part ∷ []) ≡ map (λ x. x.now) front ++ part.now ∷ []
now-more [] part = refl
now-more (x ∷ front) part = ap (λ rest. x.now ∷ rest) (now-more front part)

-- where a path leads whose folder leads to a place
pub normal_at : (folder path : Text) (middle : Option (List Text)) → is_absolute path ≡ false → walked (Some []) (parts folder) ≡ middle → normal folder path ≡ option_map joined (walked middle (parts path))
normal_at folder path middle relative leads = rw relative (ap (λ place. option_map joined (walked place (parts path))) leads)

-- what is said of one place is said of the same place
pub same_place : {E : Type 0} (r : Result Bool E) (x y : Option (List Text)) (end : List Text) → x ≡ y → IfOk r (λ inside. y ≡ (if inside then Some end else None)) → IfOk r (λ inside. x ≡ (if inside then Some end else None))
same_place r x y end same h = subst (λ place. IfOk r (λ inside. place ≡ (if inside then Some end else None))) (sym same) h

-- a path of one part more
pub joined_more : (names : List (Bor Text)) (i : ℕ) (part : Bor Text) → i < length names → joined (map (λ x. x.now) (take (i + 1) names)) ≡ within (joined (map (λ x. x.now) (take i names))) (get_or names i part).now
joined_more names i part below =
    rw (take_more names i part below, now-more (take i names) (get_or names i part)) (fold-more within [] (map (λ x. x.now) (take i names)) (get_or names i part).now)

-- The parts of a name, one after the other.
use Rattle.std.proofs.Common.{◌≡◌, ◌≢◌, ℕ, suc, ◌<◌, ◌||◌, ◌&&◌, eqb, not, if◌then◌else◌, Bool, true, false, List, [], ◌∷◌, ◌++◌, filter, length, get_or, Option, Some, None, option_map, MatchOption, Bor, refl, ap, sym, ◌∙◌, append-nil, append_assoc, codes, lit<, arith}
use Rattle.std.specs.List.{list_any}
use Rattle.std.specs.Str.{bytes_eq}
use Rattle.std.proofs.lemmas.Bool.{ne_eqb}
use Rattle.std.proofs.lemmas.List.Splits.{slice_split-cons_no, slice_split_first}
use Rattle.std.proofs.lemmas.Str.Pattern.{IsSplitOnceResult, split_parts, split_once_first}
use Rattle.ssr_package.specs.Paths.{above, is_absolute, joined, leads_nowhere, parts, step, walked}
use Rattle.ssr_package.specs.Paths as paths
use Rattle.ssr_changes.specs.Naming.{is_inside, normal, parts_of}

-- one of these parts is `..`
abbrev pub some_up : List (List ℕ) → Bool
some_up names = list_any (λ part. bytes_eq part (codes "..")) names

-- a text without a slash is one part
parts-none : (bs : List ℕ) → ((i : ℕ) → i < length bs → get_or bs i 0 ≢ 47) → parts bs ≡ bs ∷ []
parts-none [] h = refl
parts-none (b ∷ bs) h =
    let rest : parts bs ≡ bs ∷ [] = parts-none bs (λ i below. h (suc i) (omega arith)) in
    slice_split-cons_no (λ x. eqb x 47) b bs (ne_eqb b 47 (h 0 (omega arith))) ∙ rw rest refl

-- what `split_once` at a slash says of the parts
pub parts_once : (bs : List ℕ) (r : Option (Bor (List ℕ) × Bor (List ℕ))) → IsSplitOnceResult 47 bs r → MatchOption r (parts bs ≡ bs ∷ []) (λ x. parts bs ≡ x.0.now ∷ parts x.1.now)
parts_once bs None h = parts-none bs (split_parts 47 bs None h (lit< tt))
parts_once bs (Some x) h =
    let found = split_once_first 47 bs (Some x) h (lit< tt) in
    rw (found.1, found.2) (slice_split_first (λ b. eqb b 47) bs 0 found.0)

or-false : (b : Bool) → (b || false) ≡ b
or-false true = refl
or-false false = refl

-- a part that isn't `..`, in front of others
pub others_up : (bs part : List ℕ) (rest : List (List ℕ)) → parts bs ≡ part ∷ rest → bytes_eq part (codes "..") ≡ false → some_up rest ≡ some_up (parts bs)
others_up bs part rest cut isnt = sym (ap some_up cut ∙ ap (λ b. b || some_up rest) isnt)

-- a part that is
pub part_up : (bs part : List ℕ) (rest : List (List ℕ)) → parts bs ≡ part ∷ rest → bytes_eq part (codes "..") ≡ true → some_up (parts bs) ≡ true
part_up bs part rest cut it_is = ap some_up cut ∙ ap (λ b. b || some_up rest) it_is

-- a text that is one part
pub alone_up : (bs : List ℕ) → parts bs ≡ bs ∷ [] → some_up (parts bs) ≡ bytes_eq bs (codes "..")
alone_up bs one = ap some_up one ∙ or-false (bytes_eq bs (codes ".."))

-- ** Normal names.

-- a part that leads somewhere, as a list of it alone
abbrev pub if_leads : Bool → List ℕ → List (List ℕ)
if_leads nowhere part = if not nowhere then part ∷ [] else []

-- one part further, where it isn't `..`
step_inside : (nowhere up : Bool) (folder : List (List ℕ)) (part : List ℕ) → up ≡ false
    → (if nowhere then Some folder else if up then above folder else Some (folder ++ part ∷ [])) ≡ Some (folder ++ if_leads nowhere part)
step_inside true up folder part h = ap Some (sym (append-nil folder))
step_inside false false folder part h = refl
step_inside false true folder part h = cc

leading_more : (nowhere : Bool) (part : List ℕ) (rest : List (List ℕ)) → if_leads nowhere part ++ rest ≡ (if not nowhere then part ∷ rest else rest)
leading_more true part rest = refl
leading_more false part rest = refl

neither_first : (a b : Bool) → (a || b) ≡ false → a ≡ false
neither_first false b h = refl
neither_first true b h = cc

neither_second : (a b : Bool) → (a || b) ≡ false → b ≡ false
neither_second false b h = h
neither_second true b h = cc

-- where parts lead of which none is `..`
walked_inside : (folder names : List (List ℕ)) → some_up names ≡ false → walked (Some folder) names ≡ Some (folder ++ filter (λ part. not (leads_nowhere part)) names)
walked_inside folder [] none = ap Some (sym (append-nil folder))
walked_inside folder (part ∷ names) none =
    let leads : List (List ℕ) → List (List ℕ) = filter (λ part. not (leads_nowhere part)) in
    let up : Bool = bytes_eq part (codes "..") in
    ap (λ place. walked place names) (step_inside (leads_nowhere part) up folder part (neither_first up (some_up names) none))
    ∙ walked_inside (folder ++ if_leads (leads_nowhere part) part) names (neither_second up (some_up names) none)
    ∙ ap Some (append_assoc folder (if_leads (leads_nowhere part) part) (leads names) ∙ ap (λ rest. folder ++ rest) (leading_more (leads_nowhere part) part (leads names)))

both_first : (a b : Bool) → (not a && not b) ≡ true → a ≡ false
both_first false b h = refl
both_first true b h = cc

both_second : (a b : Bool) → (not a && not b) ≡ true → b ≡ false
both_second false false h = refl
both_second false true h = cc
both_second true b h = cc

-- the path that a name inside of the folder stands for is its normal name
pub inside_normal : (name : List ℕ) → is_inside name ≡ true → paths.normal [] name ≡ Some (normal name)
inside_normal name inside =
    let relative : is_absolute name ≡ false = both_first (is_absolute name) (some_up (parts name)) inside in
    let none : some_up (parts name) ≡ false = both_second (is_absolute name) (some_up (parts name)) inside in
    ap (λ b. if b then None else option_map joined (walked (Some []) (parts name))) relative
    ∙ ap (option_map joined) (walked_inside [] (parts name) none)
    ∙ ap (λ b. Some (if b then joined (parts_of name) else name)) (sym inside)

-- The texts of the matches: there are such ones, and no others.
use Rattle.std.proofs.Common.{◌≡◌, ℕ, zero, suc, ◌+◌, ◌<◌, ◌≤◌, ◌==◌, inl, inr, List, [], ◌∷◌, get_or, length, Option, Some, refl, sym, ◌∙◌, ap, arith}
use Rattle.std.specs.Prelude.{Contains, if◌then◌else◌, slice_get}
use Rattle.std.specs.Option.{option_and_then}
use Rattle.std.proofs.lemmas.Bool.{cases_eq, eq-eqb, ne_eqb}
use Rattle.std.proofs.lemmas.List.Elements.{All-contains, Contains-append_right}
use Rattle.std.proofs.lemmas.Option.{same_Some, slice_get-get_or, slice_get_within}
use Rattle.ide_ssr_bindings.specs.Found.{FoundMatch}
use Rattle.ide_ssr_nesting.specs.declared.holders.Holder.{Holder}
use Rattle.ide_ssr_nesting.specs.Holding.{Kept}
use Rattle.ide_ssr_nesting.specs.Lists.{Listing, listed}
use Rattle.ide_ssr_rewriting.specs.Clashes.{Rewrite}
use Rattle.ide_ssr_rewriting.specs.Private.Nest.{IsNest, under}
use Rattle.ide_ssr_rewriting.specs.Replacements.{Writing}
use Rattle.ide_ssr_rewriting.specs.Edits.{range_at, Texts, AreTexts, list_at, list_under, text_by}
use Rattle.ide_ssr_rewriting.specs.Private.Edits.{texts_from, texts_of}

-- ** Lists.

-- a place stands in one list alone
pub one_list : (kept : Kept) (listing : Listing) → IsNest kept listing → (g h : Option Holder) (j : ℕ) → Contains (listed listing g) j → Contains (listed listing h) j → g ≡ h
one_list kept listing is g h j first second =
    let one : slice_get kept.holders j ≡ Some g = All-contains (λ j. slice_get kept.holders j ≡ Some g) (listed listing g) j (is.lists g).held first in
    let other : slice_get kept.holders j ≡ Some h = All-contains (λ j. slice_get kept.holders j ≡ Some h) (listed listing h) j (is.lists h).held second in
    same_Some g h (sym one ∙ other)

-- ** A text depends on those that its lists name.

pub list_same : (kept : Kept) (f g : Texts) (places : List ℕ) → ((j : ℕ) → Contains places j → f j ≡ g j) → list_at kept f places ≡ list_at kept g places
list_same kept f g [] same = refl
list_same kept f g (n ∷ places) same =
    let first : Rewrite = record { range = range_at kept n; text = g n } in
    ap (λ text. record { range = range_at kept n; text = text } ∷ list_at kept f places) (same n (0, omega arith, refl))
    ∙ ap (λ (list : List Rewrite). first ∷ list) (list_same kept f g places (λ j h. same j (Contains-append_right (n ∷ []) places j h)))

pub lists_same : (kept : Kept) (listing : Listing) (f g : Texts) (n : ℕ) → ((i j : ℕ) → Contains (under listing n i) j → f j ≡ g j) → list_under kept listing f n ≡ list_under kept listing g n
lists_same kept listing f g n same = λ t i. list_same kept f g (under listing n i) (same i) t

text_same : (kept : Kept) (listing : Listing) (by : Writing) (f g : Texts) (n : ℕ) (m : FoundMatch) → ((i j : ℕ) → Contains (under listing n i) j → f j ≡ g j)
    → text_by kept.workspace by m (list_under kept listing f n) ≡ text_by kept.workspace by m (list_under kept listing g n)
text_same kept listing by f g n m same = ap (text_by kept.workspace by m) (lists_same kept listing f g n same)

-- ** There are such texts.

abbrev stands_at : Kept → Listing → Writing → Texts → ℕ → Option (List ℕ)
stands_at kept listing by texts n = option_and_then (λ m. text_by kept.workspace by m (list_under kept listing texts n)) (slice_get kept.matches n)

stands_same : (kept : Kept) (listing : Listing) (by : Writing) (f g : Texts) (n : ℕ) → ((i j : ℕ) → Contains (under listing n i) j → f j ≡ g j)
    → stands_at kept listing by f n ≡ stands_at kept listing by g n
stands_same kept listing by f g n same = ap (λ (lists : ℕ → List Rewrite). option_and_then (λ m. text_by kept.workspace by m lists) (slice_get kept.matches n)) (lists_same kept listing f g n same)

at_first : (n from : ℕ) (x y : Option (List ℕ)) → n ≡ from → (if n == from then x else y) ≡ x
at_first n from x y e = rw (eq-eqb n from e) refl

past_first : (n from : ℕ) (x y : Option (List ℕ)) → (n ≡ from → ⊥) → (if n == from then x else y) ≡ y
past_first n from x y e = rw (ne_eqb n from e) refl

-- the match of the first place doesn't change what stands behind it
later_same : (kept : Kept) (listing : Listing) (by : Writing) (left from j : ℕ) → from < j
    → texts_from kept listing by left (1 + from) j ≡ texts_from kept listing by (suc left) from j
later_same kept listing by left from j lt = sym (past_first j from _ _ (λ e. omega arith))

pub stands_from : (kept : Kept) (listing : Listing) (by : Writing) → IsNest kept listing → (left from n : ℕ) → from ≤ n → n < from + left
    → texts_from kept listing by left from n ≡ stands_at kept listing by (texts_from kept listing by left from) n
stands_from kept listing by is zero from n le lt = absurd (omega arith)
stands_from kept listing by is (suc left) from n le lt =
    let later : Texts = texts_from kept listing by left (1 + from) in
    let all : Texts = texts_from kept listing by (suc left) from in
    let same : stands_at kept listing by later n ≡ stands_at kept listing by all n =
    stands_same kept listing by later all n (λ i j h. later_same kept listing by left from j (let behind = is.before n i j h in omega arith)) in
    elim (cases_eq n from) [
      | inl e ↦
          at_first n from (stands_at kept listing by later from) (later n) e
          ∙ (ap (stands_at kept listing by later) (sym e) ∙ same)
      | inr other ↦
          past_first n from (stands_at kept listing by later from) (later n) other
          ∙ (stands_from kept listing by is left (1 + from) n (omega arith) (omega arith) ∙ same)
    ]

pub are_texts : (kept : Kept) (listing : Listing) (by : Writing) → IsNest kept listing → AreTexts kept listing by (texts_of kept listing by)
unfolding texts_of
are_texts kept listing by is n m at =
    stands_from kept listing by is (length kept.matches) 0 n (omega arith) (let within = slice_get_within kept.matches n m at in omega arith)
    ∙ ap (option_and_then (λ m. text_by kept.workspace by m (list_under kept listing (texts_of kept listing by) n))) at

-- ** There are no others.

agree_from : (kept : Kept) (listing : Listing) (by : Writing) → IsNest kept listing → (f g : Texts) → AreTexts kept listing by f → AreTexts kept listing by g
    → (left n : ℕ) (m : FoundMatch) → length kept.matches ≤ n + left → slice_get kept.matches n ≡ Some m → f n ≡ g n
agree_from kept listing by is f g fs gs zero n m le at = let within = slice_get_within kept.matches n m at in absurd (omega arith)
agree_from kept listing by is f g fs gs (suc left) n m le at =
    fs n m at
    ∙ (text_same kept listing by f g n m (λ i j h.
    let behind = is.before n i j h in
    let within = All-contains (λ n. n < length kept.matches) (under listing n i) j (is.lists (Some (record { place = n; binding = i }))).within h in
    agree_from kept listing by is f g fs gs left j (get_or kept.matches j m) (omega arith) (slice_get-get_or kept.matches j m within))
    ∙ sym (gs n m at))

pub one_text : (kept : Kept) (listing : Listing) (by : Writing) → IsNest kept listing → (f g : Texts) → AreTexts kept listing by f → AreTexts kept listing by g
    → (n : ℕ) (m : FoundMatch) → slice_get kept.matches n ≡ Some m → f n ≡ g n
one_text kept listing by is f g fs gs n m at = agree_from kept listing by is f g fs gs (length kept.matches) n m (omega arith) at

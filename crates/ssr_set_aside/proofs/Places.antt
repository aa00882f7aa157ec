-- Places of a searched text that are places of the file's.
use Rattle.std.proofs.Common.{◌≡◌, ℕ, suc, ◌+◌, ◌-◌, ◌<◌, ◌≤◌, ◌⊎◌, inl, inr, Bool, true, false, List, [], ◌∷◌, ◌++◌, length, get_or, refl, sym, ◌∙◌, subst, arith}
use Rattle.std.specs.Prelude.{◌||◌, not, nat_lt, if◌then◌else◌}
use Rattle.std.specs.List.{All, list_any}
use Rattle.std.specs.Str.{IsCharBoundary}
use Rattle.std.proofs.lemmas.Bool.{cases_order, cases_lt, lt-ltb}
use Rattle.std.proofs.lemmas.List.{get_or_append_left, get_or-append_right, length-append}
use Rattle.std.proofs.lemmas.List.Elements.{All-cons, All-nil}
use Rattle.ssr_base_trees.specs.Changes.{Change, ChangesInOrder, FitsText, IsReplaced, same, next}
use Rattle.ssr_base_trees.specs.Origins.{Span}
use Rattle.ssr_syntax_tree.specs.Syntax.{source_of}
use Rattle.ssr_set_aside.specs.SetAside.{SetAside, AreCovered, Covers, IsSetAside, KeepsLength}
use Rattle.ssr_set_aside.specs.Sparing.{touches, touches_aside, spared}

-- a place lies strictly inside of none of the changes
abbrev NoneOver : ℕ → List Change → Type 0
NoneOver p [] = Unit {0}
NoneOver p (a ∷ more) = (a.start < p → a.end ≤ p) × NoneOver p more

-- the byte at a place is replaced by none of the changes
abbrev Outside : ℕ → List Change → Type 0
Outside p [] = Unit {0}
Outside p (a ∷ more) = (a.start ≤ p → a.end ≤ p) × Outside p more

all_behind : (P : Change → Type 0) (c : Change) (cs : List Change) → All P (c ∷ cs) → All P cs
all_behind P c cs all k d l = all (suc k) d (omega arith)

both_false : (x y : Bool) → (x || y) ≡ false → (x ≡ false) × (y ≡ false)
both_false true y e = absurd (cc)
both_false false y e = (refl, e)

-- a place of a change lies strictly inside of none whose reach it doesn't touch
not_over : (c a : Change) (reach : Span) (p : ℕ) → c.start ≤ p → p ≤ c.end → Covers reach a → touches c reach ≡ false → a.start < p → a.end ≤ p
not_over c a reach p from to over e h = by (cases_lt p a.end)
  where
    by : (p < a.end) ⊎ (a.end ≤ p) → a.end ≤ p
    by (inl l) =
        let first : nat_lt c.start reach.end ≡ true = lt-ltb c.start reach.end (omega (arith, over.1)) in
        let second : nat_lt reach.start c.end ≡ true = lt-ltb reach.start c.end (omega (arith, over.0)) in
        let yes : touches c reach ≡ true = rw (first, second) refl in
        absurd (let no : true ≡ false = sym yes ∙ e in cc)
    by (inr l) = l

none_over : (c : Change) (p : ℕ) (aside : List Change) (reaches : List Span) → c.start ≤ p → p ≤ c.end → AreCovered aside reaches
    → touches_aside reaches c ≡ false → NoneOver p aside
none_over c p [] reaches from to over e = tt
none_over c p (a ∷ more) [] from to over e = absurd over
none_over c p (a ∷ more) (reach ∷ reaches) from to over e =
    let parts = both_false (touches c reach) (list_any (touches c) reaches) e in
    (not_over c a reach p from to over.0 parts.0, none_over c p more reaches from to over.1 parts.1)

-- the texts are of one length
same_length : (at : ℕ) (before after : List ℕ) (cs : List Change) → IsReplaced at before cs after → All KeepsLength cs → length before ≡ length after
same_length at before after cs (same at' kept) keeps = refl
same_length at before after cs (next at' kept old behind after' c cs' s e rest) keeps =
    let i : length behind ≡ length after' = same_length c.end behind after' cs' rest (all_behind KeepsLength c cs' keeps) in
    let k : KeepsLength c = keeps 0 c (omega arith) in
    omega (arith, length-append kept (old ++ behind), length-append old behind, length-append kept (c.text ++ after'), length-append c.text after', i, k, e)

-- a byte that is not replaced stands at its place
same_byte : (at : ℕ) (before after : List ℕ) (cs : List Change) → IsReplaced at before cs after → All KeepsLength cs
    → (q : ℕ) → Outside (at + q) cs → get_or before q 0 ≡ get_or after q 0
same_byte at before after cs (same at' kept) keeps q o = refl
same_byte at before after cs (next at' kept old behind after' c cs' s e rest) keeps q o =
    by (cases_lt q (length kept)) (λ r. same_byte c.end behind after' cs' rest (all_behind KeepsLength c cs' keeps) r)
  where
    by : (q < length kept) ⊎ (length kept ≤ q) → ((r : ℕ) → Outside (c.end + r) cs' → get_or behind r 0 ≡ get_or after' r 0)
        → get_or (kept ++ (old ++ behind)) q 0 ≡ get_or (kept ++ (c.text ++ after')) q 0
    by (inl l) i = get_or_append_left kept (old ++ behind) 0 q l ∙ sym (get_or_append_left kept (c.text ++ after') 0 q l)
    by (inr l) i =
        let k : KeepsLength c = keeps 0 c (omega arith) in
        let past : c.end ≤ at + q = o.0 (omega arith) in
        let r : ℕ = q - length kept - length old in
        let place : at + q ≡ c.end + r = omega (arith, past, s, e, l) in
        let here : Outside (c.end + r) cs' = subst (λ p. Outside p cs') place o.1 in
        get_or-append_right kept (old ++ behind) (length kept) q 0 refl l
        ∙ get_or-append_right old behind (length old) (q - length kept) 0 refl (omega (arith, past, s, e))
        ∙ i r here
        ∙ sym (get_or-append_right kept (c.text ++ after') (length kept) q 0 refl l
        ∙ get_or-append_right c.text after' (length old) (q - length kept) 0 (omega (arith, k, e)) (omega (arith, past, s, e)))

-- a place that lies strictly inside of no change is one where a change begins, or its byte is not replaced
begins_or_outside : (text : List ℕ) (p : ℕ) (cs : List Change) → All (FitsText text) cs → NoneOver p cs → IsCharBoundary text p ⊎ Outside p cs
begins_or_outside text p [] fit none = inr tt
begins_or_outside text p (a ∷ more) fit none = by (cases_order a.start p) (begins_or_outside text p more (all_behind (FitsText text) a more fit) none.1)
  where
    by : (a.start ≡ p) ⊎ ((a.start < p) ⊎ (p < a.start)) → IsCharBoundary text p ⊎ Outside p more → IsCharBoundary text p ⊎ Outside p (a ∷ more)
    by (inl is) i = inl (subst (IsCharBoundary text) is (fit 0 a (omega arith)).0)
    by (inr (inl l)) (inl here) = inl here
    by (inr (inl l)) (inr out) = inr ((λ _. none.0 l), out)
    by (inr (inr l)) (inl here) = inl here
    by (inr (inr l)) (inr out) = inr ((λ h. absurd (omega arith)), out)

-- a place between two characters of the searched text, strictly inside of nothing set aside, is one of the file's text
place_stays : (text : List ℕ) (made : SetAside) (p : ℕ) → IsSetAside text made → NoneOver p made.aside
    → IsCharBoundary (source_of made.tree) p → IsCharBoundary text p
place_stays text made p is none bound = by (begins_or_outside text p made.aside is.fits none)
  where
    by : IsCharBoundary text p ⊎ Outside p made.aside → IsCharBoundary text p
    by (inl here) = here
    by (inr out) =
        let searched : List ℕ = source_of made.tree in
        let long : length text ≡ length searched = same_length 0 text searched made.aside is.replaced is.lengths in
        let out' : Outside (0 + p) made.aside = subst (λ q. Outside q made.aside) (omega arith) out in
        let byte : get_or text p 0 ≡ get_or searched p 0 = same_byte 0 text searched made.aside is.replaced is.lengths p out' in
        (omega (arith, bound.0, long), λ l h. rw byte (bound.1 (omega (arith, long, l)) (rw (← byte) h)))

-- a change that touches no reach fits the file's text if it fits the searched one
fit_one : (text : List ℕ) (made : SetAside) (c : Change) → IsSetAside text made → c.start ≤ c.end
    → touches_aside made.reaches c ≡ false → FitsText (source_of made.tree) c → FitsText text c
fit_one text made c is h e fit = (
  place_stays text made c.start is (none_over c c.start made.aside made.reaches (omega arith) h is.covered e) fit.0,
  place_stays text made c.end is (none_over c c.end made.aside made.reaches h (omega arith) is.covered e) fit.1,
)

-- so do all of them
pub fit-spared : (text : List ℕ) (made : SetAside) → IsSetAside text made → (at : ℕ) (edit : List Change) → ChangesInOrder at edit
    → All (FitsText (source_of made.tree)) edit → All (FitsText text) (spared made.reaches edit)
fit-spared text made is at [] o fit = All-nil (FitsText text)
fit-spared text made is at (c ∷ cs) o fit =
    by (touches_aside made.reaches c) refl (fit-spared text made is c.end cs o.2 (all_behind (FitsText (source_of made.tree)) c cs fit))
  where
    by : (b : Bool) → touches_aside made.reaches c ≡ b → All (FitsText text) (spared made.reaches cs)
        → All (FitsText text) (if not b then c ∷ spared made.reaches cs else spared made.reaches cs)
    by true e i = i
    by false e i = All-cons (FitsText text) c (spared made.reaches cs) (fit_one text made c is o.1 e (fit 0 c (omega arith))) i

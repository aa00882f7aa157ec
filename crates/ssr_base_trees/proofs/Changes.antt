-- Laws of changes and of the text with them made.
use Rattle.std.proofs.Common.{◌≡◌, ℕ, suc, ◌↔◌, ◌+◌, ◌-◌, ◌<◌, ◌≤◌, List, [], ◌∷◌, ◌++◌, length, get_or, drop, sym, ◌∙◌, ap, subst, arith, String}
use Rattle.std.proofs.lemmas.List.{get_or-map, length-map, append_assoc, drop_more, length-drop, take_all, length-take-le}
use Rattle.std.proofs.lemmas.List.Elements.{All-map}
use Rattle.std.proofs.lemmas.List.Folds.{drop_split}
use Rattle.std.specs.List.{All, slice_range}
use Rattle.std.specs.Global.{Global}
use Rattle.ssr_syntax_kinds.specs.declared.range.TextRange.{TextRange}
use Rattle.ssr_base_trees.specs.Changes.{Change, ChangesInOrder, FitsText, IsReplaced, same, next, replaced}
use Rattle.ssr_base_trees.specs.Applied.{change_of, changes_of}

-- the change at a place, and those from there on
pub change_at : (pairs : List (TextRange × String Global)) (i : ℕ) (pair : TextRange × String Global) (d : Change)
    → i < length pairs → pair ≡ get_or pairs i pair → get_or (changes_of pairs) i d ≡ change_of pair
change_at pairs i pair d h e = get_or-map change_of pairs i pair d h ∙ ap change_of (sym e)

pub changes_from : (pairs : List (TextRange × String Global)) (i : ℕ) (pair : TextRange × String Global)
    → i < length pairs → pair ≡ get_or pairs i pair
    → drop i (changes_of pairs) ≡ change_of pair ∷ drop (i + 1) (changes_of pairs)
changes_from pairs i pair h e =
    drop_more (changes_of pairs) i (change_of pair) (omega (arith, length-map pairs change_of))
    ∙ ap (λ c. c ∷ drop (i + 1) (changes_of pairs)) (change_at pairs i pair (change_of pair) h e)

-- the text so far, with one change more
pub one_more : (text new mid out kept old whole : List ℕ) (at to : ℕ) (c : Change) (cs left : List Change)
    → new ++ replaced text at to left ≡ whole → left ≡ c ∷ cs → mid ≡ new ++ kept → out ≡ mid ++ old
    → kept ≡ slice_range text at c.start → old ≡ c.text → out ++ replaced text c.end to cs ≡ whole
one_more text new mid out kept old whole at to c cs left so is m n k o =
    rw (n, m, append_assoc, append_assoc, k, o) (subst (λ (cs : List Change). new ++ replaced text at to cs ≡ whole) is so)

length_between : (text : List ℕ) (at start : ℕ) → at ≤ start → start ≤ length text → length (slice_range text at start) ≡ start - at
length_between text at start h l = length-take-le (start - at) (drop at text) (omega (arith, length-drop at text))

-- the text with the changes made replaces each of their ranges
pub IsReplaced-replaced : (text : List ℕ) (at : ℕ) (changes : List Change) → ChangesInOrder at changes
    → at ≤ length text → All (FitsText text) changes
    → IsReplaced at (drop at text) changes (replaced text at (length text) changes)
IsReplaced-replaced text at [] order h fit =
    rw (take_all (length text - at) (drop at text) (omega (arith, length-drop at text))) (same at (drop at text))
IsReplaced-replaced text at (c ∷ cs) order h fit =
    let f : FitsText text c = fit 0 c (omega arith) in
    let parts : drop at text ≡ slice_range text at c.start ++ (slice_range text c.start c.end ++ drop c.end text) =
    drop_split text at c.start order.0 ∙ ap (λ (o : List ℕ). slice_range text at c.start ++ o) (drop_split text c.start c.end order.1) in
    subst (λ (o : List ℕ). IsReplaced at o (c ∷ cs) (replaced text at (length text) (c ∷ cs))) (sym parts)
    (next at (slice_range text at c.start) (slice_range text c.start c.end) (drop c.end text) (replaced text c.end (length text) cs) c cs
    (omega (arith, order.0, length_between text at c.start order.0 f.0.0))
    (omega (arith, order.1, length_between text c.start c.end order.1 f.1.0))
    (IsReplaced-replaced text c.end cs order.2 f.1.0 (λ k d l. fit (suc k) d (omega arith))))

-- a change fits where all do
pub fits_here : (text : List ℕ) (pairs : List (TextRange × String Global)) (changes : List Change) (i : ℕ) (pair : TextRange × String Global)
    → i < length pairs → pair ≡ get_or pairs i pair → changes_of pairs ≡ changes → All (FitsText text) changes → FitsText text (change_of pair)
fits_here text pairs changes i pair h e is fit =
    subst (FitsText text) (change_at pairs i pair (change_of pair) h e)
    (subst (All (FitsText text)) (sym is) fit i (change_of pair) (omega (arith, length-map pairs change_of)))

-- all changes fit where those of all pairs do, and the other way round
pub all_fit : (text : List ℕ) (pairs : List (TextRange × String Global)) → All (λ pair. FitsText text (change_of pair)) pairs ↔ All (FitsText text) (changes_of pairs)
all_fit text pairs = (
  All-map (FitsText text) change_of pairs,
  λ fit k pair h. subst (FitsText text) (get_or-map change_of pairs k pair (change_of pair) h) (fit k (change_of pair) (omega (arith, length-map pairs change_of))),
)

-- what a borrowed vector of changes shows
pub shown : {xs ys : List (TextRange × String Global)} {cs : List Change} → xs ≡ ys → changes_of ys ≡ cs → changes_of xs ≡ cs
shown e v = ap changes_of e ∙ v

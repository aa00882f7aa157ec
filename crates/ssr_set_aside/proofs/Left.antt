-- The reaches that the changes of an edit, in order, may still touch.
use Rattle.std.proofs.Common.{◌≡◌, ℕ, ◌+◌, ◌<◌, ◌≤◌, Bool, true, false, List, [], ◌∷◌, ◌++◌, length, map, get_or, refl, sym, ◌∙◌, ap, arith, String, string_bytes}
use Rattle.std.specs.Prelude.{◌&&◌, ◌||◌, not, nat_lt, if◌then◌else◌, filter, take}
use Rattle.std.specs.List.{list_any}
use Rattle.std.proofs.lemmas.Bool.{ltb-false, le-ltb}
use Rattle.std.proofs.lemmas.List.{take_more, map-append, append-nil}
use Rattle.std.proofs.lemmas.List.Elements.{filter-append}
use Rattle.std.specs.Global.{Global}
use Rattle.ssr_syntax_kinds.specs.declared.range.TextRange.{TextRange}
use Rattle.ssr_base_trees.specs.Changes.{Change, ChangesInOrder}
use Rattle.ssr_base_trees.specs.Applied.{change_of, changes_of}
use Rattle.ssr_base_trees.specs.Origins.{Span}
use Rattle.ssr_set_aside.specs.SetAside.{BeginInOrder}
use Rattle.ssr_set_aside.specs.Sparing.{touches, touches_aside, spared, told, bounds_of}
use Rattle.ssr_set_aside.specs.Private.Sparing.{behind, begins_before}

-- a change touches none that ends at its start or before
touches-behind : (d : Change) (a : Span) → a.end ≤ d.start → touches d a ≡ false
touches-behind d a h = rw (le-ltb d.start a.end h) refl

-- a change touches none that begins at its end or behind
touches-before : (d : Change) (a : Span) → d.end ≤ a.start → touches d a ≡ false
touches-before d a h = by (nat_lt d.start a.end)
  where
    by : (b : Bool) → (b && nat_lt a.start d.end) ≡ false
    by true = le-ltb a.start d.end h
    by false = refl

-- those passed over are touched by no later change
passed : (place : ℕ) (left : List Span) (d : Change) → place ≤ d.start
    → list_any (touches d) (behind place left) ≡ list_any (touches d) left
passed place [] d h = refl
passed place (a ∷ more) d h = by (nat_lt place a.end) refl (passed place more d h)
  where
    by : (b : Bool) → nat_lt place a.end ≡ b → list_any (touches d) (behind place more) ≡ list_any (touches d) more
        → list_any (touches d) (if b then a ∷ more else behind place more) ≡ (touches d a || list_any (touches d) more)
    by true e i = refl
    by false e i = rw (touches-behind d a (omega (arith, ltb-false place a.end e))) i

-- none of those that begin at the end of a change or behind is touched by it
none_touched : (d : Change) (at : ℕ) (left : List Span) → BeginInOrder at left → d.end ≤ at → list_any (touches d) left ≡ false
none_touched d at [] o h = refl
none_touched d at (a ∷ more) o h =
    rw (touches-before d a (omega (arith, o.0, h))) (none_touched d a.start more o.1 (omega (arith, o.0, h)))

-- Of reaches of which the first one ends behind the start of a change, that one decides whether it touches any.
decided : (d : Change) (a : Span) (more : List Span) → BeginInOrder a.start more → nat_lt d.start a.end ≡ true
    → (touches d a || list_any (touches d) more) ≡ nat_lt a.start d.end
decided d a more o e = rw e (by (nat_lt a.start d.end) refl)
  where
    by : (b : Bool) → nat_lt a.start d.end ≡ b → ((true && b) || list_any (touches d) more) ≡ b
    by true s = refl
    by false s = none_touched d a.start more o (omega (arith, ltb-false a.start d.end s))

first_decides : (d : Change) (at : ℕ) (left : List Span) → BeginInOrder at left
    → list_any (touches d) (behind d.start left) ≡ begins_before d.end (behind d.start left)
first_decides d at [] o = refl
first_decides d at (a ∷ more) o = by (nat_lt d.start a.end) refl (first_decides d a.start more o.1)
  where
    by : (b : Bool) → nat_lt d.start a.end ≡ b
        → list_any (touches d) (behind d.start more) ≡ begins_before d.end (behind d.start more)
        → list_any (touches d) (if b then a ∷ more else behind d.start more) ≡ begins_before d.end (if b then a ∷ more else behind d.start more)
    by true e i = decided d a more o.1 e
    by false e i = i

order-behind : (place at : ℕ) (left : List Span) → BeginInOrder at left → (from : ℕ) × BeginInOrder from (behind place left)
order-behind place at [] o = (at, tt)
order-behind place at (a ∷ more) o = by (nat_lt place a.end) (order-behind place a.start more o.1)
  where
    by : (b : Bool) → (from : ℕ) × BeginInOrder from (behind place more)
        → (from : ℕ) × BeginInOrder from (if b then a ∷ more else behind place more)
    by true i = (at, o)
    by false i = i

-- a change that begins at a place or behind touches one of the reaches if it touches one of those left
pub record IsLeft (reaches left : List Span) (place : ℕ) : Type 0 where
  pub order : (from : ℕ) × BeginInOrder from left
  pub same : (d : Change) → place ≤ d.start → touches_aside reaches d ≡ touches_aside left d

pub all_left : (reaches : List Span) → BeginInOrder 0 reaches → IsLeft reaches reaches 0
all_left reaches o = record { order = (0, o); same = λ d h. refl }

-- what is left behind a change
pub left_behind : (reaches left : List Span) (place : ℕ) (c : Change) (cs : List Change) → ChangesInOrder place (c ∷ cs)
    → IsLeft reaches left place → IsLeft reaches (behind c.start left) c.end
left_behind reaches left place c cs o is = record {
  order = order-behind c.start is.order.0 left is.order.1;
  same = λ d h. is.same d (omega (arith, o.0, o.1)) ∙ sym (passed c.start left d (omega (arith, o.1)));
}

-- whether a change touches one of the reaches
pub touches_first : (reaches left : List Span) (place : ℕ) (c : Change) (cs : List Change) → ChangesInOrder place (c ∷ cs)
    → IsLeft reaches left place → touches_aside reaches c ≡ begins_before c.end (behind c.start left)
touches_first reaches left place c cs o is =
    is.same c o.0 ∙ sym (passed c.start left c (omega arith)) ∙ first_decides c is.order.0 left is.order.1

-- the elements up to one more that pass a test
filtered : (p : Change → Bool) (cs : List Change) (i : ℕ) (c : Change) (b : Bool) → i < length cs → get_or cs i c ≡ c → p c ≡ b
    → filter p (take (i + 1) cs) ≡ filter p (take i cs) ++ (if b then c ∷ [] else [])
filtered p cs i c b h is e =
    ap (filter p) (take_more cs i c h ∙ ap (λ d. take i cs ++ d ∷ []) is) ∙ filter-append p (take i cs) (c ∷ [])
    ∙ ap (λ (b : Bool). filter p (take i cs) ++ (if b then c ∷ [] else [])) e

spared_one : (aside : List Span) (cs : List Change) (i : ℕ) (c : Change) (b : Bool) → i < length cs → get_or cs i c ≡ c → touches_aside aside c ≡ b
    → spared aside (take (i + 1) cs) ≡ spared aside (take i cs) ++ (if not b then c ∷ [] else [])
spared_one aside cs i c b h is e = filtered (λ c. not (touches_aside aside c)) cs i c (not b) h is (ap not e)

told_one : (aside : List Span) (cs : List Change) (i : ℕ) (c : Change) (b : Bool) → i < length cs → get_or cs i c ≡ c → touches_aside aside c ≡ b
    → told aside (take (i + 1) cs) ≡ told aside (take i cs) ++ map bounds_of (if b then c ∷ [] else [])
told_one aside cs i c b h is e =
    ap (map bounds_of) (filtered (touches_aside aside) cs i c b h is e) ∙ map-append bounds_of (filter (touches_aside aside) (take i cs)) (if b then c ∷ [] else [])

-- A change that touches one of the reaches is told, any other one is made.
pub spared_same : (aside : List Span) (cs : List Change) (i : ℕ) (c : Change) → i < length cs → get_or cs i c ≡ c → touches_aside aside c ≡ true
    → spared aside (take (i + 1) cs) ≡ spared aside (take i cs)
spared_same aside cs i c h is e = spared_one aside cs i c true h is e ∙ append-nil (spared aside (take i cs))

pub spared_more : (aside : List Span) (cs : List Change) (i : ℕ) (c : Change) → i < length cs → get_or cs i c ≡ c → touches_aside aside c ≡ false
    → spared aside (take (i + 1) cs) ≡ spared aside (take i cs) ++ c ∷ []
spared_more aside cs i c h is e = spared_one aside cs i c false h is e

pub told_same : (aside : List Span) (cs : List Change) (i : ℕ) (c : Change) → i < length cs → get_or cs i c ≡ c → touches_aside aside c ≡ false
    → told aside (take (i + 1) cs) ≡ told aside (take i cs)
told_same aside cs i c h is e = told_one aside cs i c false h is e ∙ append-nil (told aside (take i cs))

pub told_more : (aside : List Span) (cs : List Change) (i : ℕ) (c : Change) → i < length cs → get_or cs i c ≡ c → touches_aside aside c ≡ true
    → told aside (take (i + 1) cs) ≡ told aside (take i cs) ++ bounds_of c ∷ []
told_more aside cs i c h is e = told_one aside cs i c true h is e

-- the changes of a vector with a copy of one more
pub changes_more : (made new : List (TextRange × String Global)) (range : TextRange) (copy text : String Global) (bytes : List ℕ)
    → new ≡ made ++ (range, copy) ∷ [] → string_bytes copy ≡ bytes → bytes ≡ string_bytes text
    → changes_of new ≡ changes_of made ++ change_of (range, text) ∷ []
changes_more made new range copy text bytes is e f =
    ap changes_of is ∙ map-append change_of made ((range, copy) ∷ [])
    ∙ ap (λ (bytes : List ℕ). changes_of made ++ record { start = range.start; end = range.end; text = bytes } ∷ []) (e ∙ f)

earlier : (at from : ℕ) (cs : List Change) → at ≤ from → ChangesInOrder from cs → ChangesInOrder at cs
earlier at from [] h o = tt
earlier at from (c ∷ cs) h o = (omega (arith, o.0), o.1, o.2)

-- changes that are left out leave the others in order
pub order-filter : (p : Change → Bool) (at : ℕ) (cs : List Change) → ChangesInOrder at cs → ChangesInOrder at (filter p cs)
order-filter p at [] o = tt
order-filter p at (c ∷ cs) o = by (p c) (order-filter p c.end cs o.2)
  where
    by : (b : Bool) → ChangesInOrder c.end (filter p cs) → ChangesInOrder at (if b then c ∷ filter p cs else filter p cs)
    by true i = (o.0, o.1, i)
    by false i = earlier at c.end (filter p cs) (omega (arith, o.0, o.1)) i

-- The edits of the files, from a list that is in order and has no clash.
use Rattle.std.proofs.Common.{◌≡◌, ℕ, suc, ◌-◌, ◌<◌, ◌≤◌, ◌==◌, Bool, cond, true, false, inl, inr, ◌⊎◌, List, [], ◌∷◌, ◌++◌, All, get_or, length, map, filter, option_map, reverse, Some, refl, sym, ◌∙◌, ap, subst, arith, append-nil, append_assoc}
use Rattle.std.specs.BTreeMap.{BTreeMap, get, is_at}
use Rattle.std.specs.Map.{lookup}
use Rattle.std.specs.Prelude.{if◌then◌else◌}
use Rattle.std.proofs.lemmas.Bool.{cases_eq, cases_lt, eq-eqb, eqb-true, ne_eqb}
use Rattle.std.proofs.lemmas.Bool.Decides.{nat_tests}
use Rattle.std.proofs.lemmas.List.{length-append, reverse-append}
use Rattle.std.proofs.lemmas.List.Elements.{All-cons, All-head, All-nil, All-tail, All-filter, All-weaker, filter-append, filter_passes}
use Rattle.std.proofs.lemmas.Option.{same_Some}
use Rattle.ssr_base_trees.specs.declared.ids.FileId.{FileId}
use Rattle.ssr_base_trees.specs.Changes.{Change, ChangesInOrder}
use Rattle.ssr_base_trees.specs.Workspace.{FileSpan, Workspace}
use Rattle.ide_ssr_rewriting.specs.Clashes.{Rewrite, Clash, change_of, changes_made, clashes, clashes_with, is_clash, same_range, share_byte}
use Rattle.ide_ssr_rewriting.specs.Edits.{edit_of, file_cmp, made_in, some_changes}
use Rattle.ide_ssr_rewriting.specs.Fitting.{fitted_in}
use Rattle.ide_ssr_rewriting.specs.Private.Clashes.{AreInOrder, range_le}
use Rattle.ide_ssr_rewriting.specs.Private.Groups.{IsGroup, LastElsewhere}
use Rattle.ide_ssr_rewriting.proofs.FirstClashes.{ComesFirst, InOrder, apart_ranges, comes_first, in_order, less_shared, one_range, pairs, without_second}
use Rattle.ide_ssr_rewriting.proofs.ChangesMade.{fresh_behind, fresh_from}
use Rattle.ide_ssr_rewriting.proofs.Fittings.{order_in}

-- ** Lists without a clash.

both_none : (xs ys : List Clash) → xs ++ ys ≡ [] → (xs ≡ []) × (ys ≡ [])
both_none [] ys e = (refl, e)
both_none (x ∷ xs) ys e = absurd (cc e)

none_with : (x y : Rewrite) (zs : List Rewrite) → clashes_with x (y ∷ zs) ≡ [] → (is_clash x y ≡ false) × (clashes_with x zs ≡ [])
none_with x y zs e = at (is_clash x y) e
  where
    at : (b : Bool) → pairs x.range (if b then y ∷ filter (is_clash x) zs else filter (is_clash x) zs) ≡ [] → (b ≡ false) × (clashes_with x zs ≡ [])
    at true e = absurd (cc e)
    at false e = (refl, e)

same_back : (a b : FileSpan) → same_range a b ≡ true → same_range b a ≡ true
same_back a b e = subst (λ (b : FileSpan). same_range b a ≡ true) (one_range a b e) (subst (λ (b : FileSpan). same_range a b ≡ true) (sym (one_range a b e)) e)

not_same : (a b : FileSpan) → same_range b a ≡ false → same_range a b ≡ false
not_same a b e = by (same_range a b) refl
  where
    by : (t : Bool) → same_range a b ≡ t → t ≡ false
    by true h = let back = same_back a b h in cc
    by false h = refl

-- one ends before the next one begins, which has another range and doesn't clash with it
ends_before : (x y : Rewrite) → x.range.file ≡ y.range.file → ComesFirst x.range y.range → y.range.span.start < y.range.span.end
    → same_range x.range y.range ≡ false → is_clash x y ≡ false → x.range.span.end ≤ y.range.span.start
ends_before x y file (inl before) byte other apart = absurd (omega arith)
ends_before x y file (inr at) byte other apart =
    elim (cases_lt y.range.span.start x.range.span.end) [
      | inl inside ↦
          let start = at.1 in
          let shared : share_byte x.range y.range ≡ true = less_shared x.range y.range file (omega arith) in
          let off = apart_ranges x y other apart in
          absurd (cc)
      | inr behind ↦ behind
    ]

joined_none : (xs ys : List Clash) → xs ≡ [] → ys ≡ [] → xs ++ ys ≡ []
joined_none xs ys e f = ap (λ (xs : List Clash). xs ++ ys) e ∙ f

-- the next one begins another range or not
ordered_step : (x y : Rewrite) (ys : List Rewrite) → x.range.file ≡ y.range.file → InOrder (x ∷ y ∷ ys) → is_clash x y ≡ false
    → ChangesInOrder x.range.span.end (map change_of (fresh_behind x.range ys)) → ChangesInOrder y.range.span.end (map change_of (fresh_behind y.range ys))
    → (b : Bool) → same_range y.range x.range ≡ b → ChangesInOrder x.range.span.end (map change_of (if b then fresh_behind x.range ys else y ∷ fresh_behind y.range ys))
ordered_step x y ys file order apart first second true e = first
ordered_step x y ys file order apart first second false e =
    let le = All-head (λ z. range_le x.range z.range ≡ true) y ys order.1 in
    let byte = order.2.0 in (
      ends_before x y file (comes_first x.range y.range le) byte (not_same x.range y.range e) apart,
      omega arith,
      second,
    )

behind_ordered : (file : ℕ) (x : Rewrite) (ys : List Rewrite) → x.range.file ≡ file → All (λ r. r.range.file ≡ file) ys → InOrder (x ∷ ys) → clashes (x ∷ ys) ≡ []
    → ChangesInOrder x.range.span.end (map change_of (fresh_behind x.range ys))
behind_ordered file x [] here all order none = tt
behind_ordered file x (y ∷ ys) here all order none =
    let parts = both_none (clashes_with x (y ∷ ys)) (clashes (y ∷ ys)) none in
    let more = both_none (clashes_with y ys) (clashes ys) parts.1 in
    let first = none_with x y ys parts.0 in
    let rest = All-tail (λ r. r.range.file ≡ file) y ys all in
    let own = All-head (λ r. r.range.file ≡ file) y ys all in
    ordered_step x y ys (here ∙ sym own) order first.0
    (behind_ordered file x ys here rest (without_second x y ys order) (joined_none (clashes_with x ys) (clashes ys) first.1 more.1))
    (behind_ordered file y ys own rest order.2 parts.1)
    (same_range y.range x.range) refl

pub changes_ordered : (file : ℕ) (list : List Rewrite) → All (λ r. r.range.file ≡ file) list → InOrder list → clashes list ≡ [] → ChangesInOrder 0 (changes_made list)
changes_ordered file [] all order none = tt
changes_ordered file (x ∷ xs) all order none =
    let byte = order.0 in
    subst (λ (list : List Rewrite). ChangesInOrder 0 (map change_of list)) (sym (fresh_from x xs)) (
      omega arith,
      omega arith,
      behind_ordered file x xs (All-head (λ r. r.range.file ≡ file) x xs all) (All-tail (λ r. r.range.file ≡ file) x xs all) order none,
    )

-- ** Parts of a list.

clashes-back : (xs ys : List Rewrite) → clashes (xs ++ ys) ≡ [] → clashes ys ≡ []
clashes-back [] ys e = e
clashes-back (x ∷ xs) ys e = clashes-back xs ys (both_none (clashes_with x (xs ++ ys)) (clashes (xs ++ ys)) e).1

with_front : (x : Rewrite) (xs ys : List Rewrite) → clashes_with x (xs ++ ys) ≡ [] → clashes_with x xs ≡ []
with_front x [] ys e = refl
with_front x (y ∷ xs) ys e =
    let parts = none_with x y (xs ++ ys) e in
    ap (λ (b : Bool). pairs x.range (if b then y ∷ filter (is_clash x) xs else filter (is_clash x) xs)) parts.0
    ∙ with_front x xs ys parts.1

clashes-front : (xs ys : List Rewrite) → clashes (xs ++ ys) ≡ [] → clashes xs ≡ []
clashes-front [] ys e = refl
clashes-front (x ∷ xs) ys e =
    let parts = both_none (clashes_with x (xs ++ ys)) (clashes (xs ++ ys)) e in
    joined_none (clashes_with x xs) (clashes xs) (with_front x xs ys parts.0) (clashes-front xs ys parts.1)

All-front : {X : Type 0} (P : X → Type 0) (xs ys : List X) → All P (xs ++ ys) → All P xs
All-front P [] ys h = All-nil P
All-front P (x ∷ xs) ys h = All-cons P x xs (All-head P x (xs ++ ys) h) (All-front P xs ys (All-tail P x (xs ++ ys) h))

All-back : {X : Type 0} (P : X → Type 0) (xs ys : List X) → All P (xs ++ ys) → All P ys
All-back P [] ys h = h
All-back P (x ∷ xs) ys h = All-back P xs ys (All-tail P x (xs ++ ys) h)

order-front : (xs ys : List Rewrite) → InOrder (xs ++ ys) → InOrder xs
order-front [] ys h = tt
order-front (x ∷ xs) ys h = (h.0, All-front (λ s. range_le x.range s.range ≡ true) xs ys h.1, order-front xs ys h.2)

order-back : (xs ys : List Rewrite) → InOrder (xs ++ ys) → InOrder ys
order-back [] ys h = h
order-back (x ∷ xs) ys h = order-back xs ys h.2

-- ** The rewrites of a file.

-- those of a list that lie in a file
abbrev pub in_file : ℕ → List Rewrite → List Rewrite
in_file q rs = filter (λ r. r.range.file == q) rs

with_filter : (p : Rewrite → Bool) (x : Rewrite) (ys : List Rewrite) → clashes_with x ys ≡ [] → clashes_with x (filter p ys) ≡ []
with_filter p x [] e = refl
with_filter p x (y ∷ ys) e =
    let parts = none_with x y ys e in by parts.0 (with_filter p x ys parts.1) (p y)
  where
    by : is_clash x y ≡ false → clashes_with x (filter p ys) ≡ [] → (b : Bool) → clashes_with x (if b then y ∷ filter p ys else filter p ys) ≡ []
    by apart rest true =
        ap (λ (b : Bool). pairs x.range (if b then y ∷ filter (is_clash x) (filter p ys) else filter (is_clash x) (filter p ys))) apart ∙ rest
    by apart rest false = rest

clashes-filter : (p : Rewrite → Bool) (xs : List Rewrite) → clashes xs ≡ [] → clashes (filter p xs) ≡ []
clashes-filter p [] e = refl
clashes-filter p (x ∷ xs) e =
    let parts = both_none (clashes_with x xs) (clashes xs) e in by (with_filter p x xs parts.0) (clashes-filter p xs parts.1) (p x)
  where
    by : clashes_with x (filter p xs) ≡ [] → clashes (filter p xs) ≡ [] → (b : Bool) → clashes (if b then x ∷ filter p xs else filter p xs) ≡ []
    by own rest true = joined_none (clashes_with x (filter p xs)) (clashes (filter p xs)) own rest
    by own rest false = rest

order-filter : (p : Rewrite → Bool) (xs : List Rewrite) → InOrder xs → InOrder (filter p xs)
order-filter p [] order = tt
order-filter p (x ∷ xs) order =
    by order.0 (All-filter p (λ s. range_le x.range s.range ≡ true) xs order.1) (order-filter p xs order.2) (p x)
  where
    by : x.range.span.start < x.range.span.end → All (λ s. range_le x.range s.range ≡ true) (filter p xs) → InOrder (filter p xs)
        → (b : Bool) → InOrder (if b then x ∷ filter p xs else filter p xs)
    by byte first rest true = (byte, first, rest)
    by byte first rest false = rest

-- the changes of a file are in order
pub edit_ordered : (w : Workspace) (file : ℕ) (list : List Rewrite) (changes : List Change) → AreInOrder list → clashes list ≡ [] → edit_of w file list ≡ Some changes
    → ChangesInOrder 0 changes
edit_ordered w file list changes order none is =
    let here : Rewrite → Bool = λ r. r.range.file == file in
    some_ordered (changes_made (in_file file list)) is
    (changes_ordered file (in_file file list) (λ i d lt. eqb-true _ file (filter_passes here list i d lt)) (order-filter here list (in_order list order)) (clashes-filter here list none))
  where
    some_ordered : (cs : List Change) → option_map (fitted_in w file) (some_changes cs) ≡ Some changes → ChangesInOrder 0 cs → ChangesInOrder 0 changes
    some_ordered [] is order = absurd (cc is)
    some_ordered (c ∷ cs) is order = subst (ChangesInOrder 0) (same_Some (fitted_in w file (c ∷ cs)) changes is) (order_in w file 0 (c ∷ cs) order)

-- a list of which the last part is taken, with no file in both parts
pub record AreSplit (all left done : List Rewrite) : Type 0 where
  pub is : left ++ done ≡ all
  pub apart : (q : ℕ) → (in_file q left ≡ []) ⊎ (in_file q done ≡ [])

all_in : (q : ℕ) (rs : List Rewrite) → All (λ r. r.range.file ≡ q) rs → in_file q rs ≡ rs
all_in q [] h = refl
all_in q (r ∷ rs) h =
    rw (eq-eqb r.range.file q (All-head (λ r. r.range.file ≡ q) r rs h)) (ap (λ (rs : List Rewrite). r ∷ rs) (all_in q rs (All-tail (λ r. r.range.file ≡ q) r rs h)))

none_in : (q : ℕ) (rs : List Rewrite) → All (λ r. r.range.file ≡ q → ⊥) rs → in_file q rs ≡ []
none_in q [] h = refl
none_in q (r ∷ rs) h =
    rw (ne_eqb r.range.file q (All-head (λ r. r.range.file ≡ q → ⊥) r rs h)) (none_in q rs (All-tail (λ r. r.range.file ≡ q → ⊥) r rs h))

last_behind : (f : ℕ) (x y : Rewrite) (ys : List Rewrite) → LastElsewhere f (x ∷ y ∷ ys) → LastElsewhere f (y ∷ ys)
last_behind f x y ys last d lt =
    let e : length (x ∷ y ∷ ys) - 1 ≡ suc (length (y ∷ ys) - 1) = omega arith in
    subst (λ (n : ℕ). (get_or (x ∷ y ∷ ys) n d).range.file ≡ f → ⊥) e (last d (omega arith))

-- what comes before the last file's part lies in earlier files
below : (f : ℕ) (rs : List Rewrite) (g : Rewrite) (gs : List Rewrite) → g.range.file ≡ f → InOrder (rs ++ (g ∷ gs)) → LastElsewhere f rs → All (λ r. r.range.file < f) rs
below f [] g gs file order last = All-nil (λ r. r.range.file < f)
below f (x ∷ []) g gs file order last =
    let le = comes_first x.range g.range (All-head (λ s. range_le x.range s.range ≡ true) g gs order.1) in
    let other : x.range.file ≡ f → ⊥ = last x (omega arith) in
    All-cons (λ r. r.range.file < f) x []
    (elim le [ inl before ↦ omega arith | inr at ↦ (let e = at.0 in absurd (other (omega arith))) ])
    (All-nil (λ r. r.range.file < f))
below f (x ∷ (y ∷ ys)) g gs file order last =
    let rest = below f (y ∷ ys) g gs file order.2 (last_behind f x y ys last) in
    let le = comes_first x.range y.range (All-head (λ s. range_le x.range s.range ≡ true) y (ys ++ (g ∷ gs)) order.1) in
    let next = All-head (λ r. r.range.file < f) y ys rest in
    All-cons (λ r. r.range.file < f) x (y ∷ ys) (elim le [ inl before ↦ omega arith | inr at ↦ (let e = at.0 in omega arith) ]) rest

earlier_elsewhere : (f : ℕ) (rs : List Rewrite) → All (λ r. r.range.file < f) rs → All (λ r. r.range.file ≡ f → ⊥) rs
earlier_elsewhere f rs h = All-weaker (λ r. r.range.file < f) (λ r. r.range.file ≡ f → ⊥) (λ r lt e. omega arith) rs h

none_left : (all old left done : List Rewrite) (f : ℕ) (g : Rewrite) (gs : List Rewrite) → AreSplit all old done → IsGroup f old left (g ∷ gs) → InOrder all → in_file f left ≡ []
none_left all old left done f g gs split group order =
    let whole : InOrder (old ++ done) = subst InOrder (sym split.is) order in
    let part : InOrder (left ++ (g ∷ gs)) = subst InOrder group.is (order-front old done whole) in
    none_in f left (earlier_elsewhere f left (below f left g gs (All-head (λ r. r.range.file ≡ f) g gs group.file) part group.last))

in_old : (old left : List Rewrite) (f : ℕ) (g : Rewrite) (gs : List Rewrite) → IsGroup f old left (g ∷ gs) → in_file f old ≡ in_file f left ++ (g ∷ gs)
in_old old left f g gs group =
    ap (in_file f) group.is ∙ (filter-append (λ r. r.range.file == f) left (g ∷ gs) ∙ ap (λ (rs : List Rewrite). in_file f left ++ rs) (all_in f (g ∷ gs) group.file))

none_done : (all old left done : List Rewrite) (f : ℕ) (g : Rewrite) (gs : List Rewrite) → AreSplit all old done → IsGroup f old left (g ∷ gs) → InOrder all → in_file f done ≡ []
none_done all old left done f g gs split group order =
    elim (split.apart f) [
      | inl none ↦
          let here : g ∷ gs ≡ [] = sym (in_old old left f g gs group ∙ ap (λ (rs : List Rewrite). rs ++ (g ∷ gs)) (none_left all old left done f g gs split group order)) ∙ none in
          absurd (cc here)
      | inr none ↦ none
    ]

elsewhere : (f q : ℕ) (rs : List Rewrite) → (q ≡ f → ⊥) → All (λ r. r.range.file ≡ f) rs → in_file q rs ≡ []
elsewhere f q rs other h = none_in q rs (All-weaker (λ r. r.range.file ≡ f) (λ r. r.range.file ≡ q → ⊥) (λ r e at. other (sym at ∙ e)) rs h)

either_step : (x : Rewrite) (all some : List Rewrite) (b : Bool) → (all ≡ [] → some ≡ []) → (if b then x ∷ all else all) ≡ [] → (if b then x ∷ some else some) ≡ []
either_step x all some true rest e = absurd (cc e)
either_step x all some false rest e = rest e

none_either : (q : ℕ) (xs ys : List Rewrite) → in_file q (xs ++ ys) ≡ [] → in_file q xs ≡ []
none_either q [] ys e = refl
none_either q (x ∷ xs) ys e = either_step x (in_file q (xs ++ ys)) (in_file q xs) (x.range.file == q) (none_either q xs ys) e

pub split-more : (all old left done : List Rewrite) (f : ℕ) (g : Rewrite) (gs : List Rewrite) → AreSplit all old done → IsGroup f old left (g ∷ gs) → InOrder all
    → AreSplit all left ((g ∷ gs) ++ done)
split-more all old left done f g gs split group order = record {
  is = sym (append_assoc left (g ∷ gs) done) ∙ (ap (λ (rs : List Rewrite). rs ++ done) (sym group.is) ∙ split.is);
  apart = λ q. elim (cases_eq q f) [
    | inl e ↦ inl (ap (λ (q : ℕ). in_file q left) e ∙ none_left all old left done f g gs split group order)
    | inr other ↦
        elim (split.apart q) [
          | inl none ↦ inl (none_either q left (g ∷ gs) (ap (in_file q) (sym group.is) ∙ none))
          | inr none ↦
              inr (filter-append (λ r. r.range.file == q) (g ∷ gs) done
              ∙ (ap (λ (rs : List Rewrite). rs ++ in_file q done) (elsewhere f q (g ∷ gs) other group.file) ∙ none))
        ]
  ];
}

pub some_of : (cs ds : List Change) (c : Change) → cs ≡ c ∷ ds → some_changes cs ≡ Some cs
some_of cs ds c e = ap some_changes e ∙ ap (λ (cs : List Change). Some cs) (sym e)

pub edit-here : (all old left done : List Rewrite) (f : ℕ) (g : Rewrite) (gs : List Rewrite) → AreSplit all old done → IsGroup f old left (g ∷ gs) → InOrder all
    → made_in f ((g ∷ gs) ++ done) ≡ Some (changes_made (g ∷ gs))
edit-here all old left done f g gs split group order =
    ap (λ (rs : List Rewrite). some_changes (changes_made rs))
    (filter-append (λ r. r.range.file == f) (g ∷ gs) done
    ∙ (ap (λ (rs : List Rewrite). rs ++ in_file f done) (all_in f (g ∷ gs) group.file)
    ∙ (ap (λ (rs : List Rewrite). (g ∷ gs) ++ rs) (none_done all old left done f g gs split group order) ∙ append-nil (g ∷ gs))))
    ∙ some_of (changes_made (g ∷ gs)) (map change_of (fresh_behind g.range gs)) (change_of g) (ap (map change_of) (fresh_from g gs))

pub edit-elsewhere : (old left done : List Rewrite) (f q : ℕ) (g : Rewrite) (gs : List Rewrite) → IsGroup f old left (g ∷ gs) → (q ≡ f → ⊥)
    → made_in q ((g ∷ gs) ++ done) ≡ made_in q done
edit-elsewhere old left done f q g gs group other =
    ap (λ (rs : List Rewrite). some_changes (changes_made rs))
    (filter-append (λ r. r.range.file == q) (g ∷ gs) done
    ∙ ap (λ (rs : List Rewrite). rs ++ in_file q done) (elsewhere f q (g ∷ gs) other group.file))

pub group_ordered : (all old left done : List Rewrite) (f : ℕ) (group : List Rewrite) → AreSplit all old done → IsGroup f old left group → InOrder all → clashes all ≡ []
    → ChangesInOrder 0 (changes_made group)
group_ordered all old left done f group split is order none =
    let whole : (left ++ group) ++ done ≡ all = ap (λ (rs : List Rewrite). rs ++ done) (sym is.is) ∙ split.is in
    changes_ordered f group is.file
    (order-back left group (order-front (left ++ group) done (subst InOrder (sym whole) order)))
    (clashes-back left group (clashes-front (left ++ group) done (ap clashes whole ∙ none)))

-- ** One group more.

record HasFirst (group : List Rewrite) : Type 0 where
  first : Rewrite
  rest : List Rewrite
  is : group ≡ first ∷ rest

some_group : (f : ℕ) (old left group : List Rewrite) (d : Rewrite) → IsGroup f old left group → 0 < length old → (get_or old (length old - 1) d).range.file ≡ f → HasFirst group
some_group f old left [] d is lt last =
    let same : old ≡ left = is.is ∙ append-nil left in
    absurd (is.last d (subst (λ (rs : List Rewrite). 0 < length rs) same lt) (subst (λ (rs : List Rewrite). (get_or rs (length rs - 1) d).range.file ≡ f) same last))
some_group f old left (g ∷ gs) d is lt last = record { first = g; rest = gs; is = refl }

pub grouped_some : (f : ℕ) (old left group : List Rewrite) (d : Rewrite) → IsGroup f old left group → 0 < length old → (get_or old (length old - 1) d).range.file ≡ f → 0 < length group
grouped_some f old left group d is lt last = let some = some_group f old left group d is lt last in omega (arith, ap length some.is)

-- the edits of the files of what is done
pub record AreDone (w : Workspace) (all left : List Rewrite) (edits : BTreeMap FileId (List Change)) : Type 0 where
  pub done : List Rewrite
  pub split : AreSplit all left done
  pub each : (q : FileId) → get file_cmp edits q ≡ edit_of w q.0 done

pub done-starts : (w : Workspace) (all left : List Rewrite) (edits : BTreeMap FileId (List Change)) → left ≡ all → edits.entries ≡ [] → AreDone w all left edits
done-starts w all left edits is none = record {
  done = [];
  split = record { is = append-nil left ∙ is; apart = λ q. inr refl };
  each = λ q. ap (λ (es : List (FileId × List Change)). lookup (is_at (file_cmp q)) es) none;
}

pub same_file : (a b : FileId) → is_at (file_cmp a) b ≡ (b.0 == a.0)
same_file a b = grind (arith, nat_tests)

pub done-more : (w : Workspace) (all old left group : List Rewrite) (edits more : BTreeMap FileId (List Change)) (f : FileId) (d : Rewrite) (changes : List Change)
    → AreDone w all old edits → IsGroup f.0 old left group
    → 0 < length old → (get_or old (length old - 1) d).range.file ≡ f.0 → AreInOrder all → changes ≡ fitted_in w f.0 (changes_made group)
    → ((q : FileId) → get file_cmp more q ≡ cond (is_at (file_cmp f) q) (Some changes) (get file_cmp edits q))
    → AreDone w all left more
done-more w all old left group edits more f d changes so_far is lt last order made updates =
    let some = some_group f.0 old left group d is lt last in
    let group_is : IsGroup f.0 old left (some.first ∷ some.rest) = subst (IsGroup f.0 old left) some.is is in
    let in_line = in_order all order in
    record {
      done = (some.first ∷ some.rest) ++ so_far.done;
      split = split-more all old left so_far.done f.0 some.first some.rest so_far.split group_is in_line;
      each = λ q.
          updates q
          ∙ (ap (λ (b : Bool). cond b (Some changes) (get file_cmp edits q)) (same_file f q)
          ∙ elim (cases_eq q.0 f.0) [
            | inl e ↦
                ap (λ (b : Bool). cond b (Some changes) (get file_cmp edits q)) (eq-eqb q.0 f.0 e)
                ∙ (ap (λ (cs : List Change). Some cs) (made ∙ ap (λ (rs : List Rewrite). fitted_in w f.0 (changes_made rs)) some.is)
                ∙ (ap (option_map (fitted_in w f.0)) (sym (edit-here all old left so_far.done f.0 some.first some.rest so_far.split group_is in_line))
                ∙ ap (λ (n : ℕ). edit_of w n ((some.first ∷ some.rest) ++ so_far.done)) (sym e)))
            | inr other ↦
                ap (λ (b : Bool). cond b (Some changes) (get file_cmp edits q)) (ne_eqb q.0 f.0 other)
                ∙ (so_far.each q ∙ ap (option_map (fitted_in w q.0)) (sym (edit-elsewhere old left so_far.done f.0 q.0 some.first some.rest group_is other)))
          ]);
    }

pub group_fits : (w : Workspace) (all old left group : List Rewrite) (edits : BTreeMap FileId (List Change)) (f : ℕ) (changes : List Change) → AreDone w all old edits → IsGroup f old left group
    → AreInOrder all → clashes all ≡ [] → changes ≡ changes_made group → ChangesInOrder 0 changes
group_fits w all old left group edits f changes so_far is order none made =
    subst (ChangesInOrder 0) (sym made) (group_ordered all old left so_far.done f group so_far.split is (in_order all order) none)

pub fewer_left : (old left group : List Rewrite) (f : ℕ) (d : Rewrite) → IsGroup f old left group → 0 < length old → (get_or old (length old - 1) d).range.file ≡ f → length left < length old
fewer_left old left group f d is lt last =
    let some = some_group f old left group d is lt last in
    omega (arith, ap length is.is, length-append left group, ap length some.is)

-- all of a group is among all
pub all_grouped : (P : Rewrite → Type 0) (w : Workspace) (all old left group : List Rewrite) (edits : BTreeMap FileId (List Change)) (f : ℕ) → AreDone w all old edits → IsGroup f old left group
    → All P all → All P group
all_grouped P w all old left group edits f so_far is each =
    let whole : All P (old ++ so_far.done) = subst (All P) (sym so_far.split.is) each in
    let part : All P (left ++ group) = subst (All P) is.is (All-front P old so_far.done whole) in
    All-back P left group part

pub all_done : (w : Workspace) (all left : List Rewrite) (edits : BTreeMap FileId (List Change)) → AreDone w all left edits → left ≡ [] → (q : FileId) → get file_cmp edits q ≡ edit_of w q.0 all
all_done w all left edits done none q =
    done.each q ∙ ap (edit_of w q.0) (ap (λ (rs : List Rewrite). rs ++ done.done) (sym none) ∙ done.split.is)

-- ** Taking a group.

pub taken_more : (f : ℕ) (old left more group grown : List Rewrite) (r : Rewrite) → old ≡ left ++ reverse group → All (λ r. r.range.file ≡ f) (reverse group)
    → left ≡ more ++ r ∷ [] → r.range.file ≡ f → grown ≡ group ++ r ∷ [] → (old ≡ more ++ reverse grown) × All (λ r. r.range.file ≡ f) (reverse grown)
taken_more f old left more group grown r is files popped file pushed =
    let turned : reverse grown ≡ r ∷ reverse group = ap reverse pushed ∙ reverse-append group (r ∷ []) in (
      is ∙ (ap (λ (rs : List Rewrite). rs ++ reverse group) popped ∙ (append_assoc more (r ∷ []) (reverse group) ∙ ap (λ (rs : List Rewrite). more ++ rs) (sym turned))),
      subst (All (λ r. r.range.file ≡ f)) (sym turned) (All-cons (λ r. r.range.file ≡ f) r (reverse group) file files),
    )

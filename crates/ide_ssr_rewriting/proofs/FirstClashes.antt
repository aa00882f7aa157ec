-- The first clash of a list in order.
use Rattle.std.proofs.Common.{◌≡◌, ℕ, suc, ◌<◌, ◌≤◌, ◌&&◌, ◌||◌, ◌==◌, not, nat_lt, min, max, Bool, true, false, cond, inl, inr, ◌⊎◌, List, [], ◌∷◌, ◌++◌, All, map, filter, Option, Some, None, refl, sym, ◌∙◌, ap, subst, arith, append-nil, Ordering, Less, Equal, Greater}
use Rattle.std.specs.Prelude.{Contains, is_some, bytes_eq, if◌then◌else◌}
use Rattle.std.specs.List.{AllPass}
use Rattle.std.specs.Cmp.Lexicographic.{slice_cmp}
use Rattle.std.specs.Ordering.{is_gt, is_le, nat_cmp, ordering_reverse, ordering_then}
use Rattle.std.proofs.lemmas.Cmp.{nat_cmp_total, nat_list_cmp_total, tied_itself, upto}
use Rattle.std.proofs.lemmas.Bool.{and_parts, and_cases, and_left, or_parts, eqb-true, ltb-true, le-ltb, ne_eqb, cases_Bool, cases_lt, cases_order, not-false, false_from_ne_true}
use Rattle.std.proofs.lemmas.Bool.Decides.{nat_tests}
use Rattle.std.proofs.lemmas.Slice.Eq.{bytes_eq-Decides}
use Rattle.std.proofs.lemmas.List.Elements.{All-nil, All-cons, All-head, All-tail, All-append, All-map, All-filter, All-weaker, All-contains, All-contains_itself, Contains-append_left, Contains-append_right}
use Rattle.ssr_base_trees.specs.Workspace.{FileSpan}
use Rattle.ide_ssr_rewriting.specs.Clashes.{Rewrite, Clash, same_range, share_byte, differ, is_clash, clashes_with, clashes, range_key, clash_le, IsFirst}
use Rattle.ide_ssr_rewriting.specs.Private.Clashes.{range_le, AreInOrder, stands_for, first_behind, lesser}

-- ** Ranges.

span_parts : (f g s t e d : ℕ) → f ≡ g → s ≡ t → e ≡ d
    → ◌≡◌ {A = FileSpan} (record { file = f; span = record { start = s; end = e } }) (record { file = g; span = record { start = t; end = d } })
span_parts f g s t e d p q r = cc

pub one_range : (a b : FileSpan) → same_range a b ≡ true → a ≡ b
one_range a b same =
    let file = and_parts (a.file == b.file) (a.span.start == b.span.start && a.span.end == b.span.end) same in
    let ends = and_parts (a.span.start == b.span.start) (a.span.end == b.span.end) file.1 in
    span_parts a.file b.file a.span.start b.span.start a.span.end b.span.end
    (eqb-true a.file b.file file.0) (eqb-true a.span.start b.span.start ends.0) (eqb-true a.span.end b.span.end ends.1)

-- a range comes no later than another one
abbrev pub ComesFirst : FileSpan → FileSpan → Type 0
ComesFirst a b = (a.file < b.file) ⊎ ((a.file ≡ b.file) × (a.span.start ≤ b.span.start))

pub then_le : (o rest other : Ordering) → (is_le rest ≡ true → is_le other ≡ true) → is_le (ordering_then o rest) ≡ true → is_le (ordering_then o other) ≡ true
then_le Less rest other f h = refl
then_le Equal rest other f h = f h
then_le Greater rest other f h = h

greater : (a b : ℕ) → b < a → nat_cmp a b ≡ Greater
greater a b h = rw (le-ltb a b (omega arith), ne_eqb a b (λ e. omega arith)) refl

-- the first of two comparisons isn't `Greater`
then_first : (a b : ℕ) (rest : Ordering) → is_le (ordering_then (nat_cmp a b) rest) ≡ true → b < a → ⊥
then_first a b rest le less =
    let off : is_le (ordering_then Greater rest) ≡ true = subst (λ (o : Ordering). is_le (ordering_then o rest) ≡ true) (greater a b less) le in
    cc

-- the second one counts where the first tells nothing apart
then_second : (a b : ℕ) (rest : Ordering) → is_le (ordering_then (nat_cmp a b) rest) ≡ true → a ≡ b → is_le rest ≡ true
then_second a b rest le same =
    subst (λ (o : Ordering). is_le (ordering_then o rest) ≡ true) (subst (λ (b : ℕ). nat_cmp a b ≡ Equal) same (tied_itself nat_cmp_total a)) le

pub comes_first : (a b : FileSpan) → range_le a b ≡ true → ComesFirst a b
unfolding range_le
comes_first a b le =
    let ends : Ordering = ordering_then (nat_cmp a.span.end b.span.end) Equal in
    let starts : Ordering = ordering_then (nat_cmp a.span.start b.span.start) ends in
    elim (cases_order a.file b.file) [
      | inl same ↦
          inr (
            same,
            elim (cases_lt b.span.start a.span.start) [
              | inl after ↦ absurd (then_first a.span.start b.span.start ends (then_second a.file b.file starts le same) after)
              | inr before ↦ before
            ],
          )
      | inr other ↦ elim other [ inl before ↦ inl before | inr after ↦ absurd (then_first a.file b.file starts le after) ]
    ]

le_tied : (o : Ordering) → o ≡ Equal → is_le o ≡ true
le_tied o e = rw e refl

pub range_le-itself : (a : FileSpan) → range_le a a ≡ true
unfolding range_le
range_le-itself a = le_tied (slice_cmp nat_cmp (range_key a) (range_key a)) (tied_itself nat_list_cmp_total (range_key a))

-- no byte is shared where one range ends before the other begins
pub shared_less : (a b : FileSpan) → share_byte a b ≡ true → (a.file ≡ b.file) × (max a.span.start b.span.start < min a.span.end b.span.end)
shared_less a b share =
    let parts = and_parts (a.file == b.file) (nat_lt (max a.span.start b.span.start) (min a.span.end b.span.end)) share in
    (eqb-true a.file b.file parts.0, ltb-true (max a.span.start b.span.start) (min a.span.end b.span.end) parts.1)

pub less_shared : (a b : FileSpan) → a.file ≡ b.file → max a.span.start b.span.start < min a.span.end b.span.end → share_byte a b ≡ true
less_shared a b file less = grind (arith, nat_tests)

-- a range that has a byte shares it with itself
pub shares_itself : (a b : FileSpan) → same_range a b ≡ true → a.span.start < a.span.end → share_byte a b ≡ true
shares_itself a b same byte =
    subst (λ (b : FileSpan). share_byte a b ≡ true) (one_range a b same) (less_shared a a refl (omega arith))

-- what shares no byte with the next range shares none with those behind that
shared_next : (a b c : FileSpan) → ComesFirst a b → ComesFirst b c → b.span.start < b.span.end → a.file ≡ c.file
    → max a.span.start c.span.start < min a.span.end c.span.end → share_byte a b ≡ true
shared_next a b c (inl ab) (inl bc) byte file less = absurd (omega arith)
shared_next a b c (inl ab) (inr bc) byte file less = let e = bc.0 in absurd (omega arith)
shared_next a b c (inr ab) (inl bc) byte file less = let e = ab.0 in absurd (omega arith)
shared_next a b c (inr ab) (inr bc) byte file less =
    let e = ab.1 in
    let f = bc.1 in
    less_shared a b ab.0 (omega arith)

pub apart_behind : (a b c : FileSpan) → ComesFirst a b → ComesFirst b c → b.span.start < b.span.end → share_byte a b ≡ false → share_byte a c ≡ false
apart_behind a b c ab bc byte apart =
    false_from_ne_true (share_byte a c) (λ share.
    let less = shared_less a c share in
    let other : share_byte a b ≡ true = shared_next a b c ab bc byte less.0 less.1 in
    cc)

-- ** What clashes with one clashes with the other.

differ_same : (a b c : List ℕ) → not (bytes_eq a b) ≡ false → differ (Some b) (Some c) ≡ true → differ (Some a) (Some c) ≡ true
differ_same a b c same other =
    let is : a ≡ b = (bytes_eq-Decides a b).0 (not-false (bytes_eq a b) same) in
    subst (λ (a : List ℕ). differ (Some a) (Some c) ≡ true) (sym is) other

differ_likewise : (a b c : Option (List ℕ)) → is_some a ≡ true → differ a b ≡ false → differ b c ≡ true → differ a c ≡ true
differ_likewise None b c known same other = absurd (cc known)
differ_likewise (Some a) None c known same other = absurd (cc other)
differ_likewise (Some a) (Some b) None known same other = absurd (cc other)
differ_likewise (Some a) (Some b) (Some c) known same other = differ_same a b c same other

unknown : (a c : Option (List ℕ)) → is_some a ≡ false → differ a c ≡ false
unknown None c e = refl
unknown (Some a) c e = absurd (cc e)

or_more : (x y z : Bool) → (x || y) ≡ true → (y ≡ true → z ≡ true) → (x || z) ≡ true
or_more true y z h f = refl
or_more false y z h f = f h

and_more : (x y z : Bool) → (x && y) ≡ true → (y ≡ true → z ≡ true) → (x && z) ≡ true
and_more true y z h f = f h
and_more false y z h f = h

-- of two of one range, the second clashes with what the first does, unless the texts of the first and the third differ
clash_moves : (x y z : Rewrite) → x.range ≡ y.range → (differ x.text z.text ≡ true → differ y.text z.text ≡ true) → is_clash x z ≡ true → is_clash y z ≡ true
unfolding is_clash
clash_moves x y z same texts clash =
    subst (λ (r : FileSpan). (share_byte r z.range && (not (same_range r z.range) || differ y.text z.text)) ≡ true) same
    (and_more (share_byte x.range z.range) (not (same_range x.range z.range) || differ x.text z.text) (not (same_range x.range z.range) || differ y.text z.text)
    clash (λ h. or_more (not (same_range x.range z.range)) (differ x.text z.text) (differ y.text z.text) h texts))

-- two of one range that don't clash don't differ
agree : (x y : Rewrite) → same_range x.range y.range ≡ true → x.range.span.start < x.range.span.end → is_clash x y ≡ false → differ x.text y.text ≡ false
unfolding is_clash
agree x y same byte apart =
    elim (and_cases (share_byte x.range y.range) (not (same_range x.range y.range) || differ x.text y.text) apart) [
      | inl off ↦ (let share : share_byte x.range y.range ≡ true = shares_itself x.range y.range same byte in absurd (cc))
      | inr off ↦ (or_parts (not (same_range x.range y.range)) (differ x.text y.text) off).1
    ]

-- two of other ranges that don't clash share no byte
pub apart_ranges : (x y : Rewrite) → same_range x.range y.range ≡ false → is_clash x y ≡ false → share_byte x.range y.range ≡ false
unfolding is_clash
apart_ranges x y other apart =
    elim (and_cases (share_byte x.range y.range) (not (same_range x.range y.range) || differ x.text y.text) apart) [
      | inl off ↦ off
      | inr off ↦
          let same : same_range x.range y.range ≡ true = not-false (same_range x.range y.range) (or_parts (not (same_range x.range y.range)) (differ x.text y.text) off).0 in
          absurd (cc)
    ]

no_clash : (x z : Rewrite) → share_byte x.range z.range ≡ false → is_clash x z ≡ false
unfolding is_clash
no_clash x z apart = and_left (share_byte x.range z.range) (not (same_range x.range z.range) || differ x.text z.text) apart

-- ** Clashes of a list.

Contains-here : (c d : Clash) (cs : List Clash) → c ≡ d → Contains (c ∷ cs) d
Contains-here c d cs e = (0, omega arith, e)

-- pairs of a range with those of a list
abbrev pub pairs : FileSpan → List Rewrite → List Clash
pairs range zs = map (λ z. record { earlier = range; later = z.range }) zs

-- where one of two tests passes the other passes too, for an element of a list more
with_one : (x y : FileSpan) (z : Rewrite) (xs ys : List Rewrite) → y ≡ x → All (Contains (pairs x xs)) (pairs y ys)
    → (b c : Bool) → (b ≡ true → c ≡ true) → All (Contains (pairs x (cond c (z ∷ xs) xs))) (pairs y (cond b (z ∷ ys) ys))
with_one x y z xs ys same rest true true like =
    let first : Clash = record { earlier = x; later = z.range } in
    let second : Clash = record { earlier = y; later = z.range } in
    All-cons (Contains (first ∷ pairs x xs)) second (pairs y ys)
    (Contains-here first second (pairs x xs) (ap (λ (r : FileSpan). record { earlier = r; later = z.range }) (sym same)))
    (All-weaker (Contains (pairs x xs)) (Contains (first ∷ pairs x xs)) (λ c h. Contains-append_right (first ∷ []) (pairs x xs) c h) (pairs y ys) rest)
with_one x y z xs ys same rest true false like = let wrong : false ≡ true = like refl in absurd (cc wrong)
with_one x y z xs ys same rest false true like =
    let first : Clash = record { earlier = x; later = z.range } in
    All-weaker (Contains (pairs x xs)) (Contains (first ∷ pairs x xs)) (λ c h. Contains-append_right (first ∷ []) (pairs x xs) c h) (pairs y ys) rest
with_one x y z xs ys same rest false false like = rest

-- the clashes of y are clashes of x, which has its range, where x clashes with what y clashes with
clashes_like : (x y : Rewrite) → y.range ≡ x.range → ((z : Rewrite) → is_clash y z ≡ true → is_clash x z ≡ true) → (zs : List Rewrite)
    → All (Contains (clashes_with x zs)) (clashes_with y zs)
clashes_like x y same like [] = All-nil (Contains [])
clashes_like x y same like (z ∷ zs) =
    with_one x.range y.range z (filter (is_clash x) zs) (filter (is_clash y) zs) same (clashes_like x y same like zs) (is_clash y z) (is_clash x z) (like z)

clashes_past : (x y : Rewrite) (zs : List Rewrite) → is_clash x y ≡ false → clashes_with x (y ∷ zs) ≡ clashes_with x zs
clashes_past x y zs apart =
    ap (λ (b : Bool). map (λ s. record { earlier = x.range; later = s.range }) (cond b (y ∷ filter (is_clash x) zs) (filter (is_clash x) zs))) apart

pub clashes_none : (x : Rewrite) (zs : List Rewrite) → All (λ z. is_clash x z ≡ false) zs → clashes_with x zs ≡ []
clashes_none x [] h = refl
clashes_none x (z ∷ zs) h =
    clashes_past x z zs (All-head (λ z. is_clash x z ≡ false) z zs h) ∙ clashes_none x zs (All-tail (λ z. is_clash x z ≡ false) z zs h)

-- ** The first of the same clashes.

none_of : (xs : List Clash) → All (Contains []) xs → xs ≡ []
none_of [] h = refl
none_of (x ∷ xs) h = let c = All-head (Contains []) x xs h in absurd (omega (arith, c.1))

pub IsFirst-same : (xs ys : List Clash) (o : Option Clash) → All (Contains ys) xs → All (Contains xs) ys → IsFirst ys o → IsFirst xs o
IsFirst-same xs ys None sub back first = none_of xs (subst (λ (ys : List Clash). All (Contains ys) xs) first sub)
IsFirst-same xs ys (Some c) sub back first = (
  All-contains (Contains xs) ys c back first.0,
  All-weaker (Contains ys) (λ d. clash_le c d ≡ true) (λ d h. All-contains (λ d. clash_le c d ≡ true) ys d first.1 h) xs sub,
)

-- clashes that are there already, more than once
IsFirst-again : (firsts bs cs : List Clash) (o : Option Clash) → All (Contains firsts) bs → IsFirst (firsts ++ cs) o → IsFirst (firsts ++ (bs ++ cs)) o
IsFirst-again firsts bs cs o in_as =
    IsFirst-same (firsts ++ (bs ++ cs)) (firsts ++ cs) o
    (All-append (Contains (firsts ++ cs)) firsts (bs ++ cs)
    (All-weaker (Contains firsts) (Contains (firsts ++ cs)) (λ c h. Contains-append_left firsts cs c h) firsts (All-contains_itself firsts))
    (All-append (Contains (firsts ++ cs)) bs cs
    (All-weaker (Contains firsts) (Contains (firsts ++ cs)) (λ c h. Contains-append_left firsts cs c h) bs in_as)
    (All-weaker (Contains cs) (Contains (firsts ++ cs)) (λ c h. Contains-append_right firsts cs c h) cs (All-contains_itself cs))))
    (All-append (Contains (firsts ++ (bs ++ cs))) firsts cs
    (All-weaker (Contains firsts) (Contains (firsts ++ (bs ++ cs))) (λ c h. Contains-append_left firsts (bs ++ cs) c h) firsts (All-contains_itself firsts))
    (All-weaker (Contains cs) (Contains (firsts ++ (bs ++ cs))) (λ c h. Contains-append_right firsts (bs ++ cs) c (Contains-append_right bs cs c h)) cs (All-contains_itself cs)))

IsFirst-before : (firsts bs cs : List Clash) (o : Option Clash) → All (Contains bs) firsts → IsFirst (bs ++ cs) o → IsFirst (firsts ++ (bs ++ cs)) o
IsFirst-before firsts bs cs o in_bs =
    IsFirst-same (firsts ++ (bs ++ cs)) (bs ++ cs) o
    (All-append (Contains (bs ++ cs)) firsts (bs ++ cs)
    (All-weaker (Contains bs) (Contains (bs ++ cs)) (λ c h. Contains-append_left bs cs c h) firsts in_bs)
    (All-contains_itself (bs ++ cs)))
    (All-weaker (Contains (bs ++ cs)) (Contains (firsts ++ (bs ++ cs))) (λ c h. Contains-append_right firsts (bs ++ cs) c h) (bs ++ cs) (All-contains_itself (bs ++ cs)))

-- ** The order of a list, one behind the other.

abbrev pub InOrder : List Rewrite → Type 0
InOrder [] = Unit {0}
InOrder (r ∷ rs) = (r.range.span.start < r.range.span.end) × All (λ s. range_le r.range s.range ≡ true) rs × InOrder rs

pub in_order : (list : List Rewrite) → AreInOrder list → InOrder list
in_order [] h = tt
in_order (r ∷ rs) h = (
  All-head (λ r. r.range.span.start < r.range.span.end) r rs h.bytes,
  λ k d lt. h.ordered 0 (suc k) d (omega arith) (omega arith),
  in_order rs (record {
    ordered = λ i j d lt within. h.ordered (suc i) (suc j) d (omega arith) (omega arith);
    bytes = All-tail (λ r. r.range.span.start < r.range.span.end) r rs h.bytes;
  }),
)

-- ** A clash of the first two comes first.

clash_le-pair : (x y a b : FileSpan) → range_le x a ≡ true → range_le y b ≡ true → clash_le (record { earlier = x; later = y }) (record { earlier = a; later = b }) ≡ true
unfolding clash_le range_le
clash_le-pair x y a b first second =
    let rest : Ordering = slice_cmp nat_cmp (range_key y) (range_key b) in
    let ends : Ordering = ordering_then (nat_cmp x.span.end a.span.end) rest in
    let starts : Ordering = ordering_then (nat_cmp x.span.start a.span.start) ends in
    then_le (nat_cmp x.file a.file) (ordering_then (nat_cmp x.span.start a.span.start) (ordering_then (nat_cmp x.span.end a.span.end) Equal)) starts
    (then_le (nat_cmp x.span.start a.span.start) (ordering_then (nat_cmp x.span.end a.span.end) Equal) ends
    (then_le (nat_cmp x.span.end a.span.end) Equal rest (λ _. second)))
    first

with_behind : (x y : FileSpan) (w : Rewrite) (ws : List Rewrite) → range_le x w.range ≡ true → All (λ z. range_le y z.range ≡ true) ws
    → AllPass (clash_le (record { earlier = x; later = y })) (clashes_with w ws)
with_behind x y w ws first second =
    All-map (λ c. clash_le (record { earlier = x; later = y }) c ≡ true) (λ s. record { earlier = w.range; later = s.range }) (filter (is_clash w) ws)
    (All-filter (is_clash w) (λ z. clash_le (record { earlier = x; later = y }) (record { earlier = w.range; later = z.range }) ≡ true) ws
    (All-weaker (λ z. range_le y z.range ≡ true) (λ z. clash_le (record { earlier = x; later = y }) (record { earlier = w.range; later = z.range }) ≡ true)
    (λ z h. clash_le-pair x y w.range z.range first h) ws second))

all_behind : (x y : FileSpan) (ws : List Rewrite) → All (λ z. range_le x z.range ≡ true) ws → All (λ z. range_le y z.range ≡ true) ws
    → AllPass (clash_le (record { earlier = x; later = y })) (clashes ws)
all_behind x y [] first second = All-nil (λ c. clash_le (record { earlier = x; later = y }) c ≡ true)
all_behind x y (w ∷ ws) first second =
    let rest = All-tail (λ z. range_le y z.range ≡ true) w ws second in
    All-append (λ c. clash_le (record { earlier = x; later = y }) c ≡ true) (clashes_with w ws) (clashes ws)
    (with_behind x y w ws (All-head (λ z. range_le x z.range ≡ true) w ws first) rest)
    (all_behind x y ws (All-tail (λ z. range_le x z.range ≡ true) w ws first) rest)

clash_here : (x y : Rewrite) (zs : List Rewrite) → is_clash x y ≡ true → clashes_with x (y ∷ zs) ≡ record { earlier = x.range; later = y.range } ∷ clashes_with x zs
clash_here x y zs clash =
    ap (λ (b : Bool). map (λ s. record { earlier = x.range; later = s.range }) (cond b (y ∷ filter (is_clash x) zs) (filter (is_clash x) zs))) clash

first_two : (x y : Rewrite) (zs : List Rewrite) → InOrder (x ∷ y ∷ zs) → is_clash x y ≡ true → IsFirst (clashes (x ∷ y ∷ zs)) (Some (record { earlier = x.range; later = y.range }))
first_two x y zs order clash =
    let all : All (λ z. range_le y.range z.range ≡ true) (y ∷ zs) = All-cons (λ z. range_le y.range z.range ≡ true) y zs (range_le-itself y.range) order.2.1 in
    let pair : Clash = record { earlier = x.range; later = y.range } in (
      Contains-append_left (clashes_with x (y ∷ zs)) (clashes (y ∷ zs)) pair
          (subst (λ (cs : List Clash). Contains cs pair) (sym (clash_here x y zs clash)) (Contains-here pair pair (clashes_with x zs) refl)),
      All-append (λ c. clash_le pair c ≡ true) (clashes_with x (y ∷ zs)) (clashes (y ∷ zs))
          (with_behind x.range y.range x (y ∷ zs) (range_le-itself x.range) all)
          (all_behind x.range y.range (y ∷ zs) order.1 all),
    )

-- ** Going through a list.

-- the first goes on for the second
kept_first : (x y : Rewrite) (zs : List Rewrite) (o : Option Clash) → InOrder (x ∷ y ∷ zs) → is_clash x y ≡ false → stands_for x y ≡ true
    → IsFirst (clashes (x ∷ zs)) o → IsFirst (clashes (x ∷ y ∷ zs)) o
unfolding stands_for
kept_first x y zs o order apart stands first =
    let parts = and_parts (same_range x.range y.range) (is_some x.text) stands in
    let same = one_range x.range y.range parts.0 in
    subst (λ (cs : List Clash). IsFirst (cs ++ (clashes_with y zs ++ clashes zs)) o) (sym (clashes_past x y zs apart))
    (IsFirst-again (clashes_with x zs) (clashes_with y zs) (clashes zs) o
    (clashes_like x y (sym same) (λ z clash. clash_moves y x z (sym same) (differ_likewise x.text y.text z.text parts.1 (agree x y parts.0 order.0 apart)) clash) zs)
    first)

-- the second one goes on: the first clashes with nothing behind it with which the second doesn't clash
on_to_second : (x y : Rewrite) (zs : List Rewrite) → InOrder (x ∷ y ∷ zs) → is_clash x y ≡ false → stands_for x y ≡ false
    → All (Contains (clashes_with y zs)) (clashes_with x zs)
unfolding stands_for
on_to_second x y zs order apart stands =
    elim (cases_Bool (same_range x.range y.range)) [
      | inl same ↦
          let one = one_range x.range y.range same in
          let text : is_some x.text ≡ false = elim (and_cases (same_range x.range y.range) (is_some x.text) stands) [ inl off ↦ absurd (cc) | inr off ↦ off ] in
          clashes_like y x one (λ z clash. clash_moves x y z one (λ other. let none = unknown x.text z.text text in absurd (cc)) clash) zs
      | inr other ↦
          let share = apart_ranges x y other apart in
          let none : clashes_with x zs ≡ [] =
          clashes_none x zs (All-weaker (λ z. range_le y.range z.range ≡ true) (λ z. is_clash x z ≡ false)
          (λ z le. no_clash x z (apart_behind x.range y.range z.range
          (comes_first x.range y.range (All-head (λ z. range_le x.range z.range ≡ true) y zs order.1)) (comes_first y.range z.range le) order.2.0 share))
          zs order.2.1) in
          subst (λ (cs : List Clash). All (Contains (clashes_with y zs)) cs) (sym none) (All-nil (Contains (clashes_with y zs)))
    ]

kept_second : (x y : Rewrite) (zs : List Rewrite) (o : Option Clash) → InOrder (x ∷ y ∷ zs) → is_clash x y ≡ false → stands_for x y ≡ false
    → IsFirst (clashes (y ∷ zs)) o → IsFirst (clashes (x ∷ y ∷ zs)) o
kept_second x y zs o order apart stands first =
    subst (λ (cs : List Clash). IsFirst (cs ++ (clashes_with y zs ++ clashes zs)) o) (sym (clashes_past x y zs apart))
    (IsFirst-before (clashes_with x zs) (clashes_with y zs) (clashes zs) o (on_to_second x y zs order apart stands) first)

pub without_second : (x y : Rewrite) (zs : List Rewrite) → InOrder (x ∷ y ∷ zs) → InOrder (x ∷ zs)
without_second x y zs order = (order.0, All-tail (λ z. range_le x.range z.range ≡ true) y zs order.1, order.2.2)

behind_step : (x y : Rewrite) (zs : List Rewrite) → InOrder (x ∷ y ∷ zs)
    → IsFirst (clashes (x ∷ zs)) (first_behind x zs) → IsFirst (clashes (y ∷ zs)) (first_behind y zs)
    → (b : Bool) → is_clash x y ≡ b → (c : Bool) → stands_for x y ≡ c
    → IsFirst (clashes (x ∷ y ∷ zs)) (if b then Some (record { earlier = x.range; later = y.range }) else first_behind (if c then x else y) zs)
behind_step x y zs order first second true clash c stands = first_two x y zs order clash
behind_step x y zs order first second false apart true stands = kept_first x y zs (first_behind x zs) order apart stands first
behind_step x y zs order first second false apart false stands = kept_second x y zs (first_behind y zs) order apart stands second

pub IsFirst-behind : (x : Rewrite) (zs : List Rewrite) → InOrder (x ∷ zs) → IsFirst (clashes (x ∷ zs)) (first_behind x zs)
IsFirst-behind x [] order = refl
IsFirst-behind x (y ∷ zs) order =
    behind_step x y zs order (IsFirst-behind x zs (without_second x y zs order)) (IsFirst-behind y zs order.2)
    (is_clash x y) refl (stands_for x y) refl

pub IsFirst-list : (list : List Rewrite) (x : Rewrite) (zs : List Rewrite) (o : Option Clash) → AreInOrder list → list ≡ x ∷ zs → o ≡ first_behind x zs
    → IsFirst (clashes list) o
IsFirst-list list x zs o order is e = rw (is, e) (IsFirst-behind x zs (in_order (x ∷ zs) (subst AreInOrder is order)))

-- ** The first one of several lists.

le_below : (o : Ordering) → is_le o ≡ true → is_gt o ≡ false
le_below Less e = refl
le_below Equal e = refl
le_below Greater e = absurd (cc e)

below_le : (o : Ordering) → is_gt o ≡ false → is_le o ≡ true
below_le Less e = refl
below_le Equal e = refl
below_le Greater e = absurd (cc e)

above_le : (o : Ordering) → is_le o ≡ false → is_le (ordering_reverse o) ≡ true
above_le Less e = absurd (cc e)
above_le Equal e = absurd (cc e)
above_le Greater e = refl

clash_le-chain : (c d e : Clash) → clash_le c d ≡ true → clash_le d e ≡ true → clash_le c e ≡ true
unfolding clash_le
clash_le-chain c d e first second =
    let key : Clash → List ℕ = λ c. range_key c.earlier ++ range_key c.later in
    below_le (slice_cmp nat_cmp (key c) (key e))
    (upto nat_list_cmp_total (key c) (key d) (key e)
    (le_below (slice_cmp nat_cmp (key c) (key d)) first) (le_below (slice_cmp nat_cmp (key d) (key e)) second))

clash_le-other : (c d : Clash) → clash_le c d ≡ false → clash_le d c ≡ true
unfolding clash_le
clash_le-other c d off =
    let key : Clash → List ℕ = λ c. range_key c.earlier ++ range_key c.later in
    subst (λ (o : Ordering). is_le o ≡ true) (sym (nat_list_cmp_total.antisymm (key d) (key c))) (above_le (slice_cmp nat_cmp (key c) (key d)) off)

all_later : (c d : Clash) (cs : List Clash) → clash_le c d ≡ true → AllPass (clash_le d) cs → AllPass (clash_le c) cs
all_later c d cs le each = All-weaker (λ e. clash_le d e ≡ true) (λ e. clash_le c e ≡ true) (λ e h. clash_le-chain c d e le h) cs each

lesser_of : (cs ds : List Clash) (c d : Clash) → IsFirst cs (Some c) → IsFirst ds (Some d) → (b : Bool) → clash_le c d ≡ b
    → IsFirst (cs ++ ds) (if b then Some c else Some d)
lesser_of cs ds c d first second true le = (
  Contains-append_left cs ds c first.0,
  All-append (λ e. clash_le c e ≡ true) cs ds first.1 (all_later c d ds le second.1),
)
lesser_of cs ds c d first second false le = (
  Contains-append_right cs ds d second.0,
  All-append (λ e. clash_le d e ≡ true) cs ds (all_later d c cs (clash_le-other c d le) first.1) second.1,
)

pub IsFirst-append : (cs ds : List Clash) (c d : Option Clash) → IsFirst cs c → IsFirst ds d → IsFirst (cs ++ ds) (lesser c d)
IsFirst-append cs ds None d first second = subst (λ (cs : List Clash). IsFirst (cs ++ ds) d) (sym first) second
IsFirst-append cs ds (Some c) None first second = subst (λ (ds : List Clash). IsFirst (cs ++ ds) (Some c)) (sym second) (subst (λ (cs : List Clash). IsFirst cs (Some c)) (sym (append-nil cs)) first)
IsFirst-append cs ds (Some c) (Some d) first second = lesser_of cs ds c d first second (clash_le c d) refl

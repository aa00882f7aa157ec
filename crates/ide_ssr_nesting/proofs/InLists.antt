-- What stands in the list of a holder, and that kept matches have one way to list them.
use Rattle.std.proofs.Common.{◌≡◌, ◌≢◌, ℕ, ◌==◌, ◌&&◌, ◌↔◌, inl, inr, Bool, true, false, List, [], ◌∷◌, ◌++◌, length, map, filter, zip, cond, slice_get, get_or, Option, Some, None, All, AllPairs, Contains, refl, sym, ap, ◌∙◌, subst, arith, eqb-true, eq-eqb}
use Rattle.std.specs.Cmp.Lexicographic.{slice_cmp}
use Rattle.std.specs.Ordering.{nat_cmp, is_lt, ordering_reverse, ordering_then}
use Rattle.std.specs.declared.cmp.Ordering.{Ordering}
use Rattle.std.specs.declared.cmp.Ordering.TheVariants.{Less, Equal, Greater}
use Rattle.std.proofs.lemmas.Bool.{and_parts, and_from, false≢true}
use Rattle.std.proofs.lemmas.Cmp.{nat_cmp_total, nat_list_cmp_total}
use Rattle.std.proofs.lemmas.List.Elements.{All-contains, All-contains_itself}
use Rattle.std.proofs.lemmas.List.Kept.{AllPairs-cons}
use Rattle.std.proofs.lemmas.Option.{same_Some, slice_get_within}
use Rattle.ssr_base_trees.specs.Workspace.{trees}
use Rattle.ide_ssr_bindings.specs.Found.{FoundMatch}
use Rattle.ide_ssr_nesting.specs.declared.holders.Holder.{Holder}
use Rattle.ide_ssr_nesting.specs.Holding.{Kept, IsKept}
use Rattle.ide_ssr_nesting.specs.Lists.{held, held_place, held_binding, holder_key, listing_key, lists_key, Listing, same_holder, listed, AreLists}
use Rattle.ide_ssr_nesting.specs.Laws.{IsListedBefore, ListsWhatIsHeld, ListsInOrder, ListsEachOnce, OneListing}
use Rattle.ssr_syntax_tree.proofs.Lists.{at_front, at_back, front_or_back, pairs_head, pairs_tail, stands_at}
use Rattle.ide_ssr_nesting.proofs.Elements.{none_in}
use Rattle.ide_ssr_nesting.proofs.OneHolding.{same_holders}

-- ** Holders that are tested.

same_by_parts : (g h : Option Holder) → held g ≡ held h → held_place g ≡ held_place h → held_binding g ≡ held_binding h → g ≡ h
same_by_parts None None is place binding = refl
same_by_parts None (Some h) is place binding = absurd (omega (arith, is))
same_by_parts (Some g) None is place binding = absurd (omega (arith, is))
same_by_parts (Some g) (Some h) is place binding = ap (λ (h : Holder). Some h) (same_holders g h place binding)

same_told : (g h : Option Holder) → same_holder g h ≡ true → g ≡ h
same_told g h is =
    let parts = and_parts (held g == held h && held_place g == held_place h) (held_binding g == held_binding h) is in
    let more = and_parts (held g == held h) (held_place g == held_place h) parts.0 in
    same_by_parts g h (eqb-true (held g) (held h) more.0) (eqb-true (held_place g) (held_place h) more.1) (eqb-true (held_binding g) (held_binding h) parts.1)

same_itself : (h : Option Holder) → same_holder h h ≡ true
same_itself h =
    and_from (held h == held h && held_place h == held_place h) (held_binding h == held_binding h)
    (and_from (held h == held h) (held_place h == held_place h) (eq-eqb (held h) (held h) refl) (eq-eqb (held_place h) (held_place h) refl))
    (eq-eqb (held_binding h) (held_binding h) refl)

-- ** The places beside which a holder stands.

module _ (look : ℕ → Option (Option Holder)) (h : Option Holder) where
  abbrev place_of_row : ℕ × Option Holder → ℕ
  place_of_row row = row.0

  abbrev rows_taken : List ℕ → List (Option Holder) → List (ℕ × Option Holder)
  rows_taken ps hs = filter (λ (row : ℕ × Option Holder). same_holder row.1 h) (zip ps hs)

  abbrev taken : List ℕ → List (Option Holder) → List ℕ
  taken ps hs = map place_of_row (rows_taken ps hs)

  abbrev AreBeside : List ℕ → List (Option Holder) → Type 0
  AreBeside ps hs = map Some hs ≡ map look ps

  first_beside : (p : ℕ) (ps : List ℕ) (g : Option Holder) (hs : List (Option Holder)) → AreBeside (p ∷ ps) (g ∷ hs) → look p ≡ Some g
  first_beside p ps g hs beside = cc

  rest_beside : (p : ℕ) (ps : List ℕ) (g : Option Holder) (hs : List (Option Holder)) → AreBeside (p ∷ ps) (g ∷ hs) → AreBeside ps hs
  rest_beside p ps g hs beside = cc

  taken_are : (ps : List ℕ) (hs : List (Option Holder)) → AreBeside ps hs → (n : ℕ) → Contains (taken ps hs) n → Contains ps n × (look n ≡ Some h)
  taken_are [] hs beside n at = absurd (none_in n at)
  taken_are (p ∷ ps) [] beside n at = absurd (none_in n at)
  taken_are (p ∷ ps) (g ∷ hs) beside n at =
      by (same_holder g h) refl (λ at. (let told = taken_are ps hs (rest_beside p ps g hs beside) n at in (at_back p n ps told.0, told.1))) at
    where
      by : (b : Bool) → same_holder g h ≡ b → (Contains (taken ps hs) n → Contains (p ∷ ps) n × (look n ≡ Some h))
          → Contains (map place_of_row (cond b ((p, g) ∷ rows_taken ps hs) (rows_taken ps hs))) n → Contains (p ∷ ps) n × (look n ≡ Some h)
      by true is later at = elim (front_or_back p n (taken ps hs) at) [
        | inl here ↦ (
          subst (Contains (p ∷ ps)) here (at_front p ps),
          ap look (sym here) ∙ first_beside p ps g hs beside ∙ ap (λ (h : Option Holder). Some h) (same_told g h is),
        )
        | inr more ↦ later more
      ]
      by false is later at = later at

  are_taken : (ps : List ℕ) (hs : List (Option Holder)) → AreBeside ps hs → (n : ℕ) → Contains ps n → look n ≡ Some h → Contains (taken ps hs) n
  are_taken [] hs beside n at is = absurd (none_in n at)
  are_taken (p ∷ ps) [] beside n at is = absurd (let count = ap length beside in omega arith)
  are_taken (p ∷ ps) (g ∷ hs) beside n at is =
      by (same_holder g h) refl (λ at. are_taken ps hs (rest_beside p ps g hs beside) n at is)
    where
      by : (b : Bool) → same_holder g h ≡ b → (Contains ps n → Contains (taken ps hs) n)
          → Contains (map place_of_row (cond b ((p, g) ∷ rows_taken ps hs) (rows_taken ps hs))) n
      by true same later = elim (front_or_back p n ps at) [
        | inl here ↦ subst (Contains (p ∷ taken ps hs)) here (at_front p (taken ps hs))
        | inr more ↦ at_back p n (taken ps hs) (later more)
      ]
      by false differ later = elim (front_or_back p n ps at) [
        | inl here ↦ absurd (
            let e : g ≡ h = same_Some g h (sym (first_beside p ps g hs beside) ∙ ap look here ∙ is) in
            false≢true (sym differ ∙ ap (λ g. same_holder g h) e ∙ same_itself h)
            )
        | inr more ↦ later more
      ]

  taken_pairs : (R : ℕ → ℕ → Type 0) (ps : List ℕ) (hs : List (Option Holder)) → AreBeside ps hs → AllPairs R ps → AllPairs R (taken ps hs)
  taken_pairs R [] hs beside pairs = λ i j d less within. absurd (omega arith)
  taken_pairs R (p ∷ ps) [] beside pairs = λ i j d less within. absurd (omega arith)
  taken_pairs R (p ∷ ps) (g ∷ hs) beside pairs =
      by (same_holder g h) (taken_pairs R ps hs (rest_beside p ps g hs beside) (pairs_tail R p ps pairs))
    where
      all_behind : All (R p) (taken ps hs)
      all_behind k d within =
          All-contains (R p) ps (get_or (taken ps hs) k d) (pairs_head R p ps pairs)
          (taken_are ps hs (rest_beside p ps g hs beside) (get_or (taken ps hs) k d) (All-contains_itself (taken ps hs) k d within)).0

      by : (b : Bool) → AllPairs R (taken ps hs) → AllPairs R (map place_of_row (cond b ((p, g) ∷ rows_taken ps hs) (rows_taken ps hs)))
      by true later = AllPairs-cons R p (taken ps hs) all_behind later
      by false later = later

-- each place has a holder beside it
holder_beside : (look : ℕ → Option (Option Holder)) (ps : List ℕ) (hs : List (Option Holder)) → map Some hs ≡ map look ps
    → (n : ℕ) → Contains ps n → (g : Option Holder) × (look n ≡ Some g)
holder_beside look [] hs beside n at = absurd (none_in n at)
holder_beside look (p ∷ ps) [] beside n at = absurd (let count = ap length beside in omega arith)
holder_beside look (p ∷ ps) (g ∷ hs) beside n at = elim (front_or_back p n ps at) [
  | inl here ↦ (g, ap look (sym here) ∙ (let first : look p ≡ Some g = cc in first))
  | inr later ↦ holder_beside look ps hs (let rest : map Some hs ≡ map look ps = cc in rest) n later
]

-- ** What the order says.

-- what holds of each two holds if it follows for elements
pairs_follow : {X : Type 0} (R S : X → X → Type 0) (xs : List X) → ((x y : X) → Contains xs x → Contains xs y → R x y → S x y) → AllPairs R xs → AllPairs S xs
pairs_follow R S xs follows pairs i j d less within =
    follows (get_or xs i d) (get_or xs j d) (All-contains_itself xs i d (omega arith)) (All-contains_itself xs j d within) (pairs i j d less within)

one_way_less : (xs ys : List ℕ) → slice_cmp nat_cmp xs ys ≡ Less → slice_cmp nat_cmp ys xs ≡ Less → ⊥
one_way_less xs ys less more =
    let greater : slice_cmp nat_cmp xs ys ≡ Greater = nat_list_cmp_total.antisymm xs ys ∙ ap ordering_reverse more in
    false≢true (ap is_lt (sym greater ∙ less))

reversed_same : (o : Ordering) → o ≡ ordering_reverse o → o ≡ Equal
reversed_same Less is = absurd (false≢true (ap is_lt (sym is)))
reversed_same Equal is = refl
reversed_same Greater is = absurd (false≢true (ap is_lt is))

-- what begins with the same numbers is told apart by those after them
same_front : (ms xs ys : List ℕ) → slice_cmp nat_cmp (ms ++ xs) (ms ++ ys) ≡ Less → slice_cmp nat_cmp xs ys ≡ Less
same_front [] xs ys less = less
same_front (m ∷ ms) xs ys less =
    let equal : nat_cmp m m ≡ Equal = reversed_same (nat_cmp m m) (nat_cmp_total.antisymm m m) in
    same_front ms xs ys (ap (λ o. ordering_then o (slice_cmp nat_cmp (ms ++ xs) (ms ++ ys))) (sym equal) ∙ less)

-- ** Two lists in one order, of the same elements.

module _ {X : Type 0} (R : X → X → Type 0) where
  abbrev GoesOneWay : List X → Type 0
  GoesOneWay xs = (x y : X) → Contains xs x → Contains xs y → R x y → R y x → ⊥

  first_is : (x y : X) (xs ys : List X) → GoesOneWay (x ∷ xs) → AllPairs R (x ∷ xs) → AllPairs R (y ∷ ys)
      → ((z : X) → Contains (x ∷ xs) z ↔ Contains (y ∷ ys) z) → x ≡ y
  first_is x y xs ys way pairs again same = elim (front_or_back x y xs y_in) [
    | inl here ↦ here
    | inr y_later ↦ elim (front_or_back y x ys ((same x).0 (at_front x xs))) [
      | inl here ↦ sym here
      | inr x_later ↦ absurd (way x y (at_front x xs) y_in (All-contains (R x) xs y (pairs_head R x xs pairs) y_later) (All-contains (R y) ys x (pairs_head R y ys again) x_later))
    ]
  ]
    where
      y_in : Contains (x ∷ xs) y
      y_in = (same y).1 (at_front y ys)

  -- what is in the rest of one list is in that of the other
  in_rest : (x : X) (xs ys : List X) → GoesOneWay (x ∷ xs) → AllPairs R (x ∷ xs) → (z : X) → Contains xs z → Contains (x ∷ ys) z → Contains ys z
  in_rest x xs ys way pairs z at there = elim (front_or_back x z ys there) [
    | inl here ↦ absurd (
        let before : R x x = subst (R x) (sym here) (All-contains (R x) xs z (pairs_head R x xs pairs) at) in
        way x x (at_front x xs) (at_front x xs) before before
        )
    | inr more ↦ more
  ]

  one_order : (xs ys : List X) → GoesOneWay xs → AllPairs R xs → AllPairs R ys → ((z : X) → Contains xs z ↔ Contains ys z) → xs ≡ ys
  one_order [] [] way pairs again same = refl
  one_order [] (y ∷ ys) way pairs again same = absurd (none_in y ((same y).1 (at_front y ys)))
  one_order (x ∷ xs) [] way pairs again same = absurd (none_in x ((same x).0 (at_front x xs)))
  one_order (x ∷ xs) (y ∷ ys) way pairs again same =
      let first : x ≡ y = first_is x y xs ys way pairs again same in
      let other : AllPairs R (x ∷ ys) = subst (λ y. AllPairs R (y ∷ ys)) (sym first) again in
      let also : (z : X) → Contains (x ∷ xs) z ↔ Contains (x ∷ ys) z = subst (λ y. (z : X) → Contains (x ∷ xs) z ↔ Contains (y ∷ ys) z) (sym first) same in
      let other_way : GoesOneWay (x ∷ ys) = λ a b a_in b_in. way a b ((also a).1 a_in) ((also b).1 b_in) in
      let rest =
      one_order xs ys (λ a b a_in b_in. way a b (at_back x a xs a_in) (at_back x b xs b_in)) (pairs_tail R x xs pairs) (pairs_tail R x ys other) (λ z. (
        (λ at. in_rest x xs ys way pairs z at ((also z).0 (at_back x z xs at))),
        (λ at. in_rest x ys xs other_way other z at ((also z).1 (at_back x z ys at))),
      )) in
      ap (λ y. y ∷ xs) first ∙ ap (λ l. y ∷ l) rest

same_values : {X : Type 0} (xs ys : List X) → map Some xs ≡ map Some ys → xs ≡ ys
same_values [] [] is = refl
same_values [] (y ∷ ys) is = absurd (let count = ap length is in omega arith)
same_values (x ∷ xs) [] is = absurd (let count = ap length is in omega arith)
same_values (x ∷ xs) (y ∷ ys) is =
    let first : Some x ≡ Some y = cc in
    let rest : map Some xs ≡ map Some ys = cc in
    ap (λ y. y ∷ xs) (same_Some x y first) ∙ ap (λ l. y ∷ l) (same_values xs ys rest)

-- ** The lists of kept matches.

-- how each two places in the lists lie
abbrev Follows : Kept → ℕ → ℕ → Type 0
Follows kept i j =
    (k m : FoundMatch) (g h : Option Holder)
    → slice_get kept.matches i ≡ Some k → slice_get kept.holders i ≡ Some g → slice_get kept.matches j ≡ Some m → slice_get kept.holders j ≡ Some h
    → slice_cmp nat_cmp (lists_key (trees kept.workspace) k g) (lists_key (trees kept.workspace) m h) ≡ Less

module _ (kept : Kept) (lists : Listing) (are : AreLists kept lists) where
  match_at : (n : ℕ) → Contains lists.places n → (m : FoundMatch) × (slice_get kept.matches n ≡ Some m)
  match_at n at = stands_at kept.matches n ((are.each n).0 at)

  goes_one_way : GoesOneWay (Follows kept) lists.places
  goes_one_way i j i_in j_in before behind =
      let k = match_at i i_in in
      let m = match_at j j_in in
      let g = holder_beside (slice_get kept.holders) lists.places lists.holders are.beside i i_in in
      let h = holder_beside (slice_get kept.holders) lists.places lists.holders are.beside j j_in in
      one_way_less (lists_key (trees kept.workspace) k.0 g.0) (lists_key (trees kept.workspace) m.0 h.0)
      (before k.0 m.0 g.0 h.0 k.1 g.1 m.1 h.1) (behind m.0 k.0 h.0 g.0 m.1 h.1 k.1 g.1)

  module _ (holder : Option Holder) where
    in_list : (n : ℕ) → Contains (listed lists holder) n → Contains lists.places n × (slice_get kept.holders n ≡ Some holder)
    in_list n at = taken_are (slice_get kept.holders) holder lists.places lists.holders are.beside n at

    follow_in_list : AllPairs (Follows kept) (listed lists holder)
    follow_in_list = taken_pairs (slice_get kept.holders) holder (Follows kept) lists.places lists.holders are.beside are.in_order

-- the list of a holder has the places of what it holds, and no others
pub lists_what_is_held : (kept : Kept) → IsKept kept → ListsWhatIsHeld kept
lists_what_is_held kept known lists holder n are = (
  (λ at. (in_list kept lists are holder n at).1),
  (λ is.
      let within = slice_get_within kept.holders n holder is in
      let counted = known.held.counted in
      are_taken (slice_get kept.holders) holder lists.places lists.holders are.beside n ((are.each n).1 (omega arith)) is),
)

-- the places of a list stand in its order
pub lists_in_order : (kept : Kept) → ListsInOrder kept
lists_in_order kept lists holder are =
    pairs_follow (Follows kept) (IsListedBefore kept) (listed lists holder)
    (λ i j i_in j_in before k m k_is m_is.
    same_front (holder_key holder) (listing_key (trees kept.workspace) k) (listing_key (trees kept.workspace) m)
    (before k m holder holder k_is (in_list kept lists are holder i i_in).1 m_is (in_list kept lists are holder j j_in).1))
    (follow_in_list kept lists are holder)

-- each once
pub lists_each_once : (kept : Kept) → ListsEachOnce kept
lists_each_once kept lists holder are =
    pairs_follow (Follows kept) (λ i j. i ≢ j) (listed lists holder)
    (λ i j i_in j_in before same.
    let i_at = (in_list kept lists are holder i i_in).0 in
    let itself : Follows kept i i = subst (Follows kept i) (sym same) before in
    goes_one_way kept lists are i i i_at i_at itself itself)
    (follow_in_list kept lists are holder)

-- kept matches have one way to list them
pub one_listing : (kept : Kept) → OneListing kept
one_listing kept lists other are also =
    let places : lists.places ≡ other.places =
    one_order (Follows kept) lists.places other.places (goes_one_way kept lists are) are.in_order also.in_order
    (λ n. ((λ at. (also.each n).1 ((are.each n).0 at)), (λ at. (are.each n).1 ((also.each n).0 at)))) in
    let holders : lists.holders ≡ other.holders =
    same_values lists.holders other.holders (are.beside ∙ ap (map (slice_get kept.holders)) places ∙ sym also.beside) in
    ap (λ (ps : List ℕ). (let made : Listing = record { places = ps; holders = lists.holders } in made)) places
    ∙ ap (λ (hs : List (Option Holder)). (let made : Listing = record { places = other.places; holders = hs } in made)) holders

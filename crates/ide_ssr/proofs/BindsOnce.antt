-- Nested matches bind each placeholder once, to ranges that share no byte.
use Rattle.std.proofs.Common.{◌≡◌, ◌≢◌, ℕ, zero, suc, ◌+◌, ◌<◌, true, List, [], ◌∷◌, ◌++◌, inl, inr, map, length, get_or, slice_get, All, AllPairs, Contains, Option, Some, refl, sym, ◌∙◌, ap, subst, arith}
use Rattle.std.specs.Prelude.{bytes_eq}
use Rattle.std.specs.List.{range_with_len, list_any}
use Rattle.std.specs.Option.{option_map_or}
use Rattle.std.proofs.lemmas.Bool.{cases_order, false≢true, or_left, or_right}
use Rattle.std.proofs.lemmas.List.{get_or-map, length-map, get_or_default}
use Rattle.std.proofs.lemmas.List.Elements.{All-nil, All-cons, All-weaker, All-contains, Contains-get_or, Contains-push, Contains-append_left}
use Rattle.std.proofs.lemmas.List.FromFn.{length-range_with_len, get_or-range_with_len}
use Rattle.std.proofs.lemmas.List.Kept.{AllPairs-cons}
use Rattle.std.proofs.lemmas.Option.{slice_get-get_or}
use Rattle.std.proofs.lemmas.Slice.Eq.{bytes_eq-Decides}
use Rattle.ssr_syntax_tree.proofs.Lists.{all_at, pairs_at}
use Rattle.ssr_base_trees.specs.Workspace.{Workspace, trees}
use Rattle.ide_ssr_resolved_rule.specs.Names.{has, AreNew}
use Rattle.ide_ssr_resolved_rule.specs.Resolved.{ResolvedRule}
use Rattle.ide_ssr_bindings.specs.declared.bindings.Binding.{Binding}
use Rattle.ide_ssr_bindings.specs.Found.{FoundMatch, AreDisjoint, ShareNoByte, IsMatch, held_range, node_binding}
use Rattle.ide_ssr_matching.proofs.Shared.{placeholders_bound}
use Rattle.ide_ssr_nesting.specs.Holding.{Kept, IsKept}
use Rattle.ide_ssr_nesting.specs.Lists.{Listing, listed}
use Rattle.ide_ssr.specs.declared.matches.Match.{Match}
use Rattle.ide_ssr.specs.declared.matches.PlaceholderMatch.{PlaceholderMatch}
use Rattle.ide_ssr.specs.BindsOnce.{BindsOnce, IsListIn, BindOnce}
use Rattle.ide_ssr.specs.BindsOnce as bound
use Rattle.ide_ssr.specs.Matches.{placeholders_of, name_of, span_of, inner_of}
use Rattle.ide_ssr.specs.Nesting.{Show, Shows, ShowBindings}
use Rattle.ide_ssr.specs.Nesting as nesting
use Rattle.ide_ssr.specs.Parts.{ComesFrom, placeholder_name}
use Rattle.ide_ssr.specs.Starts.{AreByStart}
use Rattle.ide_ssr.proofs.Showing.{order_differ, match_at}

-- ** Names that are told apart.

has_name : (names : List (List ℕ)) (name : List ℕ) → Contains names name → has names name ≡ true
has_name [] name at = absurd (let less = at.1 in omega arith)
has_name (x ∷ names) name (zero, less, is) =
    or_left (bytes_eq name x) (list_any (bytes_eq name) names) ((bytes_eq-Decides name x).1 (sym is))
has_name (x ∷ names) name (suc k, less, is) =
    or_right (bytes_eq name x) (list_any (bytes_eq name) names) (has_name names name (k, omega arith, is))

new_apart : (before names : List (List ℕ)) → AreNew before names → (name : List ℕ) → Contains before name → Contains names name → ⊥
new_apart before [] new name old at = let less = at.1 in omega arith
new_apart before (x ∷ names) new name old (zero, less, is) =
    false≢true (sym new.0 ∙ has_name before x (subst (Contains before) (sym is) old))
new_apart before (x ∷ names) new name old (suc k, less, is) =
    new_apart (before ++ x ∷ []) names new.1 name (Contains-append_left before (x ∷ []) name old) (k, omega arith, is)

new_differ : (before names : List (List ℕ)) → AreNew before names → AllPairs (λ one other. one ≢ other) names
new_differ before [] new = λ i j d less within. absurd (omega arith)
new_differ before (x ∷ names) new =
    AllPairs-cons (λ one other. one ≢ other) x names
    (λ k d less same. new_apart (before ++ x ∷ []) names new.1 x (Contains-push before x) (subst (Contains names) (sym same) (Contains-get_or names k d less)))
    (new_differ (before ++ x ∷ []) names new.1)

-- ** Matches of rules.

-- a match binds the placeholders of its rule, in the order of their names
pub record IsOfRule (rules : List ResolvedRule) (m : FoundMatch) : Type 0 where
  pub rule : ResolvedRule
  pub is_rule : slice_get rules m.rule ≡ Some rule
  pub numbered : placeholders_bound m.bindings ≡ range_with_len 0 (length rule.names)
  pub different : AreNew [] rule.names

nothing : Binding
nothing = node_binding 0 0

name_of_binding : List ResolvedRule → FoundMatch → ℕ → List ℕ
name_of_binding rules m i =
    option_map_or (λ (b : Binding). placeholder_name (slice_get rules m.rule) b.placeholder) (slice_get m.bindings i) []

named : (rules : List ResolvedRule) (m : FoundMatch) (i : ℕ) (b : Binding) → slice_get m.bindings i ≡ Some b
    → name_of_binding rules m i ≡ placeholder_name (slice_get rules m.rule) b.placeholder
unfolding name_of_binding
named rules m i b is = ap (λ o. option_map_or (λ (b : Binding). placeholder_name (slice_get rules m.rule) b.placeholder) o []) is

bindings_counted : (rules : List ResolvedRule) (m : FoundMatch) (of : IsOfRule rules m) → length m.bindings ≡ length of.rule.names
bindings_counted rules m of =
    sym (length-map m.bindings (λ (b : Binding). b.placeholder)) ∙ ap length of.numbered ∙ length-range_with_len 0 (length of.rule.names)

name_is : (rules : List ResolvedRule) (m : FoundMatch) (of : IsOfRule rules m) (i : ℕ) → i < length m.bindings → name_of_binding rules m i ≡ get_or of.rule.names i []
name_is rules m of i less =
    let b = get_or m.bindings i nothing in
    let count = bindings_counted rules m of in
    let number : b.placeholder ≡ i =
    sym (get_or-map (λ (b : Binding). b.placeholder) m.bindings i nothing 0 less)
    ∙ ap (λ ns. get_or ns i 0) of.numbered
    ∙ get_or-range_with_len 0 (length of.rule.names) i 0 (omega arith)
    ∙ (let same : 0 + i ≡ i = omega arith in same) in
    named rules m i b (slice_get-get_or m.bindings i nothing less)
    ∙ ap (λ (rule : Option ResolvedRule). placeholder_name rule b.placeholder) of.is_rule
    ∙ ap (λ i. get_or of.rule.names i []) number

-- ** The names that are shown.

names_shown : (rules : List ResolvedRule) (kept : Kept) (lists : Listing) (n : ℕ) (m : FoundMatch) (order : List ℕ) (ps : List PlaceholderMatch)
    → ShowBindings rules kept lists n m order ps → map name_of ps ≡ map (name_of_binding rules m) order
names_shown rules kept lists _ _ _ _ (nesting.end n m) = refl
names_shown rules kept lists _ _ _ _ (nesting.bound n m i b order p ps is has inner rest) =
    ap (λ name. name ∷ map name_of ps) (has.name ∙ sym (named rules m i b is))
    ∙ ap (λ names. name_of_binding rules m i ∷ names) (names_shown rules kept lists n m order ps rest)

module _ (rules : List ResolvedRule) (kept : Kept) (m : FoundMatch) (of : IsOfRule rules m) (is_match : IsMatch (trees kept.workspace) m) (order : List ℕ)
    (by_start : AreByStart kept.workspace m order) where
  abbrev names : List (List ℕ)
  names = map (name_of_binding rules m) order

  name_at : (k : ℕ) (d : List ℕ) → k < length order → get_or names k d ≡ get_or of.rule.names (get_or order k 0) []
  name_at k d less =
      get_or-map (name_of_binding rules m) order k 0 d less
      ∙ name_is rules m of (get_or order k 0) ((by_start.each (get_or order k 0)).0 (Contains-get_or order k 0 less))

  in_rule : (k : ℕ) → k < length order → get_or order k 0 < length of.rule.names
  in_rule k less =
      let within = (by_start.each (get_or order k 0)).0 (Contains-get_or order k 0 less) in
      let count = bindings_counted rules m of in
      omega arith

  shown_in_rule : (name : List ℕ) → Contains names name → Contains of.rule.names name
  shown_in_rule name at =
      let less : at.0 < length order = omega (arith, length-map order (name_of_binding rules m), at.1) in
      let i = get_or order at.0 0 in
      (i, in_rule at.0 less, get_or_default of.rule.names i name [] (in_rule at.0 less) ∙ sym (name_at at.0 name less) ∙ at.2)

  rule_in_shown : (name : List ℕ) → Contains of.rule.names name → Contains names name
  rule_in_shown name at =
      let i = at.0 in
      let count = bindings_counted rules m of in
      let place = (by_start.each i).1 (omega (arith, at.1)) in (
        place.0,
        omega (arith, length-map order (name_of_binding rules m), place.1),
        name_at place.0 name place.1
            ∙ ap (λ i. get_or of.rule.names i []) (get_or_default order place.0 0 i place.1 ∙ place.2)
            ∙ get_or_default of.rule.names i [] name at.1
            ∙ at.2,
      )

  names_differ : AllPairs (λ one other. one ≢ other) names
  names_differ p q d less within same =
      let last : q < length order = omega (arith, length-map order (name_of_binding rules m)) in
      let first : p < length order = omega arith in
      let i = get_or order p 0 in
      let j = get_or order q 0 in
      let apart = new_differ [] of.rule.names of.different in
      let equal : get_or of.rule.names i [] ≡ get_or of.rule.names j [] = sym (name_at p d first) ∙ same ∙ name_at q d last in
      elim (cases_order i j) [
        | inl one ↦ order_differ kept m order is_match by_start p q 0 less last one
        | inr (inl before) ↦ apart i j [] before (in_rule q last) equal
        | inr (inr behind) ↦ apart j i [] behind (in_rule p first) (sym equal)
      ]

-- ** What is shown at each place.

record IsShownAt (w : Workspace) (m : FoundMatch) (i : ℕ) (p : PlaceholderMatch) : Type 0 where
  binding : Binding
  is : slice_get m.bindings i ≡ Some binding
  from : ComesFrom w (held_range (trees w) m.node.tree binding) (span_of p)

shown_at : (rules : List ResolvedRule) (kept : Kept) (lists : Listing) (n : ℕ) (m : FoundMatch) (order : List ℕ) (ps : List PlaceholderMatch)
    → ShowBindings rules kept lists n m order ps → (k : ℕ) (d : PlaceholderMatch) → k < length ps → IsShownAt kept.workspace m (get_or order k 0) (get_or ps k d)
shown_at rules kept lists _ _ _ _ (nesting.end n m) k d less = absurd (omega arith)
shown_at rules kept lists _ _ _ _ (nesting.bound n m i b order p ps is has inner rest) zero d less = record { binding = b; is = is; from = has.range }
shown_at rules kept lists _ _ _ _ (nesting.bound n m i b order p ps is has inner rest) (suc k) d less =
    shown_at rules kept lists n m order ps rest k d (omega arith)

shown_counted : (rules : List ResolvedRule) (kept : Kept) (lists : Listing) (n : ℕ) (m : FoundMatch) (order : List ℕ) (ps : List PlaceholderMatch)
    → ShowBindings rules kept lists n m order ps → length ps ≡ length order
shown_counted rules kept lists _ _ _ _ (nesting.end n m) = refl
shown_counted rules kept lists _ _ _ _ (nesting.bound n m i b order p ps is has inner rest) =
    let count = shown_counted rules kept lists n m order ps rest in omega arith

apart_in_order : (w : Workspace) (m : FoundMatch) → IsMatch (trees w) m → (i j : ℕ) (p q : PlaceholderMatch) → IsShownAt w m i p → IsShownAt w m j q → i < j → AreDisjoint (span_of p) (span_of q)
apart_in_order w m is_match i j p q one other less =
    pairs_at (ShareNoByte (trees w) m.node.tree) m.bindings i j one.binding other.binding is_match.apart less
    one.is other.is (span_of p) (span_of q) one.from.is other.from.is

apart_shown : (rules : List ResolvedRule) (kept : Kept) (lists : Listing) (n : ℕ) (m : FoundMatch) (order : List ℕ) (ps : List PlaceholderMatch)
    → IsMatch (trees kept.workspace) m → AreByStart kept.workspace m order → ShowBindings rules kept lists n m order ps → AllPairs (λ p q. AreDisjoint (span_of p) (span_of q)) ps
apart_shown rules kept lists n m order ps is_match by_start shown p q d less within =
    let count = shown_counted rules kept lists n m order ps shown in
    let one = shown_at rules kept lists n m order ps shown p d (omega arith) in
    let other = shown_at rules kept lists n m order ps shown q d within in
    elim (cases_order (get_or order p 0) (get_or order q 0)) [
      | inl same ↦ absurd (order_differ kept m order is_match by_start p q 0 less (omega arith) same)
      | inr (inl before) ↦ apart_in_order kept.workspace m is_match (get_or order p 0) (get_or order q 0) (get_or ps p d) (get_or ps q d) one other before
      | inr (inr behind) ↦
          let h = apart_in_order kept.workspace m is_match (get_or order q 0) (get_or order p 0) (get_or ps q d) (get_or ps p d) other one behind in
          omega arith
    ]

-- ** One match.

shown_once : (rules : List ResolvedRule) (kept : Kept) (lists : Listing) (n : ℕ) (v : Match) → All (IsOfRule rules) kept.matches → IsKept kept
    → Shows rules kept lists n v → BindsOnce rules v
shown_once rules kept lists _ _ of_rules known (nesting.at n m order v is parts by_start bindings) =
    let of = all_at (IsOfRule rules) kept.matches n m of_rules is in
    let is_match = match_at kept n m known is in
    let shown = names_shown rules kept lists n m order (placeholders_of v) bindings in
    record {
      rule = of.rule;
      is_rule = ap (slice_get rules) parts.rule ∙ of.is_rule;
      each = λ name. (
        (λ at. shown_in_rule rules kept m of is_match order by_start name (subst (λ names. Contains names name) shown at)),
        (λ at. subst (λ names. Contains names name) (sym shown) (rule_in_shown rules kept m of is_match order by_start name at)),
      );
      different = subst (AllPairs (λ one other. one ≢ other)) (sym shown) (names_differ rules kept m of is_match order by_start);
      apart = apart_shown rules kept lists n m order (placeholders_of v) is_match by_start bindings;
    }

-- ** The lists of an answer.

abbrev IsOne : List ResolvedRule → Kept → Listing → Match → Type 0
IsOne rules kept lists v = (n : ℕ) × Shows rules kept lists n v

show_all : (rules : List ResolvedRule) (kept : Kept) (lists : Listing) (ns : List ℕ) (vs : List Match) → Show rules kept lists ns vs → All (IsOne rules kept lists) vs
show_all rules kept lists _ _ nesting.none = All-nil (IsOne rules kept lists)
show_all rules kept lists _ _ (nesting.next n ns v vs first rest) =
    All-cons (IsOne rules kept lists) v vs (n, first) (show_all rules kept lists ns vs rest)

-- kept ones that are listed somewhere
abbrev IsShown : List ResolvedRule → Kept → Listing → List Match → Type 0
IsShown rules kept lists vs = (ns : List ℕ) × Show rules kept lists ns vs

inner_all : (rules : List ResolvedRule) (kept : Kept) (lists : Listing) (n : ℕ) (m : FoundMatch) (order : List ℕ) (ps : List PlaceholderMatch)
    → ShowBindings rules kept lists n m order ps → All (λ p. IsShown rules kept lists (inner_of p)) ps
inner_all rules kept lists _ _ _ _ (nesting.end n m) = All-nil (λ p. IsShown rules kept lists (inner_of p))
inner_all rules kept lists _ _ _ _ (nesting.bound n m i b order p ps is has inner rest) =
    All-cons (λ p. IsShown rules kept lists (inner_of p)) p ps (listed lists (Some (record { place = n; binding = i })), inner)
    (inner_all rules kept lists n m order ps rest)

inner_shown : (rules : List ResolvedRule) (kept : Kept) (lists : Listing) (n : ℕ) (v : Match) (p : PlaceholderMatch) → Shows rules kept lists n v
    → Contains (placeholders_of v) p → IsShown rules kept lists (inner_of p)
inner_shown rules kept lists _ _ p (nesting.at n m order v is parts by_start bindings) at =
    All-contains (λ p. IsShown rules kept lists (inner_of p)) (placeholders_of v) p
    (inner_all rules kept lists n m order (placeholders_of v) bindings) at

list_shown : (rules : List ResolvedRule) (kept : Kept) (lists : Listing) (ns : List ℕ) (answer vs : List Match) → Show rules kept lists ns answer
    → IsListIn answer vs → IsShown rules kept lists vs
list_shown rules kept lists ns answer _ show bound.own = (ns, show)
list_shown rules kept lists ns answer _ show (bound.inner vs v p is at held) =
    let list = list_shown rules kept lists ns answer vs show is in
    let one = All-contains (IsOne rules kept lists) vs v (show_all rules kept lists list.0 vs list.1) at in
    inner_shown rules kept lists one.0 v p one.1 held

pub answer_once : (rules : List ResolvedRule) (kept : Kept) (lists : Listing) (ns : List ℕ) (answer : List Match) → All (IsOfRule rules) kept.matches → IsKept kept
    → Show rules kept lists ns answer → BindOnce rules answer
answer_once rules kept lists ns answer of_rules known show vs is =
    let list = list_shown rules kept lists ns answer vs show is in
    All-weaker (IsOne rules kept lists) (BindsOnce rules) (λ v one. shown_once rules kept lists one.0 v of_rules known one.1)
    vs (show_all rules kept lists list.0 vs list.1)

-- Nested matches show kept ones: they are made one by one, from the last to the first, and taken by those that hold them.
use Rattle.std.proofs.Common.{◌≡◌, ◌≢◌, ℕ, ◌+◌, ◌<◌, ◌≤◌, List, [], ◌∷◌, ◌++◌, inl, inr, length, map, take, get_or, set, slice_get, Option, Some, None, All, AllPairs, Contains, refl, sym, ◌∙◌, ap, subst, arith}
use Rattle.std.specs.Prelude.{is_some, IsSome}
use Rattle.std.specs.Option.{IsSomeAnd, option_map, option_and_then}
use Rattle.std.proofs.Math.Seq.{take_all}
use Rattle.std.proofs.lemmas.Bool.{cases_lt, false≢true}
use Rattle.std.proofs.lemmas.List.{take_more, get_or-set_same, get_or-set_other, length-set}
use Rattle.std.proofs.lemmas.List.Elements.{All-head, All-tail, Contains-append_left, Contains-push, Contains-get_or}
use Rattle.std.proofs.lemmas.Option.{slice_get-get_or, slice_get_within, same_Some, none-some}
use Rattle.ssr_syntax_tree.proofs.Lists.{all_at}
use Rattle.ssr_base_trees.specs.declared.ids.NodeId.{NodeId}
use Rattle.ssr_base_trees.specs.Laws.{LiesIn}
use Rattle.ssr_base_trees.specs.Workspace.{Workspace, PlacedTree, FileSpan, trees, original_range}
use Rattle.ide_ssr_resolved_rule.specs.Resolved.{ResolvedRule}
use Rattle.ide_ssr_bindings.specs.declared.bindings.Binding.{Binding}
use Rattle.ide_ssr_bindings.specs.Found.{FoundMatch, IsInRange, IsMatch, held_range, node_binding}
use Rattle.ide_ssr_nesting.specs.declared.holders.Holder.{Holder}
use Rattle.ide_ssr_nesting.specs.Holding.{Kept, IsKept}
use Rattle.ide_ssr_nesting.specs.Lists.{Listing, AreLists, listed}
use Rattle.ide_ssr_rewriting.proofs.Shared.{not_before}
use Rattle.ide_ssr.specs.declared.matches.Match.{Match}
use Rattle.ide_ssr.specs.declared.matches.PlaceholderMatch.{PlaceholderMatch}
use Rattle.ide_ssr.specs.Matches.{placeholders_of, name_of, span_of, deref_count_of, self_kind_of, inner_of}
use Rattle.ide_ssr.specs.Nesting.{Show, Shows, ShowBindings}
use Rattle.ide_ssr.specs.Nesting as nesting
use Rattle.ide_ssr.specs.Parts.{ComesFrom, HasParts, HasBinding, placeholder_name}
use Rattle.ide_ssr.specs.Starts.{start_at, ComesFirst, AreByStart}
use Rattle.ide_ssr.specs.Private.Made.{IsMade, Waits, AreMade, IsNotHeldBy, ShowPlaceholders}
use Rattle.ide_ssr.proofs.Holders.{of_holder, before}

abbrev pub under : ℕ → ℕ → Option Holder
under n i = Some (record { place = n; binding = i })

-- ** What is taken.

pub show_taken : (rules : List ResolvedRule) (kept : Kept) (lists : Listing) (made : List (Option Match)) (places : List ℕ) (vs : List Match)
    → All (IsMade rules kept lists made) places → map Some vs ≡ map (λ n. get_or made n None) places → Show rules kept lists places vs
show_taken rules kept lists made [] [] all taken = nesting.none
show_taken rules kept lists made [] (v ∷ vs) all taken = absurd (let e : Some v ∷ map Some vs ≡ [] = taken in cc)
show_taken rules kept lists made (n ∷ ns) [] all taken = absurd (let e : [] ≡ get_or made n None ∷ map (λ n. get_or made n None) ns = taken in cc)
show_taken rules kept lists made (n ∷ ns) (v ∷ vs) all taken =
    let one = All-head (IsMade rules kept lists made) n ns all in
    let both : Some v ∷ map Some vs ≡ get_or made n None ∷ map (λ n. get_or made n None) ns = taken in
    let first : Some v ≡ get_or made n None = cc in
    let rest : map Some vs ≡ map (λ n. get_or made n None) ns = cc in
    nesting.next n ns v vs (subst (Shows rules kept lists n) (sym (same_Some v one.0 (first ∙ one.1))) one.2)
    (show_taken rules kept lists made ns vs (All-tail (IsMade rules kept lists made) n ns all) rest)

pub bindings_push : (rules : List ResolvedRule) (kept : Kept) (lists : Listing) (n : ℕ) (m : FoundMatch) (order : List ℕ) (ps : List PlaceholderMatch)
    (i : ℕ) (b : Binding) (p : PlaceholderMatch) → ShowBindings rules kept lists n m order ps → slice_get m.bindings i ≡ Some b
    → HasBinding kept.workspace (slice_get rules m.rule) m.node.tree b p → Show rules kept lists (listed lists (under n i)) (inner_of p)
    → ShowBindings rules kept lists n m (order ++ i ∷ []) (ps ++ p ∷ [])
bindings_push rules kept lists _ _ _ _ i b p (nesting.end n m) is has inner = nesting.bound n m i b [] p [] is has inner (nesting.end n m)
bindings_push rules kept lists _ _ _ _ i b p (nesting.bound n m j c order q ps at first below rest) is has inner =
    nesting.bound n m j c (order ++ i ∷ []) q (ps ++ p ∷ []) at first below (bindings_push rules kept lists n m order ps i b p rest is has inner)

-- ** Which are made.

there : (rules : List ResolvedRule) (kept : Kept) (lists : Listing) (made : List (Option Match)) (n : ℕ) → IsMade rules kept lists made n → IsSome (get_or made n None)
there rules kept lists made n one = ap is_some one.1

pub all_there : (rules : List ResolvedRule) (kept : Kept) (lists : Listing) (made : List (Option Match)) (places : List ℕ)
    → All (IsMade rules kept lists made) places → All (λ n. IsSome (get_or made n None)) places
all_there rules kept lists made places all = λ k d less. there rules kept lists made (get_or places k d) (all k d less)

made_there : (rules : List ResolvedRule) (kept : Kept) (lists : Listing) (old new : List (Option Match)) (j : ℕ)
    → IsMade rules kept lists old j → get_or new j None ≡ get_or old j None → IsMade rules kept lists new j
made_there rules kept lists old new j one same = (one.0, same ∙ one.1, one.2)

pub none_made : (rules : List ResolvedRule) (kept : Kept) (lists : Listing) (n : ℕ) (made : List (Option Match)) → IsKept kept → n ≡ length kept.matches
    → length made ≡ n → AreMade rules kept lists n made
none_made rules kept lists n made known all counted = record {
  counted = counted ∙ all;
  waiting = λ j holder behind is waits.
      let less = slice_get_within kept.holders j holder is in
      absurd (omega (arith, known.held.counted));
}

still_waits : (n : ℕ) (holder : Option Holder) → Waits n holder → Waits (n + 1) holder
still_waits n None waits = tt
still_waits n (Some h) waits = let less : h.place < n = waits in let more : h.place < n + 1 = omega arith in more

other_holder : (n : ℕ) (h : Holder) (holder : Option Holder) → holder ≡ Some h → Waits n holder → h.place ≢ n
other_holder n h None is waits same = none-some h is
other_holder n h (Some g) is waits same =
    let one : g.place ≡ h.place = ap (λ (h : Holder). h.place) (same_Some g h is) in
    let less : g.place < n = waits in
    omega arith

-- one match more is made
pub made_more : (rules : List ResolvedRule) (kept : Kept) (lists : Listing) (n : ℕ) → n < length kept.matches
    → (old made new : List (Option Match)) (v : Match) → AreMade rules kept lists (n + 1) old → Shows rules kept lists n v
    → ((j : ℕ) → IsNotHeldBy kept n j → get_or made j None ≡ get_or old j None) → length made ≡ length old → new ≡ set made n (Some v)
    → AreMade rules kept lists n new
made_more rules kept lists n less old made new v are shown left counted more = record {
  counted = ap length more ∙ (length-set made n (Some v) ∙ (counted ∙ are.counted));
  waiting = λ j holder behind is waits.
      elim (cases_lt n j) [
        | inl later ↦
            made_there rules kept lists old new j (are.waiting j holder (omega arith) is (still_waits n holder waits))
            (ap (λ (xs : List (Option Match)). get_or xs j None) more
            ∙ (get_or-set_other made n j (Some v) None (λ same. omega arith)
            ∙ left j (λ h held. other_holder n h holder (same_Some holder (Some h) (sym is ∙ held)) waits)))
        | inr not_later ↦
            let same : n ≡ j = omega arith in
            let at : n < length made = omega (arith, are.counted, counted) in
            subst (IsMade rules kept lists new) same
            (v, ap (λ (xs : List (Option Match)). get_or xs n None) more ∙ get_or-set_same made n (Some v) None at, shown)
      ];
}

-- at the end all of a list are made
pub outermost_made : (rules : List ResolvedRule) (kept : Kept) (lists : Listing) (n : ℕ) (made : List (Option Match)) → IsKept kept → AreLists kept lists → n ≡ 0
    → AreMade rules kept lists n made → All (IsMade rules kept lists made) (listed lists None)
outermost_made rules kept lists n made known are_lists first are k d less =
    let j = get_or (listed lists None) k d in
    are.waiting j None (omega arith) (of_holder kept lists known are_lists None j (Contains-get_or (listed lists None) k d less)) tt

-- ** The placeholders of a match.

-- what the first p placeholders of a match in order hold is taken
pub record IsHolding (rules : List ResolvedRule) (kept : Kept) (lists : Listing) (n : ℕ) (m : FoundMatch) (order : List ℕ) (p : ℕ) (old made : List (Option Match))
    (placeholders : List PlaceholderMatch) : Type 0 where
  pub is_match : IsMatch (trees kept.workspace) m
  pub by_start : AreByStart kept.workspace m order
  pub shown : ShowBindings rules kept lists n m (take p order) placeholders
  pub others : (j : ℕ) → ((i : ℕ) → Contains (take p order) i → slice_get kept.holders j ≢ Some (under n i)) → get_or made j None ≡ get_or old j None
  pub counted : length made ≡ length old

pub holding_none : (rules : List ResolvedRule) (kept : Kept) (lists : Listing) (n : ℕ) (m : FoundMatch) (order : List ℕ) (made : List (Option Match)) (placeholders : List PlaceholderMatch)
    → IsMatch (trees kept.workspace) m → AreByStart kept.workspace m order → placeholders ≡ [] → IsHolding rules kept lists n m order 0 made made placeholders
holding_none rules kept lists n m order made placeholders is_match by_start none =
    subst (IsHolding rules kept lists n m order 0 made made) (sym none)
    (record { is_match = is_match; by_start = by_start; shown = nesting.end n m; others = λ j out. refl; counted = refl })

-- the places of bindings come once each in order
told : (o : Option FileSpan) → IsSome o → (a : ℕ) × (option_map (λ (range : FileSpan). range.span.start) o ≡ Some a)
told None is = absurd (false≢true is)
told (Some range) is = (range.span.start, refl)

in_range : (ts : List PlacedTree) (x : NodeId) (b : Binding) → IsInRange ts x b → IsSome (held_range ts x.tree b)
in_range ts x b within = there (held_range ts x.tree b) (λ inner. IsSomeAnd (original_range ts x) (LiesIn inner)) within
  where
    there : (o : Option FileSpan) (P : FileSpan → Type 0) → IsSomeAnd o P → IsSome o
    there None P known = absurd known
    there (Some range) P known = refl

start_there : (kept : Kept) (m : FoundMatch) (i : ℕ) → IsMatch (trees kept.workspace) m → i < length m.bindings → (a : ℕ) × (start_at kept.workspace m i ≡ Some a)
start_there kept m i is_match less =
    let nothing : Binding = node_binding 0 0 in
    let b = get_or m.bindings i nothing in
    let start = told (held_range (trees kept.workspace) m.node.tree b) (in_range (trees kept.workspace) m.node b (is_match.held i nothing less)) in (
      start.0,
      ap (option_and_then (λ (b : Binding). option_map (λ (range : FileSpan). range.span.start) (held_range (trees kept.workspace) m.node.tree b)))
          (slice_get-get_or m.bindings i nothing less)
          ∙ start.1,
    )

not_first_itself : (kept : Kept) (m : FoundMatch) (i j : ℕ) → IsMatch (trees kept.workspace) m → j < length m.bindings → ComesFirst kept.workspace m i j → i ≢ j
not_first_itself kept m i j is_match less first same =
    let start = start_there kept m j is_match less in
    let twice : ComesFirst kept.workspace m j j = subst (λ i. ComesFirst kept.workspace m i j) same first in
    elim (twice start.0 start.0 start.1 start.1) [
      | inl before ↦ omega arith
      | inr equal ↦ omega (arith, equal.1)
    ]

pub order_differ : (kept : Kept) (m : FoundMatch) (order : List ℕ) → IsMatch (trees kept.workspace) m → AreByStart kept.workspace m order
    → AllPairs (λ i j. i ≢ j) order
order_differ kept m order is_match by_start p q d less within =
    not_first_itself kept m (get_or order p d) (get_or order q d) is_match ((by_start.each (get_or order q d)).0 (Contains-get_or order q d within))
    (by_start.in_order p q d less within)

-- what the next placeholder holds is made still
pub held_made : (rules : List ResolvedRule) (kept : Kept) (lists : Listing) (n : ℕ) (m : FoundMatch) (order : List ℕ) (p : ℕ) (old made : List (Option Match))
    (placeholders : List PlaceholderMatch) → IsKept kept → AreLists kept lists → AreMade rules kept lists (n + 1) old
    → IsHolding rules kept lists n m order p old made placeholders → p < length order
    → All (IsMade rules kept lists made) (listed lists (under n (get_or order p 0)))
held_made rules kept lists n m order p old made placeholders known are_lists are so_far less k d within =
    let i = get_or order p 0 in
    let j = get_or (listed lists (under n i)) k d in
    let is : slice_get kept.holders j ≡ Some (under n i) = of_holder kept lists known are_lists (under n i) j (Contains-get_or (listed lists (under n i)) k d within) in
    let later : n < j = before kept known j (record { place = n; binding = i }) is in
    let near : n < n + 1 = omega arith in
    made_there rules kept lists old made j (are.waiting j (under n i) (omega arith) is near)
    (so_far.others j
    (λ other at held.
    let one : under n i ≡ under n other = same_Some (under n i) (under n other) (sym is ∙ held) in
    let same : i ≡ other = ap (λ (h : Holder). h.binding) (same_Some (record { place = n; binding = i }) (record { place = n; binding = other }) one) in
    not_before order p i less refl (order_differ kept m order so_far.is_match so_far.by_start) (subst (Contains (take p order)) (sym same) at)))

pub holding_more : (rules : List ResolvedRule) (kept : Kept) (lists : Listing) (n : ℕ) (m : FoundMatch) (order : List ℕ) (p : ℕ) (old made new : List (Option Match))
    (placeholders longer : List PlaceholderMatch) (b : Binding) (placeholder : PlaceholderMatch) → IsKept kept → AreLists kept lists
    → IsHolding rules kept lists n m order p old made placeholders → p < length order → slice_get m.bindings (get_or order p 0) ≡ Some b
    → HasBinding kept.workspace (slice_get rules m.rule) m.node.tree b placeholder → Show rules kept lists (listed lists (under n (get_or order p 0))) (inner_of placeholder)
    → ((j : ℕ) → (Contains (listed lists (under n (get_or order p 0))) j → ⊥) → get_or new j None ≡ get_or made j None) → length new ≡ length made
    → longer ≡ placeholders ++ placeholder ∷ []
    → IsHolding rules kept lists n m order (p + 1) old new longer
holding_more rules kept lists n m order p old made new placeholders longer b placeholder known are_lists so_far less is has inner left counted more =
    let i = get_or order p 0 in
    let longer_order : take (p + 1) order ≡ take p order ++ i ∷ [] = take_more order p 0 less in
    record {
      is_match = so_far.is_match;
      by_start = so_far.by_start;
      shown =
          subst (ShowBindings rules kept lists n m (take (p + 1) order)) (sym more)
          (subst (λ order. ShowBindings rules kept lists n m order (placeholders ++ placeholder ∷ [])) (sym longer_order)
          (bindings_push rules kept lists n m (take p order) placeholders i b placeholder so_far.shown is has inner));
      others = λ j out.
          let away : (i : ℕ) → Contains (take p order ++ get_or order p 0 ∷ []) i → slice_get kept.holders j ≢ Some (under n i) =
          subst (λ ps. (i : ℕ) → Contains ps i → slice_get kept.holders j ≢ Some (under n i)) longer_order out in
          left j (λ at. away i (Contains-push (take p order) i) (of_holder kept lists known are_lists (under n i) j at))
          ∙ so_far.others j (λ i at. away i (Contains-append_left (take p order) (get_or order p 0 ∷ []) i at));
      counted = counted ∙ so_far.counted;
    }

pub holding_all : (rules : List ResolvedRule) (kept : Kept) (lists : Listing) (n : ℕ) (m : FoundMatch) (order : List ℕ) (p : ℕ) (old made : List (Option Match))
    (placeholders : List PlaceholderMatch) → IsHolding rules kept lists n m order p old made placeholders → length order ≤ p
    → ShowPlaceholders rules kept lists n m placeholders
holding_all rules kept lists n m order p old made placeholders so_far past = record {
  order = order;
  by_start = so_far.by_start;
  shown = subst (λ order. ShowBindings rules kept lists n m order placeholders) (take_all p order past) so_far.shown;
}

pub holding_others : (rules : List ResolvedRule) (kept : Kept) (lists : Listing) (n : ℕ) (m : FoundMatch) (order : List ℕ) (p : ℕ) (old made : List (Option Match))
    (placeholders : List PlaceholderMatch) → IsHolding rules kept lists n m order p old made placeholders
    → (j : ℕ) → IsNotHeldBy kept n j → get_or made j None ≡ get_or old j None
holding_others rules kept lists n m order p old made placeholders so_far j out =
    so_far.others j (λ i at held. out (record { place = n; binding = i }) held refl)

-- ** The match of a place.

pub match_at : (kept : Kept) (n : ℕ) (m : FoundMatch) → IsKept kept → slice_get kept.matches n ≡ Some m → IsMatch (trees kept.workspace) m
match_at kept n m known is = all_at (IsMatch (trees kept.workspace)) kept.matches n m known.held.each is

pub order_within : (kept : Kept) (w : Workspace) (m : FoundMatch) (order items : List ℕ) → w ≡ kept.workspace → AreByStart w m order → items ≡ order
    → AreByStart kept.workspace m items
order_within kept w m order items same by_start is =
    subst (AreByStart kept.workspace m) (sym is) (subst (λ (w : Workspace). AreByStart w m order) same by_start)

pub index_within : (w : Workspace) (m : FoundMatch) (order : List ℕ) (p : ℕ) → AreByStart w m order → p < length order → get_or order p 0 < length m.bindings
index_within w m order p by_start less = (by_start.each (get_or order p 0)).0 (Contains-get_or order p 0 less)

pub range_there : (kept : Kept) (w : Workspace) (m : FoundMatch) (node : NodeId) (b : Binding) (i : ℕ) → IsMatch (trees kept.workspace) m → w ≡ kept.workspace
    → node ≡ m.node → slice_get m.bindings i ≡ Some b → IsSome (held_range (trees w) node.tree b)
range_there kept w m node b i is_match same_w same_node is =
    let ranged = in_range (trees kept.workspace) m.node b (all_at (IsInRange (trees kept.workspace) m.node) m.bindings i b is_match.held is) in
    subst (λ (w : Workspace). IsSome (held_range (trees w) node.tree b)) (sym same_w)
    (subst (λ (x : NodeId). IsSome (held_range (trees kept.workspace) x.tree b)) (sym same_node) ranged)

pub binding_shown : (kept : Kept) (w : Workspace) (rules : List ResolvedRule) (m : FoundMatch) (node : NodeId) (rule : ℕ) (b : Binding) (p : PlaceholderMatch) (name : List ℕ)
    → w ≡ kept.workspace → node ≡ m.node → rule ≡ m.rule → name_of p ≡ name → name ≡ placeholder_name (slice_get rules rule) b.placeholder
    → ComesFrom w (held_range (trees w) node.tree b) (span_of p) → deref_count_of p ≡ b.deref_count → self_kind_of p ≡ b.self_kind
    → HasBinding kept.workspace (slice_get rules m.rule) m.node.tree b p
binding_shown kept w rules m node rule b p name same_w same_node same_rule named is from count kind = record {
  name = named ∙ is ∙ ap (λ rule. placeholder_name (slice_get rules rule) b.placeholder) same_rule;
  range =
      subst (λ (x : NodeId). ComesFrom kept.workspace (held_range (trees kept.workspace) x.tree b) (span_of p)) same_node
      (subst (λ (w : Workspace). ComesFrom w (held_range (trees w) node.tree b) (span_of p)) same_w from);
  deref_count = count;
  self_kind = kind;
}

pub show_match : (rules : List ResolvedRule) (kept : Kept) (lists : Listing) (n : ℕ) (m : FoundMatch) (v : Match) (placeholders : List PlaceholderMatch)
    → slice_get kept.matches n ≡ Some m → HasParts kept.workspace m v → ShowPlaceholders rules kept lists n m placeholders → placeholders_of v ≡ placeholders
    → Shows rules kept lists n v
show_match rules kept lists n m v placeholders is parts show same =
    nesting.at n m show.order v is parts show.by_start (subst (ShowBindings rules kept lists n m show.order) (sym same) show.shown)

-- Of nested matches that show the kept ones, the flattened list shows each of these once.
use Rattle.std.proofs.Common.{◌≡◌, ◌≢◌, ℕ, zero, suc, ◌+◌, ◌<◌, ◌==◌, List, [], ◌∷◌, ◌++◌, inl, inr, length, map, slice_get, cond, All, AllPairs, Contains, Option, Some, None, refl, sym, ◌∙◌, ap, subst, arith, eqb, ne_eqb}
use Rattle.std.specs.Prelude.{count_by}
use Rattle.std.specs.List.{flat_map}
use Rattle.std.specs.Option.{IsSomeAnd}
use Rattle.std.proofs.lemmas.Bool.{cases_eq}
use Rattle.std.proofs.lemmas.Bool.Decides.{Decides-eqb}
use Rattle.std.proofs.lemmas.List.Sums.{sum_by-append, sum_by-cons}
use Rattle.std.proofs.lemmas.Option.{same_Some, slice_get_within}
use Rattle.ssr_syntax_tree.specs.Places.{node_of as code_node, text_of as node_text}
use Rattle.ssr_syntax_tree.proofs.Lists.{stands_at, pairs_head, pairs_tail, at_front, at_back, front_or_back}
use Rattle.ssr_base_trees.specs.declared.ids.FileRange.{FileRange}
use Rattle.ssr_base_trees.specs.Laws.{LiesInFile}
use Rattle.ssr_base_trees.specs.Workspace.{Workspace, file_span_of, original_range, tree_of, trees}
use Rattle.ide_ssr_resolved_rule.specs.Resolved.{ResolvedRule}
use Rattle.ide_ssr_bindings.specs.Found.{FoundMatch}
use Rattle.ide_ssr_nesting.specs.declared.holders.Holder.{Holder}
use Rattle.ide_ssr_nesting.specs.Holding.{Kept, IsKept}
use Rattle.ide_ssr_nesting.specs.Lists.{Listing, AreLists, listed}
use Rattle.ide_ssr_nesting.proofs.Shared.{lists_what_is_held}
use Rattle.ide_ssr.specs.declared.matches.Match.{Match}
use Rattle.ide_ssr.specs.declared.matches.PlaceholderMatch.{PlaceholderMatch}
use Rattle.ide_ssr.specs.Finder.{Finder}
use Rattle.ide_ssr.specs.Flattened.{inside, IsAlone, Flattens, ShowAlone, ShowEachOnce}
use Rattle.ide_ssr.specs.Flattened as flattened
use Rattle.ide_ssr.specs.Matches.{placeholders_of, inner_of}
use Rattle.ide_ssr.specs.Nesting.{Show, Shows, ShowBindings, ShowKept}
use Rattle.ide_ssr.specs.Nesting as nesting
use Rattle.ide_ssr.specs.Parts.{ComesFrom, HasParts}
use Rattle.ide_ssr.specs.Starts.{AreByStart}
use Rattle.ide_ssr.proofs.Holders.{of_holder, once, before}
use Rattle.ide_ssr.proofs.Showing.{under, order_differ, match_at}

-- ** How often a place is in a list.

one_at : ℕ → ℕ → ℕ
one_at n place = cond (eqb place n) 1 0

one_same : (n place : ℕ) → place ≡ n → one_at n place ≡ 1
unfolding one_at
one_same n place same = ap (λ b. cond b 1 0) ((Decides-eqb place n).1 same)

one_other : (n place : ℕ) → place ≢ n → one_at n place ≡ 0
unfolding one_at
one_other n place other = ap (λ b. cond b 1 0) (ne_eqb place n other)

times : ℕ → List ℕ → ℕ
times n places = count_by (λ place. place == n) places

times-cons : (n place : ℕ) (places : List ℕ) → times n (place ∷ places) ≡ one_at n place + times n places
unfolding times one_at
times-cons n place places = sum_by-cons (λ place. cond (place == n) 1 0) place places

times-append : (n : ℕ) (places others : List ℕ) → times n (places ++ others) ≡ times n places + times n others
unfolding times
times-append n places others = sum_by-append (λ place. cond (place == n) 1 0) places others

times_never : (n : ℕ) → times n [] ≡ 0
unfolding times
times_never n = refl

times_none : (n : ℕ) (places : List ℕ) → (Contains places n → ⊥) → times n places ≡ 0
times_none n [] out = times_never n
times_none n (place ∷ places) out =
    let first = one_other n place (λ same. out (subst (Contains (place ∷ places)) same (at_front place places))) in
    let others = times_none n places (λ at. out (at_back place n places at)) in
    omega (arith, times-cons n place places)

times_once : (n : ℕ) (places : List ℕ) → AllPairs (λ i j. i ≢ j) places → Contains places n → times n places ≡ 1
times_once n [] different at = absurd (let less = at.1 in omega arith)
times_once n (place ∷ places) different at =
    elim (cases_eq place n) [
      | inl same ↦
          let first = one_same n place same in
          let others = times_none n places (λ later. pairs_head (λ i j. i ≢ j) place places different later.0 n later.1 (same ∙ sym later.2)) in
          omega (arith, times-cons n place places)
      | inr other ↦
          let first = one_other n place other in
          let later : Contains places n = elim (front_or_back place n places at) [ inl same ↦ absurd (other same) | inr later ↦ later ] in
          let others = times_once n places (pairs_tail (λ i j. i ≢ j) place places different) later in
          omega (arith, times-cons n place places)
    ]

-- ** Flattened places.

-- these are the places of what the placeholders of the match n hold, each once
record AreHeldBy (kept : Kept) (n : ℕ) (held : List ℕ) : Type 0 where
  none : (x : ℕ) → ((h : Holder) → slice_get kept.holders x ≡ Some (Some h) → h.place ≢ n) → times x held ≡ 0
  one : (x : ℕ) (h : Holder) → slice_get kept.holders x ≡ Some (Some h) → h.place ≡ n → times x held ≡ 1

-- places are flattened as the matches are that show the kept ones of them
data FlattensPlaces (kept : Kept) : List ℕ → List ℕ → Type 0 where
  nothing : FlattensPlaces kept [] []
  next : (n : ℕ) (held ns inner rest : List ℕ) → AreHeldBy kept n held → FlattensPlaces kept held inner → FlattensPlaces kept ns rest
      → FlattensPlaces kept (n ∷ ns) (inner ++ n ∷ rest)

-- an outermost match is flattened where it stands
times_outermost : (kept : Kept) (ns places : List ℕ) → FlattensPlaces kept ns places → (x : ℕ) → slice_get kept.holders x ≡ Some None → times x places ≡ times x ns
times_outermost kept _ _ nothing x is = refl
times_outermost kept _ _ (next n held ns inner rest are within behind) x is =
    let never = are.none x (λ h other. absurd (let wrong = same_Some None (Some h) (sym is ∙ other) in cc)) in
    let first = times_outermost kept held inner within x is in
    let others = times_outermost kept ns rest behind x is in
    omega (arith, times-append x inner (n ∷ rest), times-cons x n rest, times-cons x n ns)

held_once : (kept : Kept) (x : ℕ) (h g : Holder) → slice_get kept.holders x ≡ Some (Some h) → slice_get kept.holders x ≡ Some (Some g) → h ≡ g
held_once kept x h g one other = same_Some h g (same_Some (Some h) (Some g) (sym one ∙ other))

-- a held one where it stands, and where its holder does
times_held : (kept : Kept) (ns places : List ℕ) → FlattensPlaces kept ns places → (x : ℕ) (h : Holder) → slice_get kept.holders x ≡ Some (Some h)
    → times x places ≡ times x ns + times h.place places
times_held kept _ _ nothing x h is = omega (arith, times_never x, times_never h.place)
times_held kept _ _ (next n held ns inner rest are within behind) x h is =
    let first = times_held kept held inner within x h is in
    let others = times_held kept ns rest behind x h is in
    let here : times x held ≡ one_at h.place n =
    elim (cases_eq h.place n) [
      | inl same ↦ are.one x h is same ∙ sym (one_same h.place n (sym same))
      | inr other ↦
          are.none x (λ g known same. other (ap (λ (g : Holder). g.place) (held_once kept x h g is known) ∙ same))
          ∙ sym (one_other h.place n (λ same. other (sym same)))
    ] in
    omega (arith, times-append x inner (n ∷ rest), times-cons x n rest, times-cons x n ns, times-append h.place inner (n ∷ rest), times-cons h.place n rest)

-- what holds a match is one

-- ** What the placeholders of a match hold.

show_append : (rules : List ResolvedRule) (kept : Kept) (lists : Listing) (ns ms : List ℕ) (vs ws : List Match) → Show rules kept lists ns vs → Show rules kept lists ms ws
    → Show rules kept lists (ns ++ ms) (vs ++ ws)
show_append rules kept lists _ ms _ ws nesting.none other = other
show_append rules kept lists _ ms _ ws (nesting.next n ns v vs first rest) other =
    nesting.next n (ns ++ ms) v (vs ++ ws) first (show_append rules kept lists ns ms vs ws rest other)

-- the places of what the binding i of the match n holds
places_in : Listing → ℕ → ℕ → List ℕ
places_in lists n i = listed lists (under n i)

bindings_shown : (rules : List ResolvedRule) (kept : Kept) (lists : Listing) (n : ℕ) (m : FoundMatch) (order : List ℕ) (ps : List PlaceholderMatch)
    → ShowBindings rules kept lists n m order ps → Show rules kept lists (flat_map (places_in lists n) order) (flat_map inner_of ps)
unfolding places_in
bindings_shown rules kept lists _ _ _ _ (nesting.end n m) = nesting.none
bindings_shown rules kept lists _ _ _ _ (nesting.bound n m i b order p ps is has inner rest) =
    show_append rules kept lists (listed lists (under n i)) (flat_map (places_in lists n) order) (inner_of p) (flat_map inner_of ps) inner
    (bindings_shown rules kept lists n m order ps rest)

module _ (kept : Kept) (lists : Listing) (known : IsKept kept) (are_lists : AreLists kept lists) (n : ℕ) where
  in_no_binding : (x : ℕ) (order : List ℕ) → ((h : Holder) → slice_get kept.holders x ≡ Some (Some h) → h.place ≢ n) → times x (flat_map (places_in lists n) order) ≡ 0
  unfolding places_in
  in_no_binding x [] out = times_never x
  in_no_binding x (i ∷ order) out =
      let here = times_none x (listed lists (under n i)) (λ at. out (record { place = n; binding = i }) (of_holder kept lists known are_lists (under n i) x at) refl) in
      let others = in_no_binding x order out in
      omega (arith, times-append x (listed lists (under n i)) (flat_map (places_in lists n) order))

  in_binding : (x b : ℕ) (order : List ℕ) → slice_get kept.holders x ≡ Some (under n b) → times x (flat_map (places_in lists n) order) ≡ times b order
  unfolding places_in
  in_binding x b [] is = times_never x ∙ sym (times_never b)
  in_binding x b (i ∷ order) is =
      let others = in_binding x b order is in
      let here : times x (listed lists (under n i)) ≡ one_at b i =
      elim (cases_eq i b) [
        | inl same ↦
            times_once x (listed lists (under n i)) (once kept lists are_lists (under n i))
            ((lists_what_is_held kept known lists (under n i) x are_lists).1 (is ∙ ap (λ (i : ℕ). Some (under n i)) (sym same)))
            ∙ sym (one_same b i same)
        | inr other ↦
            times_none x (listed lists (under n i))
            (λ at.
            other (ap (λ (h : Holder). h.binding)
            (held_once kept x (record { place = n; binding = i }) (record { place = n; binding = b }) (of_holder kept lists known are_lists (under n i) x at) is)))
            ∙ sym (one_other b i other)
      ] in
      omega (arith, times-append x (listed lists (under n i)) (flat_map (places_in lists n) order), times-cons b i order)

  -- the binding that holds a match is one of its holder's
  binding_there : (m : FoundMatch) → slice_get kept.matches n ≡ Some m → (x b : ℕ) → slice_get kept.holders x ≡ Some (under n b) → b < length m.bindings
  binding_there m stands x b is =
      let within : x < length kept.matches = omega (arith, slice_get_within kept.holders x (under n b) is, known.held.counted) in
      let at = stands_at kept.matches x within in
      let by = known.held.held x at.0 (under n b) at.1 is in
      let same : by.nearest ≡ m = same_Some by.nearest m (sym by.stands ∙ stands) in
      subst (λ (m : FoundMatch). b < length m.bindings) same (slice_get_within by.nearest.bindings b by.under.binding by.under.is)

  are_held_by : (m : FoundMatch) (order : List ℕ) → slice_get kept.matches n ≡ Some m → AreByStart kept.workspace m order → AreHeldBy kept n (flat_map (places_in lists n) order)
  are_held_by m order stands by_start = record {
    none = λ x out. in_no_binding x order out;
    one = λ x h is same.
        let at : slice_get kept.holders x ≡ Some (under n h.binding) = is ∙ ap (λ (n : ℕ). Some (under n h.binding)) same in
        in_binding x h.binding order at
        ∙ times_once h.binding order (order_differ kept m order (match_at kept n m known stands) by_start) ((by_start.each h.binding).1 (binding_there m stands x h.binding at));
  }

-- ** What is shown alone.

shown_append : (kept : Kept) (ns ms : List ℕ) (vs ws : List Match) → ShowAlone kept ns vs → ShowAlone kept ms ws → ShowAlone kept (ns ++ ms) (vs ++ ws)
shown_append kept _ ms _ ws flattened.none other = other
shown_append kept _ ms _ ws (flattened.one n ns m v vs is parts none rest) other =
    flattened.one n (ns ++ ms) m v (vs ++ ws) is parts none (shown_append kept ns ms vs ws rest other)

alone_has : (w : Workspace) (m : FoundMatch) (v alone : Match) → HasParts w m v → IsAlone v alone → HasParts w m alone
alone_has w m v alone parts is = record {
  rule = is.rule ∙ parts.rule;
  node = is.node ∙ parts.node;
  range = subst (λ (r : FileRange). ComesFrom w (original_range (trees w) m.node) (file_span_of r)) (sym is.range) parts.range;
  text = subst (λ (t : List ℕ). IsSomeAnd (tree_of w m.node.tree) (λ syntax. t ≡ node_text (code_node syntax m.node.node.0))) (sym is.text) parts.text;
  comments = ap (map file_span_of) is.comments ∙ parts.comments;
  comments_in_file = subst (All (λ range. LiesInFile w (file_span_of range))) (sym is.comments) parts.comments_in_file;
}

-- what shows the kept ones of these places, flattened, shows those of places that are flattened likewise
record IsFlat (kept : Kept) (ns : List ℕ) (flat : List Match) : Type 0 where
  places : List ℕ
  flattens : FlattensPlaces kept ns places
  shown : ShowAlone kept places flat

-- a match shows a kept one, and what stands in it those that this one holds
record IsOver (rules : List ResolvedRule) (kept : Kept) (lists : Listing) (n : ℕ) (v : Match) : Type 0 where
  m : FoundMatch
  stands : slice_get kept.matches n ≡ Some m
  parts : HasParts kept.workspace m v
  held : List ℕ
  are_held : AreHeldBy kept n held
  shown : Show rules kept lists held (inside v)

module _ (rules : List ResolvedRule) (kept : Kept) (lists : Listing) (known : IsKept kept) (are_lists : AreLists kept lists) where
  over : (n : ℕ) (v : Match) → Shows rules kept lists n v → IsOver rules kept lists n v
  over _ _ (nesting.at n m order v is parts by_start bindings) = record {
    m = m;
    stands = is;
    parts = parts;
    held = flat_map (places_in lists n) order;
    are_held = are_held_by kept lists known are_lists n m order is by_start;
    shown = bindings_shown rules kept lists n m order (placeholders_of v) bindings;
  }

  flat_of : (ns : List ℕ) (vs flat : List Match) → Show rules kept lists ns vs → Flattens vs flat → IsFlat kept ns flat
  flat_of _ _ _ nesting.none flattened.nothing = record { places = []; flattens = nothing; shown = flattened.none }
  flat_of _ _ _ (nesting.next n ns v vs first others) (flattened.next _ alone _ inner rest within is_alone behind) =
      let top = over n v first in
      let front = flat_of top.held (inside v) inner top.shown within in
      let back = flat_of ns vs rest others behind in
      record {
        places = front.places ++ n ∷ back.places;
        flattens = next n top.held ns front.places back.places top.are_held front.flattens back.flattens;
        shown =
            shown_append kept front.places (n ∷ back.places) inner (alone ∷ rest) front.shown
            (flattened.one n back.places top.m alone rest top.stands (alone_has kept.workspace top.m v alone top.parts is_alone) is_alone.none_inside back.shown);
      }

  by_holder : (places : List ℕ) → FlattensPlaces kept (listed lists None) places → (x : ℕ) → ((h : Holder) → h.place < x → times h.place places ≡ 1)
      → (holder : Option Holder) → slice_get kept.holders x ≡ Some holder → times x places ≡ 1
  by_holder places flat x earlier None is =
      times_outermost kept (listed lists None) places flat x is
      ∙ times_once x (listed lists None) (once kept lists are_lists None) ((lists_what_is_held kept known lists None x are_lists).1 is)
  by_holder places flat x earlier (Some h) is =
      let top = earlier h (before kept known x h is) in
      let here = times_none x (listed lists None)
      (λ in_list. absurd (let wrong = same_Some None (Some h) (sym (of_holder kept lists known are_lists None x in_list) ∙ is) in cc)) in
      omega (arith, times_held kept (listed lists None) places flat x h is)

  each_time : (places : List ℕ) → FlattensPlaces kept (listed lists None) places → (bound x : ℕ) → x < bound → x < length kept.matches → times x places ≡ 1
  each_time places flat zero x below within = absurd (omega arith)
  each_time places flat (suc bound) x below within =
      let at = stands_at kept.holders x (omega (arith, known.held.counted)) in
      by_holder places flat x (λ h earlier. each_time places flat bound h.place (omega arith) (omega arith)) at.0 at.1

pub each_once : (finder : Finder) (answer flat : List Match) → ShowKept finder answer → Flattens answer flat → ShowEachOnce finder flat
unfolding times
each_once finder answer flat show flattens =
    let kept = show.0 in
    let lists = show.1 in
    let outcome = show.2 in
    let all = flat_of finder.rules kept lists outcome.is_kept outcome.are_lists (listed lists None) answer flat show.3 flattens in
    record {
      kept = kept;
      lists = lists;
      outcome = outcome;
      places = all.places;
      once = λ n less. each_time finder.rules kept lists outcome.is_kept outcome.are_lists all.places all.flattens (suc n) n (omega arith) less;
      shown = all.shown;
    }

-- Without expansions no two matches of one list clash: neither is over the other, so they stand in two files, or one behind the
-- other.
use Rattle.std.proofs.Common.{◌≡◌, ◌≢◌, ℕ, ◌+◌, ◌<◌, ◌≤◌, ◌==◌, ◌||◌, ◌⊎◌, inl, inr, Bool, true, false, not, List, [], ◌∷◌, ◌++◌, length, map, reverse, get_or, Option, Some, None, All, AllPairs, refl, sym, ◌∙◌, ap, subst, arith}
use Rattle.std.specs.Prelude.{Contains, flat_map, if◌then◌else◌, max, min, nat_lt, slice_get, unwrap_or}
use Rattle.std.specs.List.{AllByRecursion, enumerate_from}
use Rattle.std.specs.Option.{IsSomeAnd, option_map, option_map_or}
use Rattle.std.proofs.lemmas.Bool.{and_parts, cases_eq, cases_lt, cases_order, eqb-true, false_from_ne_true, ltb-true}
use Rattle.std.proofs.lemmas.Bool.Decides.{nat_tests}
use Rattle.std.proofs.lemmas.List.Elements.{All-append, All-contains, All-map, recursion_from_All}
use Rattle.std.proofs.lemmas.List.Sorted.{All-permutation, IsPermutation-reverse}
use Rattle.std.proofs.lemmas.Option.{same_Some, slice_get-get_or}
use Rattle.ssr_syntax_tree.specs.Syntax.{Syntax}
use Rattle.ssr_syntax_tree.specs.Places.{HasNode, Node, end_of, node_of, size_of, start_of}
use Rattle.ssr_syntax_tree.proofs.Shared.{ranges_apart}
use Rattle.ssr_base_trees.specs.declared.ids.NodeId.{NodeId}
use Rattle.ssr_base_trees.specs.Origins.{Span, covered}
use Rattle.ssr_base_trees.specs.Built.{CallsAreEarlier, IsNodeOf}
use Rattle.ssr_base_trees.specs.Workspace.{Expanded, FileSpan, PlacedTree, Workspace, cover_below, file_of, of_expansion, of_file, original, original_in, original_range, own_span, with_number, trees}
use Rattle.ssr_base_trees.proofs.Shared.{told_is}
use Rattle.ide_ssr_bindings.specs.Found.{FoundMatch, IsMatch}
use Rattle.ide_ssr_nesting.specs.declared.holders.Holder.{Holder}
use Rattle.ide_ssr_nesting.specs.Kept.{ComesBefore, IsOver}
use Rattle.ide_ssr_nesting.specs.Holding.{IsHeld, IsKept, Kept}
use Rattle.ide_ssr_nesting.specs.Lists.{AreLists, Listing, listed, range_of}
use Rattle.ssr_syntax_tree.proofs.Lists.{contains_at, pairs_at, pairs_head, pairs_tail}
use Rattle.ide_ssr_nesting.proofs.Shared.{below_is_between, in_one_tree, not_over_itself, one_way, over_before}
use Rattle.ide_ssr_rewriting.specs.Clashes.{Clash, Rewrite, clashes, is_clash, same_range, differ, share_byte}
use Rattle.ide_ssr_rewriting.specs.Edits.{Texts, all_clashes, clashes_under, list_at, list_under, nowhere, range_at}
use Rattle.ide_ssr_rewriting.specs.Private.Nest.{IsList}
use Rattle.ide_ssr_rewriting.proofs.FirstClashes.{clashes_none}
use Rattle.ide_ssr_rewriting.proofs.Nests.{is_nest}

-- ** Trees of files alone.

abbrev IsFile : PlacedTree → Type 0
IsFile p = p.call ≡ None

files_alone : (w : Workspace) → w.expansions ≡ [] → AllByRecursion IsFile (trees w)
unfolding trees
files_alone w none =
    let all = map of_file w.files ++ map of_expansion w.expansions in
    recursion_from_All IsFile (reverse all)
    (All-permutation IsFile all (reverse all) (IsPermutation-reverse all)
    (All-append IsFile (map of_file w.files) (map of_expansion w.expansions)
    (All-map IsFile of_file w.files (λ i d within. refl))
    (subst (λ (es : List Expanded). All IsFile (map of_expansion es)) (sym none) (λ i d within. absurd (omega arith)))))

top_itself : (ts : List PlacedTree) → AllByRecursion IsFile ts → (t : ℕ) → file_of ts t ≡ t
top_itself [] files t = refl
top_itself (p ∷ earlier) files t = by (t == length earlier) (top_itself earlier files.1 t)
  where
    by : (b : Bool) → file_of earlier t ≡ t → ◌≡◌ {A = ℕ} (if b then option_map_or (λ call. file_of earlier call.tree) p.call t else file_of earlier t) t
    by true rest = ap (λ (call : Option NodeId). option_map_or (λ call. file_of earlier call.tree) call t) files.0
    by false rest = rest

placed_file : (ts : List PlacedTree) → AllByRecursion IsFile ts → (t : ℕ) (p : PlacedTree) → with_number ts t ≡ Some p → IsFile p
placed_file [] files t p is = absurd (cc is)
placed_file (q ∷ earlier) files t p is = by (t == length earlier) (placed_file earlier files.1 t p) is
  where
    by : (b : Bool) → (with_number earlier t ≡ Some p → IsFile p) → ◌≡◌ {A = Option PlacedTree} (if b then Some q else with_number earlier t) (Some p) → IsFile p
    by true rest here = subst IsFile (same_Some q p here) files.0
    by false rest later = rest later

-- where a node of a file comes from
abbrev own_range : Syntax → NodeId → FileSpan
own_range syntax x = record { file = x.tree; span = own_span syntax (node_of syntax x.node.0) }

record IsOfFile (ts : List PlacedTree) (x : NodeId) : Type 0 where
  syntax : Syntax
  is : option_map (λ p. p.syntax) (with_number ts x.tree) ≡ Some syntax
  has : HasNode syntax x.node.0
  range : original_range ts x ≡ Some (own_range syntax x)

of_a_file : (ts : List PlacedTree) → AllByRecursion IsFile ts → (x : NodeId) → IsNodeOf ts x → IsOfFile ts x
of_a_file ts files x node = at (with_number ts x.tree) refl node
  where
    own : (p : PlacedTree) (node : Node) → IsFile p → original_in p node ≡ Some (own_span p.syntax node)
    own p node file =
        ap (λ (call : Option NodeId). option_map_or (λ call. covered (cover_below p.origins node)) call (Some (own_span p.syntax node))) file

    at : (o : Option PlacedTree) → with_number ts x.tree ≡ o → IsSomeAnd o (λ p. HasNode p.syntax x.node.0) → IsOfFile ts x
    at None is has = absurd has
    at (Some p) is has =
        let inner : Node = node_of p.syntax x.node.0 in
        let span : original ts x ≡ Some (own_span p.syntax inner) =
        told_is (λ p. original_in p (node_of p.syntax x.node.0)) ts x p is has ∙ own p inner (placed_file ts files x.tree p is) in
        record {
          syntax = p.syntax;
          is = ap (option_map (λ (p : PlacedTree). p.syntax)) is;
          has = has;
          range = ap (option_map (λ (span : Span). record { file = file_of ts x.tree; span = span })) span
              ∙ ap (λ (file : ℕ). Some (record { file = file; span = own_span p.syntax inner })) (top_itself ts files x.tree);
        }

-- ** Bytes apart.

-- they lie in two files, or the second one begins behind the first
abbrev AreApart : FileSpan → FileSpan → Type 0
AreApart a b = (a.file ≢ b.file) ⊎ (a.span.end ≤ b.span.start)

no_byte : (a b : FileSpan) → AreApart a b ⊎ AreApart b a → share_byte a b ≡ true → ⊥
no_byte a b apart share =
    let parts = and_parts (a.file == b.file) (nat_lt (max a.span.start b.span.start) (min a.span.end b.span.end)) share in
    let same : a.file ≡ b.file = eqb-true a.file b.file parts.0 in
    let less = ltb-true (max a.span.start b.span.start) (min a.span.end b.span.end) parts.1 in
    elim apart [
      | inl (inl other) ↦ other same
      | inl (inr behind) ↦ none a.span.start a.span.end b.span.start b.span.end (inl behind) less
      | inr (inl other) ↦ other (sym same)
      | inr (inr behind) ↦ none a.span.start a.span.end b.span.start b.span.end (inr behind) less
    ]
  where
    none : (a b c d : ℕ) → (b ≤ c) ⊎ (d ≤ a) → max a c < min b d → ⊥
    none a b c d (inl behind) less = grind (arith, nat_tests)
    none a b c d (inr behind) less = grind (arith, nat_tests)

module _ (ts : List PlacedTree) (grown : CallsAreEarlier ts) (files : AllByRecursion IsFile ts) where
  -- of two matches of which the first isn't over the second
  apart : (k m : FoundMatch) → IsNodeOf ts k.node → IsNodeOf ts m.node → ComesBefore ts k m → (IsOver ts k m → ⊥)
      → AreApart (range_of ts k) (range_of ts m)
  apart k m k_in m_in (inr same) not = absurd (not (inr same))
  apart k m k_in m_in (inl before) not =
      let of_k = of_a_file ts files k.node k_in in
      let of_m = of_a_file ts files m.node m_in in
      subst (λ (r : FileSpan). AreApart r (range_of ts m)) (ap (λ (o : Option FileSpan). unwrap_or o nowhere) (sym of_k.range))
      (subst (AreApart (own_range of_k.syntax k.node)) (ap (λ (o : Option FileSpan). unwrap_or o nowhere) (sym of_m.range))
      (elim (cases_eq k.node.tree m.node.tree) [
        | inr other ↦ inl other
        | inl same ↦
            let tree : of_k.syntax ≡ of_m.syntax =
            same_Some of_k.syntax of_m.syntax (sym of_k.is ∙ (ap (λ t. option_map (λ (p : PlacedTree). p.syntax) (with_number ts t)) same ∙ of_m.is)) in
            let lie = in_one_tree ts of_k.syntax k.node m.node grown of_k.is same k_in m_in in
            inr (subst (λ (s : Syntax). end_of of_k.syntax (node_of of_k.syntax k.node.node.0) ≤ start_of s (node_of s m.node.node.0)) tree
            (ranges_apart of_k.syntax k.node.node.0 m.node.node.0 of_k.has (subst (λ (s : Syntax). HasNode s m.node.node.0) (sym tree) of_m.has)
            (elim (cases_lt m.node.node.0 (k.node.node.0 + size_of (node_of of_k.syntax k.node.node.0))) [
              | inl within ↦ absurd (not (inl ((below_is_between ts grown k.node m.node k_in m_in).1 (before, lie.within within))))
              | inr behind ↦ behind
            ])))
      ]))

-- ** The matches of one list.

module _ (kept : Kept) (is : IsKept kept) where
  abbrev all_trees : List PlacedTree
  all_trees = trees kept.workspace

  -- what one holder holds isn't over one another
  beside : (k m : FoundMatch) (holder : Option Holder) → Contains kept.matches k → IsHeld all_trees kept.matches k holder → IsHeld all_trees kept.matches m holder → IsOver all_trees k m → ⊥
  beside k m None here of_k of_m over = of_m k here over
  beside k m (Some holder) here of_k of_m over =
      let grown = is.built.grown in
      let same : of_m.nearest ≡ of_k.nearest = same_Some of_m.nearest of_k.nearest (sym of_m.stands ∙ of_k.stands) in
      let above = of_k.is_nearest.over in
      elim (of_m.is_nearest.others k here over) [
        | inl at ↦ not_over_itself all_trees grown k (subst (λ (n : FoundMatch). IsOver all_trees n k) (sym (at ∙ same)) above)
        | inr below ↦ one_way all_trees k of_k.nearest
            (over_before all_trees grown k of_k.nearest (subst (λ (n : FoundMatch). IsOver all_trees k n) same below))
            (over_before all_trees grown of_k.nearest k above)
      ]

  module _ (files : AllByRecursion IsFile all_trees) (holder : Option Holder) where
    -- of two of one list, the one that comes first
    first_apart : (i j : ℕ) (k m : FoundMatch) → i < j → slice_get kept.matches i ≡ Some k → slice_get kept.matches j ≡ Some m
        → slice_get kept.holders i ≡ Some holder → slice_get kept.holders j ≡ Some holder → AreApart (range_of all_trees k) (range_of all_trees m)
    first_apart i j k m less k_at m_at k_held m_held =
        let here = contains_at kept.matches i k k_at in
        apart all_trees is.built.grown files k m
        (All-contains (IsMatch all_trees) kept.matches k is.held.each here).node
        (All-contains (IsMatch all_trees) kept.matches m is.held.each (contains_at kept.matches j m m_at)).node
        (pairs_at (ComesBefore all_trees) kept.matches i j k m is.held.in_order less k_at m_at)
        (beside k m holder here (is.held.held i k holder k_at k_held) (is.held.held j m holder m_at m_held))

    places_apart : (i j : ℕ) → i < j → i < length kept.matches → j < length kept.matches → slice_get kept.holders i ≡ Some holder → slice_get kept.holders j ≡ Some holder
        → AreApart (range_at kept i) (range_at kept j)
    places_apart i j less i_in j_in i_held j_held =
        let nobody : FoundMatch = record { rule = 0; node = record { tree = 0; node = record { 0 = 0 } }; bindings = [] } in
        let k : FoundMatch = get_or kept.matches i nobody in
        let m : FoundMatch = get_or kept.matches j nobody in
        let k_at = slice_get-get_or kept.matches i nobody i_in in
        let m_at = slice_get-get_or kept.matches j nobody j_in in
        let told : Option FoundMatch → FileSpan = λ o. option_map_or (range_of all_trees) o nowhere in
        subst (λ (r : FileSpan). AreApart r (range_at kept j)) (sym (ap told k_at))
        (subst (AreApart (range_of all_trees k)) (sym (ap told m_at)) (first_apart i j k m less k_at m_at i_held j_held))

    none_clash : (texts : Texts) (places : List ℕ) → IsList kept holder places
        → AllPairs (λ i j. is_clash (record { range = range_at kept i; text = texts i }) (record { range = range_at kept j; text = texts j }) ≡ false) places
    unfolding is_clash
    none_clash texts places list a b d less within =
        let i : ℕ = get_or places a d in
        let j : ℕ = get_or places b d in
        let i_in = list.within a d (omega arith) in
        let j_in = list.within b d within in
        let i_held = list.held a d (omega arith) in
        let j_held = list.held b d within in
        false_from_ne_true _ (λ clash.
        no_byte (range_at kept i) (range_at kept j)
        (elim (cases_order i j) [
          | inl same ↦ absurd (list.once a b d less within same)
          | inr (inl first) ↦ inl (places_apart i j first i_in j_in i_held j_held)
          | inr (inr first) ↦ inr (places_apart j i first j_in i_in j_held i_held)
        ])
        (and_parts (share_byte (range_at kept i) (range_at kept j)) (not (same_range (range_at kept i) (range_at kept j)) || differ (texts i) (texts j)) clash).0)

-- ** All lists.

-- no two matches of one list clash, whatever stands for them
abbrev pub NoClash : Kept → Listing → Type 0
NoClash kept lists = (texts : Texts) → all_clashes kept lists texts ≡ []

no_clashes : {X : Type 0} (stands : X → Rewrite) (xs : List X) → AllPairs (λ x y. is_clash (stands x) (stands y) ≡ false) xs → clashes (map stands xs) ≡ []
no_clashes stands [] pairs = refl
no_clashes stands (x ∷ xs) pairs =
    ap (λ (cs : List Clash). cs ++ clashes (map stands xs))
    (clashes_none (stands x) (map stands xs)
    (All-map (λ s. is_clash (stands x) s ≡ false) stands xs (pairs_head (λ x y. is_clash (stands x) (stands y) ≡ false) x xs pairs)))
    ∙ no_clashes stands xs (pairs_tail (λ x y. is_clash (stands x) (stands y) ≡ false) x xs pairs)

nothing_each : {X Y : Type 0} (f : X → List Y) → ((x : X) → f x ≡ []) → (xs : List X) → flat_map f xs ≡ []
nothing_each f none [] = refl
nothing_each f none (x ∷ xs) = ap (λ ys. ys ++ flat_map f xs) (none x) ∙ nothing_each f none xs

pub no_clash : (kept : Kept) (lists : Listing) → IsKept kept → AreLists kept lists → kept.workspace.expansions ≡ [] → NoClash kept lists
no_clash kept lists is are none texts =
    let in_list : (holder : Option Holder) → clashes (list_at kept texts (listed lists holder)) ≡ [] =
    λ holder. no_clashes (λ n. record { range = range_at kept n; text = texts n }) (listed lists holder)
    (none_clash kept is (files_alone kept.workspace none) holder texts (listed lists holder) ((is_nest kept lists is are).lists holder)) in
    ap (λ (cs : List Clash). cs ++ flat_map (λ p. clashes_under p.1 (list_under kept lists texts p.0)) (enumerate_from 0 kept.matches)) (in_list None)
    ∙ nothing_each (λ (p : ℕ × FoundMatch). clashes_under p.1 (list_under kept lists texts p.0))
    (λ p. nothing_each (λ q. clashes (list_under kept lists texts p.0 q.0)) (λ q. in_list (Some (record { place = p.0; binding = q.0 }))) (enumerate_from 0 p.1.bindings))
    (enumerate_from 0 kept.matches)

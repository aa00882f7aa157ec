-- Matches that are placed: where they lie, and that in a file each does.
use Rattle.std.proofs.Common.{◌≡◌, ℕ, ◌+◌, ◌<◌, length, refl, inl, inr, List, get_or, AllPairs, Bool, true, false, Option, Some, None, sym, ap, ◌∙◌, subst, arith}
use Rattle.std.specs.Prelude.{◌↔◌, take, drop, is_some, IsSome, slice_get, if◌then◌else◌, IsTrue, IfNone, IfSome, MatchOption}
use Rattle.std.specs.Option.{IsSomeAnd, option_and_then, option_map, option_map_or}
use Rattle.std.proofs.lemmas.List.Elements.{All-weaker}
use Rattle.std.proofs.lemmas.Option.{none-some, same_Some}
use Rattle.ssr_syntax_tree.specs.Syntax.{Syntax}
use Rattle.ssr_syntax_tree.specs.Places.{node_of, root_of}
use Rattle.ssr_syntax_tree.proofs.Shared.{offset_grows}
use Rattle.ssr_base_trees.specs.declared.ids.FileRange.{FileRange}
use Rattle.ssr_base_trees.specs.declared.ids.NodeId.{NodeId}
use Rattle.ssr_base_trees.specs.Meanings.{Meanings}
use Rattle.ssr_base_trees.specs.Origins.{Span, cover_of, covered}
use Rattle.ssr_base_trees.specs.Workspace.{Workspace, PlacedTree, FileSpan, trees, of_file, with_number, tree_of, node_id, file_of, original_in, own_span, original_range, original_run_in, own_run_span, has_run, file_span_of, cover_below}
use Rattle.ssr_base_trees.specs.Laws.{LiesIn}
use Rattle.ide_ssr_resolved_rule.specs.Resolved.{ResolvedRule}
use Rattle.ide_ssr_bindings.specs.declared.bindings.Binding.{Binding}
use Rattle.ide_ssr_bindings.specs.declared.bindings.Held.{Held}
use Rattle.ide_ssr_bindings.specs.declared.bindings.Held.TheVariants as held
use Rattle.ide_ssr_bindings.specs.Apart.{tokens_held, HasHeld, IsHeldIn, AreApart}
use Rattle.ide_ssr_matching.specs.Bindings.{bindings_of}
use Rattle.ide_ssr_bindings.specs.Found.{range_of_held, held_range, AreDisjoint, ShareNoByte}
use Rattle.ide_ssr_matching.specs.Matching.{Matches}
use Rattle.ide_ssr_matching.proofs.Shared.{bindings_of-Matches, Matches-bindings_of, held_in, held_apart}
use Rattle.ide_ssr_bindings.proofs.Shared.{is_tree, of_tree, in_tree}
use Rattle.ide_ssr_search.specs.declared.bounds.Bounds.{Bounds}
use Rattle.ide_ssr_search.specs.declared.bounds.Bounds.TheVariants as limits
use Rattle.ide_ssr_search.specs.Permitted.{arguments_range}
use Rattle.ide_ssr_search.specs.Printing.{CanBeWritten}
use Rattle.ide_ssr_search.specs.WholeMatches.{LiesInArguments, IsPlaced, IsWholeMatch, TellsWhole}
use Rattle.ide_ssr_search.specs.Private.Bounds.{AreBoundsOf, AreBounds, LiesInBounds}
use Rattle.ide_ssr_search.specs.Private.Whole.{AreRanges, IsPlacedMatch, IsMatched}
use Rattle.ide_ssr_search.proofs.Apart.{Disjoint, ranges_placed, ranges_apart, ranges_disjoint}
use Rattle.ssr_base_trees.proofs.Shared.{some_and, and_some, told_is, placed-file, tree_of_file}

-- ** Bounds.

bounds_hold : (ts : List PlacedTree) (call : Option NodeId) (bounds : Bounds) (range : FileSpan)
    → MatchOption call (bounds ≡ limits.Everywhere) (λ call. AreBoundsOf (arguments_range ts call) bounds)
    → LiesInBounds bounds range ↔ IfSome call (λ call. IsSomeAnd (arguments_range ts call) (LiesIn range))
bounds_hold ts None bounds range are = (λ lies. tt, λ lies. subst (λ b. LiesInBounds b range) (sym are) tt)
bounds_hold ts (Some call) limits.Everywhere range are = absurd are
bounds_hold ts (Some call) (limits.Within within) range are = (
  λ lies. and_some (arguments_range ts call) (LiesIn range) (file_span_of within) are lies,
  λ lies. let had = some_and (arguments_range ts call) (LiesIn range) lies in
      subst (LiesIn range) (same_Some had.0 (file_span_of within) (sym had.1 ∙ are)) had.2,
)
bounds_hold ts (Some call) limits.Nowhere range are = (
  λ lies. absurd lies,
  λ lies. let had = some_and (arguments_range ts call) (LiesIn range) lies in none-some had.0 (sym are ∙ had.1),
)

-- the bounds of a tree hold what lies in the arguments of its call
pub in_bounds : (ts : List PlacedTree) (t : ℕ) (bounds : Bounds) (range : FileSpan) → AreBounds ts t bounds → LiesInBounds bounds range ↔ LiesInArguments ts t range
in_bounds ts t bounds range are =
    let Known : PlacedTree → Type 0 = λ p. MatchOption p.call (bounds ≡ limits.Everywhere) (λ call. AreBoundsOf (arguments_range ts call) bounds) in
    let Lies : PlacedTree → Type 0 = λ p. IfSome p.call (λ call. IsSomeAnd (arguments_range ts call) (LiesIn range)) in
    let had = some_and (with_number ts t) Known are in
    let both = bounds_hold ts had.0.call bounds range had.2 in (
      λ lies. and_some (with_number ts t) Lies had.0 had.1 (both.0 lies),
      λ lies. let other = some_and (with_number ts t) Lies lies in
          both.1 (subst Lies (same_Some other.0 had.0 (sym other.1 ∙ had.1)) other.2),
    )

-- in a file matches lie anywhere
pub file_bounds : (w : Workspace) (t : ℕ) → t < length w.files → IsSome (tree_of w t) → AreBounds (trees w) t limits.Everywhere
file_bounds w t within some =
    subst (λ o. IsSomeAnd o (λ p. MatchOption p.call (limits.Everywhere ≡ limits.Everywhere) (λ call. AreBoundsOf (arguments_range (trees w) call) limits.Everywhere)))
    (sym (placed-file w t within)) (at (slice_get w.files t) (subst IsSome (tree_of_file w t within) some))
  where
    at : (o : Option Syntax) → IsSome o
        → IsSomeAnd (option_map of_file o) (λ p. MatchOption p.call (limits.Everywhere ≡ limits.Everywhere) (λ call. AreBoundsOf (arguments_range (trees w) call) limits.Everywhere))
    at None none = let e : false ≡ true = none in cc
    at (Some s) some = refl

-- a range that is there lies in the bounds of a tree exactly if it is placed
pub placed_by : (ts : List PlacedTree) (t : ℕ) (bounds : Bounds) (o : Option FileSpan) → AreBounds ts t bounds → IsSomeAnd o (LiesInBounds bounds) ↔ IsPlaced ts t o
placed_by ts t bounds None are = (λ lies. lies, λ placed. placed)
placed_by ts t bounds (Some range) are = in_bounds ts t bounds range are

-- what is told of a range
pub placed_told : (bounds : Bounds) (range placed : Option FileRange) → IfSome placed (λ p. range ≡ Some p) → IfSome placed (λ p. LiesInBounds bounds (file_span_of p))
    → is_some placed ≡ true → IsSomeAnd (option_map file_span_of range) (LiesInBounds bounds)
placed_told bounds range None of lies is = let e : false ≡ true = is in cc
placed_told bounds range (Some p) of lies is = subst (λ o. IsSomeAnd (option_map file_span_of o) (LiesInBounds bounds)) (sym of) lies

pub none_told : {P : Type 0} (placed : Option FileRange) → IfNone placed (P → ⊥) → is_some placed ≡ false → P → ⊥
none_told None known is = known
none_told (Some p) known is = let e : true ≡ false = is in cc

-- what is tested of a match in an expansion
pub placed_match : (ts : List PlacedTree) (x : NodeId) (bindings : List Binding) (ranges tested : List FileRange) (apart : Bool) → IsPlaced ts x.tree (original_range ts x) → AreRanges ts x.tree bindings ranges
    → tested ≡ ranges → IsTrue apart ↔ AllPairs Disjoint tested → IsTrue apart ↔ IsPlacedMatch ts x bindings
placed_match ts x bindings ranges tested apart placed are same known =
    let both = subst (λ rs. IsTrue apart ↔ AllPairs Disjoint rs) same known in (
      λ is. record {
        placed = placed;
        bindings_placed = ranges_placed ts x.tree bindings ranges are;
        apart = ranges_apart ts x.tree bindings ranges are (both.0 is);
      },
      λ is. both.1 (ranges_disjoint ts x.tree bindings ranges are is.apart),
    )

-- ** In a file.

module _ (ts : List PlacedTree) (t : ℕ) (p : PlacedTree) (plants : with_number ts t ≡ Some p) (uncalled : p.call ≡ None) where
  abbrev in_this_file : Span → FileSpan
  in_this_file span = record { file = file_of ts t; span = span }

  abbrev own : Held → FileSpan
  own h = in_this_file (own_run_span p.syntax (tokens_held p.syntax h))

  -- what is held there has its own range
  own_range : (h : Held) → HasHeld p.syntax h → range_of_held ts t h ≡ Some (own h)
  own_range (held.Node node) has =
      ap (option_map in_this_file)
      (told_is (λ p. original_in p (node_of p.syntax node.0)) ts (node_id t node.0) p plants has
      ∙ ap (λ call. option_map_or (λ _. covered (cover_below p.origins (node_of p.syntax node.0))) call (Some (own_span p.syntax (node_of p.syntax node.0)))) uncalled)
  own_range (held.Tokens run) has =
      ap (option_map in_this_file)
      (ap (option_and_then (λ p. if has_run p.syntax run then original_run_in p run else None)) plants
      ∙ ap (λ b. if b then original_run_in p run else None) has
      ∙ ap (λ call. option_map_or (λ _. covered (cover_of (take run.count (drop run.first p.origins)))) call (Some (own_run_span p.syntax run))) uncalled)

  placed_in_file : (h : Held) → HasHeld p.syntax h → IsPlaced ts t (range_of_held ts t h)
  placed_in_file h has =
      and_some (range_of_held ts t h) (LiesInArguments ts t) (own h) (own_range h has)
      (and_some (with_number ts t) (λ p. IfSome p.call (λ call. IsSomeAnd (arguments_range ts call) (LiesIn (own h)))) p plants
      (subst (λ call. IfSome call (λ call. IsSomeAnd (arguments_range ts call) (LiesIn (own h)))) (sym uncalled) tt))

  own_apart : (a b : Binding) → AreApart p.syntax a b → AreDisjoint (own a.held) (own b.held)
  own_apart a b (inl before) =
      let one = tokens_held p.syntax a.held in
      let other = tokens_held p.syntax b.held in
      let between = offset_grows p.syntax (one.first + one.count) other.first before in
      omega arith
  own_apart a b (inr behind) =
      let one = tokens_held p.syntax a.held in
      let other = tokens_held p.syntax b.held in
      let between = offset_grows p.syntax (other.first + other.count) one.first behind in
      omega arith

  apart_in_file : (a b : Binding) → HasHeld p.syntax a.held → HasHeld p.syntax b.held → AreApart p.syntax a b → ShareNoByte ts t a b
  apart_in_file a b has_a has_b apart r s first second =
      subst (λ (r : FileSpan). AreDisjoint r s) (same_Some (own a.held) r (sym (own_range a.held has_a) ∙ first))
      (subst (AreDisjoint (own a.held)) (same_Some (own b.held) s (sym (own_range b.held has_b) ∙ second)) (own_apart a b apart))

-- so what placeholders hold there is placed, and no two share a byte
pub file_placed : (ts : List PlacedTree) (x : NodeId) (bindings : List Binding) → AreBounds ts x.tree limits.Everywhere → IsMatched ts x bindings → IsPlacedMatch ts x bindings
file_placed ts x bindings are m =
    let p = m.tree in
    let t = x.tree in
    let n = x.node.0 in
    let had = some_and (with_number ts t) (λ p. MatchOption p.call (limits.Everywhere ≡ limits.Everywhere) (λ call. AreBoundsOf (arguments_range ts call) limits.Everywhere)) are in
    let uncalled : p.call ≡ None = no_call had.0.call p.call (ap (λ (p : PlacedTree). p.call) (same_Some had.0 p (sym had.1 ∙ m.is))) had.2 in
    let matches = bindings_of-Matches m.meanings t m.rule (root_of m.rule.pattern) (node_of p.syntax n) bindings m.matches in
    let bound = held_in p.syntax m.meanings t m.rule (root_of m.rule.pattern) n bindings m.has matches in
    let apart = held_apart p.syntax m.meanings t m.rule (root_of m.rule.pattern) n bindings m.has matches in
    record {
      placed = placed_in_file ts t p m.is uncalled (held.Node x.node) m.has;
      bindings_placed =
          All-weaker (IsHeldIn p.syntax (node_of p.syntax n)) (λ b. IsPlaced ts t (held_range ts t b)) (λ b known. placed_in_file ts t p m.is uncalled b.held known.has) bindings bound;
      apart = λ i j d before within.
          apart_in_file ts t p m.is uncalled (get_or bindings i d) (get_or bindings j d) (bound i d (omega arith)).has (bound j d within).has (apart i j d before within);
    }
  where
    no_call : (o call : Option NodeId) → o ≡ call → MatchOption o (limits.Everywhere ≡ limits.Everywhere) (λ call. AreBoundsOf (arguments_range ts call) limits.Everywhere) → call ≡ None
    no_call None call is known = sym is
    no_call (Some c) call is known = absurd known

-- ** Whole matches.

pub whole : (w : Workspace) (meanings : Meanings) (tree : Syntax) (rule : ResolvedRule) (x : NodeId) (bindings : List Binding) → tree_of w x.tree ≡ Some tree
    → Some bindings ≡ bindings_of meanings x.tree rule (root_of rule.pattern) (node_of tree x.node.0) → IsPlacedMatch (trees w) x bindings → CanBeWritten meanings rule x
    → IsWholeMatch (trees w) meanings rule x bindings
whole w meanings tree rule x bindings is found placed written =
    let at = is_tree w x.tree tree is in
    record {
      matches =
          of_tree (trees w) x.tree tree (λ s. Matches meanings x.tree rule (root_of rule.pattern) (node_of s x.node.0) bindings) at
          (bindings_of-Matches meanings x.tree rule (root_of rule.pattern) (node_of tree x.node.0) bindings (sym found));
      placed = placed.placed;
      bindings_placed = placed.bindings_placed;
      apart = placed.apart;
      written = written;
    }

-- a whole match binds what is computed
pub whole_binds : (w : Workspace) (meanings : Meanings) (tree : Syntax) (rule : ResolvedRule) (x : NodeId) (bindings : List Binding) → tree_of w x.tree ≡ Some tree
    → IsWholeMatch (trees w) meanings rule x bindings → bindings_of meanings x.tree rule (root_of rule.pattern) (node_of tree x.node.0) ≡ Some bindings
whole_binds w meanings tree rule x bindings is whole =
    Matches-bindings_of meanings x.tree rule (root_of rule.pattern) (node_of tree x.node.0) bindings
    (in_tree (trees w) x.tree tree (λ s. Matches meanings x.tree rule (root_of rule.pattern) (node_of s x.node.0) bindings) (is_tree w x.tree tree is) whole.matches)

pub not_matched : (w : Workspace) (meanings : Meanings) (tree : Syntax) (rule : ResolvedRule) (x : NodeId) → tree_of w x.tree ≡ Some tree
    → None ≡ bindings_of meanings x.tree rule (root_of rule.pattern) (node_of tree x.node.0) → TellsWhole (trees w) meanings rule x None
not_matched w meanings tree rule x is none bindings whole = none-some bindings (none ∙ whole_binds w meanings tree rule x bindings is whole)

pub not_placed : (w : Workspace) (meanings : Meanings) (tree : Syntax) (rule : ResolvedRule) (x : NodeId) (found : List Binding) → tree_of w x.tree ≡ Some tree
    → Some found ≡ bindings_of meanings x.tree rule (root_of rule.pattern) (node_of tree x.node.0) → (IsPlacedMatch (trees w) x found → ⊥) → TellsWhole (trees w) meanings rule x None
not_placed w meanings tree rule x found is matches out bindings whole =
    let same : bindings ≡ found = same_Some bindings found (sym (whole_binds w meanings tree rule x bindings is whole) ∙ sym matches) in
    out (subst (IsPlacedMatch (trees w) x) same (record { placed = whole.placed; bindings_placed = whole.bindings_placed; apart = whole.apart }))

pub not_written : (trees : List PlacedTree) (meanings : Meanings) (rule : ResolvedRule) (x : NodeId) → (CanBeWritten meanings rule x → ⊥) → TellsWhole trees meanings rule x None
not_written trees meanings rule x not bindings whole = not whole.written

-- What a search finds are matches, and it finds one list.
use Rattle.std.proofs.Common.{◌≡◌, ℕ, Bool, true, false, List, get_or, Option, Some, None, refl, sym, ap, ◌∙◌, inl, inr, arith}
use Rattle.std.specs.Prelude.{Contains, if◌then◌else◌}
use Rattle.std.specs.Option.{IsSomeAnd, option_and_then, option_map}
use Rattle.std.proofs.lemmas.List.Elements.{All-weaker, All-contains_itself}
use Rattle.std.proofs.lemmas.Option.{none-some, same_Some}
use Rattle.ssr_syntax_tree.specs.declared.number.NodeNo.{NodeNo}
use Rattle.ssr_syntax_tree.specs.Places.{HasNode, node_of, root_of}
use Rattle.ssr_syntax_tree.proofs.Lists.{same_rising}
use Rattle.ssr_base_trees.specs.Meanings.{Meanings}
use Rattle.ssr_base_trees.specs.Laws.{LiesIn, IsAmong}
use Rattle.ssr_base_trees.specs.Origins.{Span}
use Rattle.ssr_base_trees.specs.Workspace.{Workspace, PlacedTree, FileSpan, trees, with_number, node_id, file_of, has_node, original_in, original_range, run_of, has_run, original_run_in}
use Rattle.ssr_base_trees.proofs.Shared.{some_and, and_some, spans_nest}
use Rattle.ide_ssr_resolved_rule.specs.Resolved.{ResolvedRule}
use Rattle.ide_ssr_bindings.specs.declared.bindings.Binding.{Binding}
use Rattle.ide_ssr_bindings.specs.declared.bindings.Held.{Held}
use Rattle.ide_ssr_bindings.specs.declared.bindings.Held.TheVariants as held
use Rattle.ide_ssr_bindings.specs.Apart.{tokens_held, IsHeldIn}
use Rattle.ide_ssr_bindings.specs.Found.{FoundMatch, HasByte, IsInRange, IsMatch, AreMatches, range_of_held, held_range}
use Rattle.ide_ssr_matching.specs.Matching.{Matches}
use Rattle.ide_ssr_matching.proofs.Shared.{held_in}
use Rattle.ide_ssr_bindings.proofs.Shared.{IsTree, in_tree}
use Rattle.ide_ssr_search.specs.Context.{Context}
use Rattle.ide_ssr_search.specs.WholeMatches.{LiesInArguments, IsPlaced}
use Rattle.ide_ssr_search.specs.Found.{IsFound, Precedes, AreFound}
use Rattle.ide_ssr_search.proofs.Finding.{one_match}

-- ** What is held comes from where the match does.

module _ (ts : List PlacedTree) (t : ℕ) (p : PlacedTree) (plants : with_number ts t ≡ Some p) where
  abbrev in_file : Span → FileSpan
  in_file span = record { file = file_of ts t; span = span }

  told_if : (b : Bool) (o : Option Span) (range : FileSpan) → option_map in_file (if b then o else None) ≡ Some range → (o ≡ Some range.span) × (file_of ts t ≡ range.file)
  told_if true None range is = absurd (none-some range is)
  told_if true (Some span) range is =
      let same = same_Some (in_file span) range is in
      (ap (λ (r : FileSpan). Some r.span) same, ap (λ (r : FileSpan). r.file) same)
  told_if false o range is = absurd (none-some range is)

  held_told : (h : Held) (range : FileSpan) → range_of_held ts t h ≡ Some range → (original_run_in p (tokens_held p.syntax h) ≡ Some range.span) × (file_of ts t ≡ range.file)
  held_told (held.Node node) range is =
      told_if (has_node p.syntax node.0) (original_in p (node_of p.syntax node.0)) range
      (ap (λ o. option_map in_file (option_and_then (λ p. if has_node p.syntax node.0 then original_in p (node_of p.syntax node.0) else None) o)) (sym plants) ∙ is)
  held_told (held.Tokens run) range is =
      told_if (has_run p.syntax run) (original_run_in p run) range
      (ap (λ o. option_map in_file (option_and_then (λ p. if has_run p.syntax run then original_run_in p run else None) o)) (sym plants) ∙ is)

  held_lies : (h : Held) (node : NodeNo) (inner outer : FileSpan) → IsAmong (tokens_held p.syntax h) (run_of (node_of p.syntax node.0))
      → range_of_held ts t h ≡ Some inner → original_range ts (node_id t node.0) ≡ Some outer → LiesIn inner outer
  held_lies h node inner outer among first second =
      let lower = held_told h inner first in
      let upper = held_told (held.Node node) outer second in
      let spans = spans_nest p.syntax p.call p.origins (run_of (node_of p.syntax node.0)) (tokens_held p.syntax h) outer.span inner.span among upper.0 lower.0 in
      record { file = sym lower.1 ∙ upper.1; begins = spans.begins; ends = spans.ends }

  held_in_range : (node : NodeNo) (b : Binding) → IsHeldIn p.syntax (node_of p.syntax node.0) b → IsPlaced ts t (held_range ts t b)
      → IsSomeAnd (original_range ts (node_id t node.0)) HasByte → IsInRange ts (node_id t node.0) b
  held_in_range node b known placed there =
      let x = node_id t node.0 in
      let inner = some_and (held_range ts t b) (LiesInArguments ts t) placed in
      let outer = some_and (original_range ts x) HasByte there in
      and_some (held_range ts t b) (λ inner. IsSomeAnd (original_range ts x) (LiesIn inner)) inner.0 inner.1
      (and_some (original_range ts x) (LiesIn inner.0) outer.0 outer.1 (held_lies b.held node inner.0 outer.0 known.among inner.1 outer.1))

module _ (w : Workspace) (meanings : Meanings) (context : Context) (rules : List ResolvedRule) where
  is_match : (m : FoundMatch) → IsFound w meanings context rules m → IsMatch (trees w) m
  is_match m is =
      let ts = trees w in
      let t = m.node.tree in
      let n = m.node.node.0 in
      let rule = is.rule in
      let matched = some_and (with_number ts t) (λ p. Matches meanings t rule (root_of rule.pattern) (node_of p.syntax n) m.bindings) is.whole.matches in
      let s = matched.0.syntax in
      let at : IsTree ts t s = record { tree = matched.0; is = matched.1; same = refl } in
      let has = in_tree ts t s (λ s. HasNode s n) at is.permitted.open_to_all.node in
      record {
        node = is.permitted.open_to_all.node;
        range = is.permitted.open_to_all.has_byte;
        held = λ i d within.
            held_in_range ts t matched.0 matched.1 m.node.node (get_or m.bindings i d)
            (held_in s meanings t rule (root_of rule.pattern) n m.bindings has matched.2 i d within) (is.whole.bindings_placed i d within) is.permitted.open_to_all.has_byte;
        apart = is.whole.apart;
      }

  -- found matches are matches, in any order
  pub are_matches_of : (ms : List FoundMatch) → ((m : FoundMatch) → Contains ms m → IsFound w meanings context rules m) → AreMatches (trees w) ms
  are_matches_of ms are = record {
    each = All-weaker (Contains ms) (IsMatch (trees w)) (λ m at. is_match m (are m at)) ms (All-contains_itself ms);
    one = λ k m at_k at_m. one_match w meanings context rules k m (are k at_k) (are m at_m);
  }

  pub are_matches : (ms : List FoundMatch) → AreFound w meanings context rules ms → AreMatches (trees w) ms
  are_matches ms found = are_matches_of ms (λ m at. (found.are m).0 at)

  -- ** One list.

  one_way : (k m : FoundMatch) → Precedes k m → Precedes m k → ⊥
  one_way k m (inl less) (inl more) = omega arith
  one_way k m (inl less) (inr same) = omega (arith, same.0)
  one_way k m (inr same) (inl more) = omega (arith, same.0)
  one_way k m (inr same) (inr back) =
      elim same.1 [
        | inl less ↦ elim back.1 [ inl more ↦ omega arith | inr here ↦ omega (arith, here.0) ]
        | inr here ↦ elim back.1 [ inl more ↦ omega (arith, here.0) | inr there ↦ omega (arith, here.1, there.1) ]
      ]

  pub one_list : (ms ns : List FoundMatch) → AreFound w meanings context rules ms → AreFound w meanings context rules ns → ms ≡ ns
  one_list ms ns found again =
      same_rising Precedes one_way ms ns found.in_order again.in_order
      (λ m at. (again.are m).1 ((found.are m).0 at))
      (λ m at. (found.are m).1 ((again.are m).0 at))

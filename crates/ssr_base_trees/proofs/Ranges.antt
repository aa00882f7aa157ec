-- Original ranges: they lie in their file, between characters, and in one tree that of a node below another one lies in that one's.
use Rattle.std.proofs.Common.{◌≡◌, ℕ, zero, suc, ◌+◌, ◌-◌, ◌≤◌, ◌||◌, Bool, true, false, List, [], length, take, drop, slice_get, Option, Some, None, sym, ap, ◌∙◌, subst, inl, inr, arith, take-append-drop}
use Rattle.std.proofs.lemmas.Bool.{cases_lt, and_from, or_left, or_right, and_parts, lt-ltb, le-leb, leb-true}
use Rattle.std.proofs.lemmas.List.{get_or_past}
use Rattle.std.proofs.lemmas.List.Elements.{All-take, All-drop}
use Rattle.std.proofs.lemmas.Grind.{flat_map-append}
use Rattle.std.proofs.lemmas.Option.{option_and_then_some, same_Some}
use Rattle.std.proofs.lemmas.Str.{IsCharBoundary-at_seam}
use Rattle.std.specs.Prelude.{IsSome, is_some, nat_lt, nat_le, slice_index, slice_range, if◌then◌else◌, IsCharBoundary}
use Rattle.std.specs.List.{AllPass}
use Rattle.std.specs.Option.{option_and_then, option_map_or}
use Rattle.std.specs.Str.{IsUtf8}
use Rattle.ssr_syntax_tree.specs.Syntax.{Syntax, tokens_of, spelled, source_of}
use Rattle.ssr_syntax_tree.specs.Places.{Node, HasNode, node_of, offset_of}
use Rattle.ssr_syntax_tree.proofs.Lists.{all_at}
use Rattle.ssr_syntax_tree.proofs.Shared.{offset_grows, spelled-texts}
use Rattle.ssr_base_trees.specs.declared.ids.FileRange.{FileRange}
use Rattle.ssr_base_trees.specs.declared.ids.NodeId.{NodeId}
use Rattle.ssr_base_trees.specs.declared.ids.TokenRun.{TokenRun}
use Rattle.ssr_base_trees.specs.Origins.{Span, cover_of, covered, fits_origin}
use Rattle.ssr_base_trees.specs.Texts.{is_boundary, text_between}
use Rattle.ssr_base_trees.specs.Workspace.{Workspace, PlacedTree, FileSpan, trees, with_number, file_of, text_at_top, text_of, node_id, above_in, above, original_in, original, original_range, run_of, has_run, own_run_span, original_run_in, original_run, run_range, file_span_of}
use Rattle.ssr_base_trees.specs.Built.{CallsAreEarlier, HasOrigins, HasTexts, IsBuilt}
use Rattle.ssr_base_trees.specs.Laws.{climbed, IsAmong, RangesNest, RunsNest, IsSpanOf, LiesInFile}
use Rattle.ssr_base_trees.proofs.Parents.{HoldsTokens, parent_before, parent_holds}
use Rattle.ssr_base_trees.proofs.Placing.{and_some, some_and, mapped, is_top, is_called, file_at, expansion_at, uncalled_within, own_file}
use Rattle.ssr_base_trees.proofs.Above.{IsTold, told_from, step_from}
use Rattle.ssr_base_trees.proofs.CoverSpans.{IsInside, fewer_inside, fits_parts, fit_covered}

-- ** Where an original range comes from.

abbrev origin_in : NodeId → PlacedTree → Option Span
origin_in x p = original_in p (node_of p.syntax x.node.0)

record IsOriginal (ts : List PlacedTree) (x : NodeId) (range : FileSpan) : Type 0 where
  told : IsTold (origin_in x) ts x range.span
  file : file_of ts x.tree ≡ range.file

original_from : (ts : List PlacedTree) (x : NodeId) (range : FileSpan) → original_range ts x ≡ Some range → IsOriginal ts x range
original_from ts x range is =
    let told = mapped (λ (span : Span). record { file = file_of ts x.tree; span = span }) (original ts x) range is in
    record {
      told = told_from (origin_in x) ts x range.span (told.1 ∙ ap (λ (r : FileSpan). Some r.span) told.2);
      file = ap (λ (r : FileSpan). r.file) told.2;
    }

record IsOriginalRun (ts : List PlacedTree) (t : ℕ) (run : TokenRun) (range : FileSpan) : Type 0 where
  tree : PlacedTree
  is : with_number ts t ≡ Some tree
  tells : original_run_in tree run ≡ Some range.span
  file : file_of ts t ≡ range.file

run_from : (ts : List PlacedTree) (t : ℕ) (run : TokenRun) (range : FileSpan) → run_range ts t run ≡ Some range → IsOriginalRun ts t run range
run_from ts t run range is =
    let told = mapped (λ (span : Span). record { file = file_of ts t; span = span }) (original_run ts t run) range is in
    let file : file_of ts t ≡ range.file = ap (λ (r : FileSpan). r.file) told.2 in
    option_and_then_some {P = IsOriginalRun ts t run range} (λ p. if has_run p.syntax run then original_run_in p run else None) (with_number ts t) range.span
    (told.1 ∙ ap (λ (r : FileSpan). Some r.span) told.2)
    (λ p plants here. tested p plants file (has_run p.syntax run) here)
  where
    tested : (p : PlacedTree) → with_number ts t ≡ Some p → file_of ts t ≡ range.file → (b : Bool)
        → ◌≡◌ {A = Option Span} (if b then original_run_in p run else None) (Some range.span) → IsOriginalRun ts t run range
    tested p plants file true here = record { tree = p; is = plants; tells = here; file = file }
    tested p plants file false here = cc

-- ** Ranges of one tree.

climbed_earlier : (ts : List PlacedTree) (n : ℕ) (b a : NodeId) → CallsAreEarlier ts → climbed ts n b ≡ Some a → a.tree ≤ b.tree
climbed_earlier ts zero b a grown is = let same : b.tree ≡ a.tree = ap (λ (x : NodeId). x.tree) (same_Some b a is) in omega arith
climbed_earlier ts (suc n) b a grown is =
    option_and_then_some (climbed ts n) (above ts b) a is
    (λ c up rest.
    let on : a.tree ≤ c.tree = climbed_earlier ts n c a grown rest in
    let told = told_from (above_in b) ts b c up in
    elim (step_from b c told.tree told.tells) [
      | inl called ↦ omega (arith, (is_called ts b.tree told.tree c grown told.is called.1).earlier)
      | inr inner ↦ let same : b.tree ≡ c.tree = ap (λ (x : NodeId). x.tree) inner.1 in omega arith
    ])

holds_itself : (node : Node) → HoldsTokens node node
holds_itself node = record { starts = omega arith; ends = omega arith }

holds_on : (a b c : Node) → HoldsTokens a b → HoldsTokens b c → HoldsTokens a c
holds_on a b c first second =
    let s = first.starts in
    let t = second.starts in
    let e = first.ends in
    let f = second.ends in
    record { starts = omega arith; ends = omega arith }

holds_below : (ts : List PlacedTree) (n : ℕ) (b a : NodeId) (p : PlacedTree) → CallsAreEarlier ts → climbed ts n b ≡ Some a → a.tree ≡ b.tree
    → with_number ts b.tree ≡ Some p → HasNode p.syntax b.node.0 → HoldsTokens (node_of p.syntax a.node.0) (node_of p.syntax b.node.0)
holds_below ts zero b a p grown is one at has =
    subst (λ (x : NodeId). HoldsTokens (node_of p.syntax x.node.0) (node_of p.syntax b.node.0)) (same_Some b a is) (holds_itself (node_of p.syntax b.node.0))
holds_below ts (suc n) b a p grown is one at has =
    option_and_then_some (climbed ts n) (above ts b) a is
    (λ c up rest.
    let told = told_from (above_in b) ts b c up in
    let same : told.tree ≡ p = same_Some told.tree p (sym told.is ∙ at) in
    elim (step_from b c p (ap (above_in b) (sym same) ∙ told.tells)) [
      | inl called ↦
          absurd (omega (arith, (is_called ts b.tree p c grown at called.1).earlier, climbed_earlier ts n c a grown rest))
      | inr inner ↦
          let parent = (node_of p.syntax b.node.0).parent in
          let before = parent_before p.syntax b.node.0 has inner.0 in
          holds_on (node_of p.syntax a.node.0) (node_of p.syntax parent) (node_of p.syntax b.node.0)
          (holds_below ts n (node_id b.tree parent) a p grown (ap (climbed ts n) inner.1 ∙ rest) one at (omega arith))
          (parent_holds p.syntax b.node.0 has inner.0)
    ])

pub spans_nest : (syntax : Syntax) (call : Option NodeId) (origins : List (Option Span)) (outer inner : TokenRun) (above below : Span) → IsAmong inner outer
    → original_run_in (record { syntax = syntax; call = call; origins = origins }) outer ≡ Some above
    → original_run_in (record { syntax = syntax; call = call; origins = origins }) inner ≡ Some below → IsInside above below
spans_nest syntax None origins outer inner above below among first second =
    subst (IsInside above) (same_Some (own_run_span syntax inner) below second)
    (subst (λ s. IsInside s (own_run_span syntax inner)) (same_Some (own_run_span syntax outer) above first)
    (record {
      begins = offset_grows syntax outer.first inner.first among.0;
      ends = offset_grows syntax (inner.first + inner.count) (outer.first + outer.count) among.1;
    }))
spans_nest syntax (Some call) origins outer inner above below among first second =
    fewer_inside origins outer.first outer.count inner.first inner.count below above among.0 among.1 second first

pub ranges_nest : (w : Workspace) → IsBuilt w → RangesNest (trees w)
ranges_nest w b a x outer inner below one first second =
    let ts = trees w in
    let upper = original_from ts a outer first in
    let lower = original_from ts x inner second in
    let p = lower.told.tree in
    let same : upper.told.tree ≡ p = same_Some upper.told.tree p (sym upper.told.is ∙ ap (with_number ts) one ∙ lower.told.is) in
    let holds = holds_below ts (suc below.0) x a p b.grown below.1 one lower.told.is lower.told.has in
    let spans = spans_nest p.syntax p.call p.origins (run_of (node_of p.syntax a.node.0)) (run_of (node_of p.syntax x.node.0)) outer.span inner.span
    (holds.starts, holds.ends)
    (ap (origin_in a) (sym same) ∙ upper.told.tells) lower.told.tells in
    record {
      file = sym lower.file ∙ ap (file_of ts) (sym one) ∙ upper.file;
      begins = spans.begins;
      ends = spans.ends;
    }

pub runs_nest : (w : Workspace) → RunsNest (trees w)
runs_nest w x run outer inner among first second =
    let ts = trees w in
    let upper = original_from ts x outer first in
    let lower = run_from ts x.tree run inner second in
    let p = lower.tree in
    let same : upper.told.tree ≡ p = same_Some upper.told.tree p (sym upper.told.is ∙ lower.is) in
    let Among : PlacedTree → Type 0 = λ p. IsAmong run (run_of (node_of p.syntax x.node.0)) in
    let had = some_and (with_number ts x.tree) Among among in
    let spans = spans_nest p.syntax p.call p.origins (run_of (node_of p.syntax x.node.0)) run outer.span inner.span
    (subst Among (same_Some had.0 p (sym had.1 ∙ lower.is)) had.2)
    (ap (origin_in x) (sym same) ∙ upper.told.tells) lower.tells in
    record {
      file = sym lower.file ∙ upper.file;
      begins = spans.begins;
      ends = spans.ends;
    }

-- ** Places between characters.

pub boundary_passes : (text : List ℕ) (i : ℕ) → IsCharBoundary text i → is_boundary text i ≡ true
boundary_passes text i boundary =
    let byte = slice_index text i in
    and_from (nat_le i (length text)) (nat_lt byte 128 || nat_le 192 byte) (le-leb i (length text) boundary.0)
    (elim (cases_lt byte 128) [
      | inl low ↦ or_left (nat_lt byte 128) (nat_le 192 byte) (lt-ltb byte 128 low)
      | inr high ↦
          elim (cases_lt i (length text)) [
            | inl within ↦ or_right (nat_lt byte 128) (nat_le 192 byte) (le-leb 192 byte (boundary.1 within high))
            | inr past ↦ absurd (omega (arith, get_or_past text i 0 past))
          ]
    ])

-- tokens that are texts begin between characters
token_boundary : (tree : Syntax) (t : ℕ) → HasTexts tree → is_boundary (source_of tree) (offset_of tree t) ≡ true
token_boundary tree t all =
    let tokens = tokens_of tree in
    boundary_passes (source_of tree) (offset_of tree t)
    (IsCharBoundary-at_seam (source_of tree) (spelled (take t tokens)) (spelled (drop t tokens))
    (ap spelled (sym (take-append-drop t tokens)) ∙ flat_map-append (λ token. token.text) (take t tokens) (drop t tokens))
    (spelled-texts (drop t tokens) (All-drop (λ token. IsUtf8 token.text) t tokens all)))

-- the end of a span is within the text, since it is such a place
within_text : (text : List ℕ) (i : ℕ) → is_boundary text i ≡ true → i ≤ length text
within_text text i is = leb-true i (length text) (and_parts (nat_le i (length text)) (nat_lt (slice_index text i) 128 || nat_le 192 (slice_index text i)) is).0

pub span_of_text : (text : List ℕ) (span : Span) → span.start ≤ span.end → is_boundary text span.start ≡ true → is_boundary text span.end ≡ true → IsSpanOf text span
span_of_text text span ordered begins ends = record { ordered = ordered; within = within_text text span.end ends; begins = begins; ends = ends }

-- ** Ranges in their files.

-- the span of a file's tokens
in_own_file : (tree : Syntax) (run : TokenRun) (span : Span) → HasTexts tree → own_run_span tree run ≡ span → IsSpanOf (source_of tree) span
in_own_file tree run span texts is =
    subst (IsSpanOf (source_of tree)) is
    (span_of_text (source_of tree) (own_run_span tree run) (offset_grows tree run.first (run.first + run.count) (omega arith))
    (token_boundary tree run.first texts) (token_boundary tree (run.first + run.count) texts))

-- what covers the origins of an expansion's tokens
in_file_at_top : (text : List ℕ) (origins : List (Option Span)) (run : TokenRun) (span : Span) → AllPass (fits_origin text) origins
    → covered (cover_of (take run.count (drop run.first origins))) ≡ Some span → IsSpanOf text span
in_file_at_top text origins run span fit is =
    let Fits : Option Span → Type 0 = λ o. fits_origin text o ≡ true in
    let below = take run.count (drop run.first origins) in
    let fits = fits_parts text span
    (ap (fits_origin text) (sym is) ∙ fit_covered text below (All-take Fits run.count (drop run.first origins) (All-drop Fits run.first origins fit))) in
    let holds = fits.holds in
    span_of_text text span (omega arith) fits.begins fits.ends

tokens_lie_in_file : (w : Workspace) (t : ℕ) (p : PlacedTree) (run : TokenRun) (range : FileSpan) → IsBuilt w → with_number (trees w) t ≡ Some p
    → file_of (trees w) t ≡ range.file → original_run_in p run ≡ Some range.span → LiesInFile w range
tokens_lie_in_file w t p run range b plants in_file tells =
    let ts = trees w in
    let top = is_top ts t p b.grown plants in
    let file = file_at w (file_of ts t) top.tree (uncalled_within w (file_of ts t) top.tree top.is top.uncalled) top.is in
    let here : slice_get w.files range.file ≡ Some file.tree = ap (slice_get w.files) (sym in_file) ∙ file.is in
    and_some (slice_get w.files range.file) (λ tree. IsSpanOf (source_of tree) range.span) file.tree here
    (elim (cases_lt t (length w.files)) [
      | inl within ↦
          let own = file_at w t p within plants in
          let same : own.tree ≡ file.tree =
          same_Some own.tree file.tree (sym own.is ∙ ap (slice_get w.files) (sym (own_file w t within)) ∙ file.is) in
          subst (λ tree. IsSpanOf (source_of tree) range.span) same
          (in_own_file own.tree run range.span (all_at HasTexts w.files t own.tree b.texts own.is)
          (same_Some (own_run_span own.tree run) range.span (ap (λ p. original_run_in p run) own.plants ∙ tells)))
      | inr behind ↦
          let at = expansion_at w t p behind plants in
          let e = at.expanded in
          let has = all_at (HasOrigins ts) w.expansions (t - length w.files) e b.origins at.is in
          let called = is_called ts t p e.call b.grown plants (ap (λ (p : PlacedTree). p.call) (sym at.plants)) in
          let tell : Option PlacedTree → List ℕ = λ o. option_map_or (λ p. source_of p.syntax) o [] in
          let text : text_at_top ts e.call.tree ≡ source_of file.tree =
          ap (λ f. tell (with_number ts f)) (sym called.file) ∙ ap tell (top.is ∙ ap Some (sym file.plants)) in
          subst (λ text. IsSpanOf text range.span) text
          (in_file_at_top (text_at_top ts e.call.tree) e.origins run range.span has.fitting
          (ap (λ p. original_run_in p run) at.plants ∙ tells))
    ])

pub lies_in_file : (w : Workspace) (x : NodeId) (range : FileSpan) → IsBuilt w → original_range (trees w) x ≡ Some range → LiesInFile w range
lies_in_file w x range b is =
    let origin = original_from (trees w) x range is in
    let told = origin.told in
    tokens_lie_in_file w x.tree told.tree (run_of (node_of told.tree.syntax x.node.0)) range b told.is origin.file told.tells

pub run_lies_in_file : (w : Workspace) (t : ℕ) (run : TokenRun) (range : FileSpan) → IsBuilt w → run_range (trees w) t run ≡ Some range → LiesInFile w range
run_lies_in_file w t run range b is =
    let origin = run_from (trees w) t run range is in
    tokens_lie_in_file w t origin.tree run range b origin.is origin.file origin.tells

-- so it has a text
text_there : (w : Workspace) (range : FileRange) → LiesInFile w (file_span_of range) → IsSome (text_of w range)
text_there w range in_file =
    let start = range.range.start in
    let end = range.range.end in
    let lies = some_and (slice_get w.files range.file_id.0) (λ tree. IsSpanOf (source_of tree) (file_span_of range).span) in_file in
    let text = source_of lies.0 in
    ap (λ o. is_some (option_and_then (λ tree. text_between start end (source_of tree)) o)) lies.1
    ∙ ap (λ b. is_some (if b then Some (slice_range text start end) else None)) (and_from (is_boundary text start) (is_boundary text end) lies.2.begins lies.2.ends)

pub has_text : (w : Workspace) (x : NodeId) (range : FileRange) → IsBuilt w → original_range (trees w) x ≡ Some (file_span_of range) → IsSome (text_of w range)
has_text w x range b is = text_there w range (lies_in_file w x (file_span_of range) b is)

pub run_has_text : (w : Workspace) (t : ℕ) (run : TokenRun) (range : FileRange) → IsBuilt w → run_range (trees w) t run ≡ Some (file_span_of range) → IsSome (text_of w range)
run_has_text w t run range b is = text_there w range (run_lies_in_file w t run (file_span_of range) b is)

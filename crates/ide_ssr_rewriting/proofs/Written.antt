-- What is written: changes between characters.
use Rattle.std.proofs.Common.{◌≡◌, ℕ, true, inl, inr, List, All, length, Option, Some, option_map, sym, subst, arith}
use Rattle.std.specs.Prelude.{◌||◌, IfSome, IsCharBoundary, nat_le, nat_lt, slice_index}
use Rattle.std.specs.List.{dedup}
use Rattle.std.proofs.lemmas.Bool.{and_parts, leb-true, ltb-true, or_cases}
use Rattle.std.proofs.lemmas.List.Elements.{All-map, All-weaker}
use Rattle.std.proofs.lemmas.List.Filters.{All-dedup}
use Rattle.ssr_base_trees.specs.Changes.{Change, FitsText}
use Rattle.ssr_base_trees.specs.Texts.{is_boundary}
use Rattle.ssr_base_trees.specs.declared.ids.FileRange.{FileRange}
use Rattle.ssr_base_trees.specs.Laws.{LiesIn}
use Rattle.ssr_base_trees.specs.Workspace.{Workspace, file_span_of}
use Rattle.ssr_standing.specs.Parts.{FitsPart}
use Rattle.ide_ssr_rewriting.specs.Clashes.{Rewrite, change_of, changes_made, same_range}
use Rattle.ide_ssr_rewriting.specs.Replacements.{file_text}
use Rattle.ide_ssr_rewriting.specs.Private.Replacements.{FitsItsFile, IsOf}

pub boundary_of : (text : List ℕ) (i : ℕ) → is_boundary text i ≡ true → IsCharBoundary text i
boundary_of text i is =
    let byte = slice_index text i in
    let both = and_parts (nat_le i (length text)) (nat_lt byte 128 || nat_le 192 byte) is in (
      leb-true i (length text) both.0,
      λ within high. elim (or_cases (nat_lt byte 128) (nat_le 192 byte) both.1) [
        | inl low ↦ absurd (let less = ltb-true byte 128 low in omega arith)
        | inr lead ↦ leb-true 192 byte lead
      ],
    )

-- a change fits the part that it lies in
abbrev pub ChangeFits : Workspace → FileRange → Change → Type 0
ChangeFits w range c = FitsPart (file_text w range.file_id.0) range.range c

fits_file : (w : Workspace) (file : ℕ) (r : Rewrite) → r.range.file ≡ file → FitsItsFile w r.range → FitsText (file_text w file) (change_of r)
fits_file w file r same fits =
    subst (λ (file : ℕ). FitsText (file_text w file) (change_of r)) same
    (boundary_of (file_text w r.range.file) r.range.span.start fits.begins, boundary_of (file_text w r.range.file) r.range.span.end fits.ends)

change_fits : (w : Workspace) (range : FileRange) (r : Rewrite) → LiesIn r.range (file_span_of range) → FitsItsFile w r.range → ChangeFits w range (change_of r)
change_fits w range r lies fits = record { fits = fits_file w range.file_id.0 r lies.file fits; within = lies.ends }

all_fit : (w : Workspace) (range : FileRange) (list : List Rewrite) → IsOf w (file_span_of range) list → All (ChangeFits w range) (changes_made list)
all_fit w range list is =
    All-map (ChangeFits w range) change_of (dedup (λ r kept. same_range r.range kept.range) list)
    (All-dedup (λ r kept. same_range r.range kept.range) (λ r. ChangeFits w range (change_of r)) list
    (All-weaker (λ r. LiesIn r.range (file_span_of range) × FitsItsFile w r.range) (λ r. ChangeFits w range (change_of r))
    (λ r h. change_fits w range r h.0 h.1) list is.each))

-- what is asked of a range, if there is one
pub of_range : (w : Workspace) (range : FileRange) (o : Option FileRange) (list : List Rewrite) → o ≡ Some range
    → IfSome (option_map file_span_of o) (λ range. IsOf w range list) → IsOf w (file_span_of range) list
of_range w range o list is h = subst (λ (o : Option FileRange). IfSome (option_map file_span_of o) (λ range. IsOf w range list)) is h

module _ (w : Workspace) (range : FileRange) (list : List Rewrite) (is : IsOf w (file_span_of range) list) (text : List ℕ) (whole : text ≡ file_text w range.file_id.0) where
  pub begins_between : IsCharBoundary text range.range.start
  begins_between = subst (λ (text : List ℕ). IsCharBoundary text range.range.start) (sym whole) (boundary_of (file_text w range.file_id.0) range.range.start is.fits.begins)

  pub ends_between : IsCharBoundary text range.range.end
  ends_between = subst (λ (text : List ℕ). IsCharBoundary text range.range.end) (sym whole) (boundary_of (file_text w range.file_id.0) range.range.end is.fits.ends)

  pub changes_fit : (changes : List Change) → changes ≡ changes_made list → All (FitsPart text range.range) changes
  changes_fit changes e =
      subst (λ (text : List ℕ). All (FitsPart text range.range) changes) (sym whole) (subst (All (ChangeFits w range)) (sym e) (all_fit w range list is))

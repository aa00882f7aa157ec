-- Changes of a part of a text.
use Rattle.std.proofs.Common.{◌≡◌, ℕ, ◌+◌, ◌-◌, ◌<◌, ◌^◌, false, List, All, Option, Some, get_or, length, drop, sym, ◌∙◌, ap, arith}
use Rattle.std.specs.Prelude.{IsCharBoundary, slice_range}
use Rattle.std.specs.Option.{option_map_or}
use Rattle.std.proofs.lemmas.List.{length-drop, length-take-le}
use Rattle.std.proofs.lemmas.List.Elements.{All-map, All-weaker}
use Rattle.ssr_syntax_kinds.specs.declared.range.TextRange.{TextRange}
use Rattle.ssr_syntax_kinds.specs.declared.reach.Reach.{Reach}
use Rattle.ssr_syntax_tree.specs.Syntax.{Syntax}
use Rattle.ssr_base_trees.specs.Changes.{Change, FitsText, replaced}
use Rattle.ssr_standing.specs.Parts.{FitsPart, agrees_after, expression_of, stands_between}
use Rattle.ssr_standing.specs.Ranges.{IsShort, old_places, place_from}
use Rattle.ssr_standing.proofs.Places.{BeginsIn}

-- they fit the text
pub in_text : (text : List ℕ) (part : TextRange) (cs : List Change) → All (FitsPart text part) cs → All (FitsText text) cs
in_text text part cs all = All-weaker (FitsPart text part) (FitsText text) (λ c h. h.fits) cs all

-- and begin in it
pub begin_in : (text : List ℕ) (part : TextRange) (cs : List Change) → All (FitsPart text part) cs → All (BeginsIn text) cs
begin_in text part cs all = All-weaker (FitsPart text part) (BeginsIn text) (λ c h. h.fits.0.0) cs all

-- what is replaced in a part that is short enough to be read, behind so many bytes
pub old_short : (text : List ℕ) (part : TextRange) (cs : List Change) → All (FitsPart text part) cs → IsCharBoundary text part.end
    → (at : ℕ) → at + length (slice_range text part.start part.end) < 2 ^ 32 → All IsShort (old_places at part.start cs)
old_short text part cs all ends at short =
    All-map IsShort (place_from at part.start) cs (λ k d less. ends_early (get_or cs k d) (all k d less))
  where
    long : length (slice_range text part.start part.end) ≡ part.end - part.start
    long = length-take-le (part.end - part.start) (drop part.start text) (omega (arith, length-drop part.start text, ends.0))

    ends_early : (c : Change) → FitsPart text part c → IsShort (place_from at part.start c)
    ends_early c fits = omega (arith, fits.within, long, short)

-- they stand in a part that is read if what is read with them agrees
pub stands_as : (reach : Reach) (front text : List ℕ) (from to : ℕ) (cs : List Change) (old : Syntax) (new : Option Syntax)
    → expression_of reach front (slice_range text from to) ≡ Some old → new ≡ expression_of reach front (replaced text from to cs)
    → option_map_or (agrees_after (1 + length front) from cs old) new false ≡ stands_between reach front text from to cs
stands_as reach front text from to cs old new read is =
    ap (λ (new : Option Syntax). option_map_or (agrees_after (1 + length front) from cs old) new false) is
    ∙ ap (λ (o : Option Syntax). option_map_or (λ old. option_map_or (agrees_after (1 + length front) from cs old) (expression_of reach front (replaced text from to cs)) false) o false)
    (sym read)

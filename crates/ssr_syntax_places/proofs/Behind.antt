-- The forest behind the tree that a text is read to.
use Rattle.std.proofs.Common.{◌≡◌, ℕ, List}
use Rattle.std.specs.Prelude.{Ok}
use Rattle.std.specs.Str.{IsUtf8}
use Rattle.ssr_syntax_kinds.specs.declared.fragment.Fragment.TheVariants as fragments
use Rattle.ssr_syntax_kinds.specs.declared.reach.Reach.{Reach}
use Rattle.ssr_syntax_tree.specs.Syntax.{Syntax}
use Rattle.ssr_syntax.specs.Reading.{fragment_reading_of, trimmed, FitsFragmentOf}
use Rattle.ssr_syntax.proofs.Shared.{fragment_sound_of}
use Rattle.ssr_syntax_places.specs.LongTexts.{HasForest}

forest_of : (reach : Reach) (text : List ℕ) (syntax : Syntax) → FitsFragmentOf reach fragments.Expr text syntax → HasForest reach text syntax
forest_of reach text syntax (raw, lexes, outside, (kind, kids, fits, is, named)) =
    record { raw = raw; kind = kind; kids = kids; behind = record { lexes = lexes; outside = outside; fits = fits }; whole = is }

pub forest_behind : (reach : Reach) (text : List ℕ) (syntax : Syntax) → IsUtf8 (trimmed text) → fragment_reading_of reach fragments.Expr text ≡ Ok syntax
    → HasForest reach text syntax
forest_behind reach text syntax utf8 reads = forest_of reach text syntax (fragment_sound_of reach fragments.Expr text syntax utf8 reads).fits

-- Which changes of a part of a text leave what stands around them in this part as it was.
use Rattle.std.specs.Prelude.{ℕ, ◌+◌, ◌≤◌, Bool, false, List, ◌++◌, Option, codes, length, slice_range}
use Rattle.std.specs.Option.{option_map_or}
use Rattle.std.specs.Result.{result_ok}
use Rattle.ssr_syntax_kinds.specs.declared.fragment.Fragment.TheVariants as fragments
use Rattle.ssr_syntax_kinds.specs.declared.range.TextRange.{TextRange}
use Rattle.ssr_syntax_kinds.specs.declared.reach.Reach.{Reach}
use Rattle.ssr_syntax_tree.specs.Syntax.{Syntax}
use Rattle.ssr_syntax.specs.Reading.{fragment_reading_of}
use Rattle.ssr_base_trees.specs.Changes.{Change, FitsText, replaced}
use Rattle.ssr_standing.specs.Around.{agree}
use Rattle.ssr_standing.specs.Ranges.{new_places, old_places}

-- What is read of an expression in a reach, with a text in front of it: in parentheses, in which comments may stand around it.
abbrev pub expression_of : Reach → List ℕ → List ℕ → Option Syntax
expression_of reach front text = result_ok (fragment_reading_of reach fragments.Expr (codes "(" ++ (front ++ (text ++ codes ")"))))

-- the new tree agrees with the old one around changes, where what stands at the byte `from` of their text stands at `at`
abbrev pub agrees_after : ℕ → ℕ → List Change → Syntax → Syntax → Bool
agrees_after at from cs old new = agree old (old_places at from cs) new (new_places at from cs)

-- The bytes from one place of a text to another, behind the text in front, are an expression, without the changes made and with them,
-- and what is read agrees around these.
abbrev pub stands_between : Reach → List ℕ → List ℕ → ℕ → ℕ → List Change → Bool
stands_between reach front text from to cs =
    option_map_or
    (λ old. option_map_or (agrees_after (1 + length front) from cs old) (expression_of reach front (replaced text from to cs)) false)
    (expression_of reach front (slice_range text from to))
    false

-- a change fits a text, and ends in a part of it
pub record FitsPart (text : List ℕ) (part : TextRange) (c : Change) : Type 0 where
  pub fits : FitsText text c
  pub within : c.end ≤ part.end

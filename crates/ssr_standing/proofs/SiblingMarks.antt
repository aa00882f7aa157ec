-- The marks of siblings, one after the other.
use Rattle.std.proofs.Common.{◌≡◌, ◌∙◌, ℕ, Bool, true, false, List, [], ◌∷◌, ◌++◌, map, refl, sym, ap}
use Rattle.std.specs.Prelude.{◌↔◌, IfNone, IfSome, Option, None, Some, is_some, option_to_list}
use Rattle.std.proofs.lemmas.Bool.{false≢true}
use Rattle.ssr_syntax_tree.specs.Syntax.{Syntax}
use Rattle.ssr_syntax_tree.specs.Places.{Part, part_of}
use Rattle.ssr_syntax_tree.specs.declared.number.Element.{Element}
use Rattle.ssr_base_trees.specs.Origins.{Span}
use Rattle.ssr_standing.specs.declared.marks.Mark.{Mark as Stored}
use Rattle.ssr_standing.specs.Around.{Mark, hole_of, is_trivia_part, marks_behind, marks_of}
use Rattle.ssr_standing.specs.Private.Marks.{shown}
use Rattle.ssr_standing.specs.Private.Siblings.{HaveSameMarks}

module _ (places : List Span) (tree : Syntax) (joined : Bool) where
  -- white space or a comment is passed
  trivia_passed : (before : Option ℕ) (part : Part) (rest : List Part) → is_trivia_part part ≡ true
      → marks_behind places tree joined before (part ∷ rest) ≡ marks_behind places tree joined before rest
  trivia_passed before part rest e = rw e refl

  -- any other part has its marks
  part_marked : (before : Option ℕ) (part : Part) (rest : List Part) → is_trivia_part part ≡ false
      → marks_behind places tree joined before (part ∷ rest)
      ≡ marks_of joined before (hole_of places tree part) part ++ marks_behind places tree joined (hole_of places tree part) rest
  part_marked before part rest e = rw e refl

-- a child more is white space or a comment
pub trivia_skipped : (tree : Syntax) (whole left behind : List Element) (child : Element) → left ≡ child ∷ behind
    → is_trivia_part (part_of tree child) ≡ true → HaveSameMarks tree whole left → HaveSameMarks tree whole behind
trivia_skipped tree whole left behind child steps trivia same = record {
  marks = λ places joined before.
      same.marks places joined before
      ∙ ap (λ (es : List Element). marks_behind places tree joined before (map (part_of tree) es)) steps
      ∙ trivia_passed places tree joined before (part_of tree child) (map (part_of tree) behind) trivia;
}

-- the next one isn't
pub solid_next : (tree : Syntax) (whole left behind : List Element) (child : Element) → left ≡ child ∷ behind
    → HaveSameMarks tree whole left → HaveSameMarks tree whole (child ∷ behind)
solid_next tree whole left behind child steps same = record {
  marks = λ places joined before.
      same.marks places joined before ∙ ap (λ (es : List Element). marks_behind places tree joined before (map (part_of tree) es)) steps;
}

-- the mark of a child, if it has one, and those behind it
pub marked : (places others : List Span) (tree : Syntax) (joined : Bool) (before hole : Option ℕ) (child : Element) (left : List Element) (mark : Option Stored)
    → others ≡ places → is_trivia_part (part_of tree child) ≡ false → hole ≡ hole_of others tree (part_of tree child)
    → map (shown tree) (option_to_list mark) ≡ marks_of joined before hole (part_of tree child)
    → marks_behind places tree joined before (map (part_of tree) (child ∷ left))
    ≡ map (shown tree) (option_to_list mark) ++ marks_behind others tree joined hole (map (part_of tree) left)
marked places others tree joined before hole child left mark same solid is shows =
    let part = part_of tree child in
    let rest = map (part_of tree) left in
    ap (λ (places : List Span). marks_behind places tree joined before (part ∷ rest)) (sym same)
    ∙ part_marked others tree joined before part rest solid
    ∙ ap (λ (hole : Option ℕ). marks_of joined before hole part ++ marks_behind others tree joined hole rest) (sym is)
    ∙ ap (λ (marks : List Mark). marks ++ marks_behind others tree joined hole rest) (sym shows)

-- of lists with one mark more in front that is the same, what is left is the same just where they are
pub one_more : (whole : Type 0) (xs ys left behind : List Mark) (x y : Mark) → xs ≡ x ∷ left → ys ≡ y ∷ behind → x ≡ y
    → whole ↔ (xs ≡ ys) → whole ↔ (left ≡ behind)
one_more whole xs ys left behind x y is also same h = (
  λ w. let both : x ∷ left ≡ y ∷ behind = sym is ∙ h.0 w ∙ also in cc,
  λ e. h.1 (is ∙ ap (λ (mark : Mark). mark ∷ left) same ∙ ap (λ (marks : List Mark). y ∷ marks) e ∙ sym also),
)

-- they are the same no more where the first ones differ, or one of them has none
pub one_apart : (whole : Type 0) (xs ys left behind : List Mark) (x y : Mark) → xs ≡ x ∷ left → ys ≡ y ∷ behind
    → whole ↔ (xs ≡ ys) → whole → x ≡ y
one_apart whole xs ys left behind x y is also h w = let both : x ∷ left ≡ y ∷ behind = sym is ∙ h.0 w ∙ also in cc

pub none_apart : (whole : Type 0) (xs ys left : List Mark) (x : Mark) → xs ≡ x ∷ left → ys ≡ [] → whole ↔ (xs ≡ ys) → whole → ⊥
none_apart whole xs ys left x is none h w = let both : x ∷ left ≡ [] = sym is ∙ h.0 w ∙ none in cc

-- a child without a mark
pub unmarked : (tree : Syntax) (mark : Option Stored) (told : Bool) (marks left : List Mark) → told ≡ is_some mark → told ≡ false
    → marks ≡ map (shown tree) (option_to_list mark) ++ left → marks ≡ left
unmarked tree None told marks left is e same = same
unmarked tree (Some mark) told marks left is e same = absurd (false≢true (sym e ∙ is))

-- one with a mark
pub if_marked : (tree : Syntax) (mark : Option Stored) (marks left : List Mark) → marks ≡ map (shown tree) (option_to_list mark) ++ left
    → IfSome mark (λ m. marks ≡ shown tree m ∷ left)
if_marked tree None marks left same = tt
if_marked tree (Some mark) marks left same = same

pub not_none : (P : Type 0) (mark : Option Stored) (told : Bool) → told ≡ is_some mark → told ≡ true → IfNone mark P
not_none P None told is e = absurd (false≢true (sym is ∙ e))
not_none P (Some mark) told is e = tt

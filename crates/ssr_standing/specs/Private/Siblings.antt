-- Private: the marks of the children that are left.
use Rattle.std.specs.Prelude.{◌≡◌, ℕ, Bool, List, ◌∷◌, All, Option, map}
use Rattle.ssr_syntax_tree.specs.Places.{HasElement, part_of}
use Rattle.ssr_syntax_tree.specs.Syntax.{Syntax}
use Rattle.ssr_syntax_tree.specs.declared.number.Element.{Element}
use Rattle.ssr_base_trees.specs.Origins.{Span, span_of}
use Rattle.ssr_standing.specs.declared.siblings.Siblings.{Siblings}
use Rattle.ssr_standing.specs.Around.{Mark, marks_behind}

abbrev pub marks_left : Siblings → List Mark
marks_left s = marks_behind (map span_of s.passing.places.now) s.tree.now s.joined s.before (map (part_of s.tree.now) s.left)

-- those of a child in front of them, too
abbrev pub marks_with : Siblings → Element → List Mark
marks_with s child = marks_behind (map span_of s.passing.places.now) s.tree.now s.joined s.before (map (part_of s.tree.now) (child ∷ s.left))

-- siblings have the marks that others have
pub record HaveSameMarks (tree : Syntax) (es fs : List Element) : Type 0 where
  pub marks : (places : List Span) (joined : Bool) (before : Option ℕ)
      → marks_behind places tree joined before (map (part_of tree) es) ≡ marks_behind places tree joined before (map (part_of tree) fs)

-- the tree has the children
abbrev pub HasAll : Siblings → Type 0
HasAll s = All (HasElement s.tree.now) s.left

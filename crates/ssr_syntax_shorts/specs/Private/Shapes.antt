-- The children of a node that are neither white space nor comments.
use Rattle.std.specs.Prelude.{◌≡◌, ℕ, All, if◌then◌else◌, List, [], ◌∷◌, map}
use Rattle.ssr_syntax_kinds.specs.Kinds.{is_trivia}
use Rattle.ssr_syntax_tree.specs.Syntax.{Syntax}
use Rattle.ssr_syntax_tree.specs.Places.{Part, token_part, node_part, HasElement, node_of, part_of, parts_of}
use Rattle.ssr_syntax_tree.specs.declared.number.Element.{Element}
use Rattle.ssr_syntax_shorts.specs.declared.shapes.Shape.{Shape}
use Rattle.ssr_syntax_shorts.specs.declared.shapes.Shape.TheVariants as shape

abbrev pub elements_in : Shape → List Element
elements_in shape.Empty = []
elements_in (shape.One a) = a ∷ []
elements_in (shape.Two a b) = a ∷ b ∷ []
elements_in (shape.Three a b c) = a ∷ b ∷ c ∷ []
elements_in (shape.Four a b c d) = a ∷ b ∷ c ∷ d ∷ []

abbrev pub solid_parts : List Part → List Part
solid_parts [] = []
solid_parts (token_part t token ∷ parts) = if is_trivia token.kind then solid_parts parts else token_part t token ∷ solid_parts parts
solid_parts (node_part node ∷ parts) = node_part node ∷ solid_parts parts

-- these elements, one after the other, are the solid children of a node
pub record AreSolid (tree : Syntax) (n : ℕ) (elements : List Element) : Type 0 where
  pub parts : map (part_of tree) elements ≡ solid_parts (parts_of (node_of tree n))
  pub had : All (HasElement tree) elements

-- Private: the nodes among the children of a node, by their numbers.
use Rattle.std.specs.Prelude.{ℕ, List, [], ◌∷◌, Option, Some, None, map}
use Rattle.ssr_syntax_tree.specs.declared.number.Element.{Element}
use Rattle.ssr_syntax_tree.specs.declared.number.Element.TheVariants as element
use Rattle.ssr_syntax_tree.specs.declared.number.NodeNo.{NodeNo}
use Rattle.ssr_syntax_tree.specs.Syntax.{Syntax}
use Rattle.ssr_syntax_tree.specs.Places.{Node, node_of}
use Rattle.ide_ssr_matching.specs.Private.Children.{IsElementBelow}

-- the nodes among children
abbrev pub numbers_among : List Element → List NodeNo
numbers_among [] = []
numbers_among (element.Node node ∷ rest) = node ∷ numbers_among rest
numbers_among (element.Token token ∷ rest) = numbers_among rest

abbrev pub nodes_at : Syntax → List NodeNo → List Node
nodes_at tree nodes = map (λ node. node_of tree node.0) nodes

abbrev pub IsNodeBelow : Syntax → ℕ → NodeNo → Type 0
IsNodeBelow tree n node = IsElementBelow tree n (element.Node node)

-- a node, if it is the only one
abbrev pub only_among : List Node → Option Node
only_among (node ∷ []) = Some node
only_among _ = None

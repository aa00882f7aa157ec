-- The nodes among children, by their numbers.
use Rattle.std.proofs.Common.{◌≡◌, ℕ, ◌≤◌, List, [], ◌∷◌, length, map, All, refl, ap, subst, arith}
use Rattle.std.proofs.lemmas.List.Elements.{All-nil, All-cons, All-head, All-tail, All-weaker}
use Rattle.ssr_syntax_tree.specs.declared.number.Element.{Element}
use Rattle.ssr_syntax_tree.specs.declared.number.Element.TheVariants as element
use Rattle.ssr_syntax_tree.specs.declared.number.NodeNo.{NodeNo}
use Rattle.ssr_syntax_tree.specs.Syntax.{Syntax}
use Rattle.ssr_syntax_tree.specs.Places.{HasNode, part_of, node_of}
use Rattle.ide_ssr_matching.specs.Calls.{nodes_among}
use Rattle.ide_ssr_matching.specs.Private.ChildNodes.{numbers_among, nodes_at, IsNodeBelow}
use Rattle.ide_ssr_matching.specs.Private.Children.{IsElementBelow}

pub among_at : (tree : Syntax) (children : List Element) → nodes_at tree (numbers_among children) ≡ nodes_among (map (part_of tree) children)
among_at tree [] = refl
among_at tree (element.Node node ∷ rest) = ap (λ nodes. node_of tree node.0 ∷ nodes) (among_at tree rest)
among_at tree (element.Token token ∷ rest) = among_at tree rest

pub among_below : (tree : Syntax) (n : ℕ) (children : List Element) → All (IsElementBelow tree n) children → All (IsNodeBelow tree n) (numbers_among children)
among_below tree n [] all = All-nil (IsNodeBelow tree n)
among_below tree n (element.Node node ∷ rest) all =
    All-cons (IsNodeBelow tree n) node (numbers_among rest) (All-head (IsElementBelow tree n) (element.Node node) rest all)
    (among_below tree n rest (All-tail (IsElementBelow tree n) (element.Node node) rest all))
among_below tree n (element.Token token ∷ rest) all = among_below tree n rest (All-tail (IsElementBelow tree n) (element.Token token) rest all)

-- what stands below a node is there
pub nodes_had : (tree : Syntax) (n : ℕ) (nodes : List NodeNo) → All (IsNodeBelow tree n) nodes → All (λ node. HasNode tree node.0) nodes
nodes_had tree n nodes all = All-weaker (IsNodeBelow tree n) (λ node. HasNode tree node.0) (λ node below. below.0) nodes all

-- what is true of the nodes that were left is of the first one and of those behind it
module _ (P : NodeNo → Type 0) (first : NodeNo) (left behind : List NodeNo) (steps : left ≡ first ∷ behind) (all : All P left) where
  pub node_first : P first
  node_first = All-head P first behind (subst (All P) steps all)

  pub nodes_behind : All P behind
  nodes_behind = All-tail P first behind (subst (All P) steps all)

-- they are no more than the children
pub among_fewer : (children : List Element) → length (numbers_among children) ≤ length children
among_fewer [] = omega arith
among_fewer (element.Node node ∷ rest) = omega (arith, among_fewer rest)
among_fewer (element.Token token ∷ rest) = omega (arith, among_fewer rest)

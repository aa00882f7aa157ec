-- The children of a node by their numbers, and where they stand.
use Rattle.std.proofs.Common.{◌≡◌, ℕ, ◌+◌, ◌<◌, true, List, ◌∷◌, length, map, subst}
use Rattle.std.proofs.lemmas.List.Elements.{All-head, All-tail}
use Rattle.ssr_syntax_kinds.specs.declared.kinds.SyntaxKind.{SyntaxKind}
use Rattle.ssr_syntax_tree.specs.Syntax.{Syntax}
use Rattle.ssr_syntax_tree.specs.Syntax as plain
use Rattle.ssr_syntax_tree.specs.Places.{Part, token_part, node_part, HasElement, HasNode, node_of, part_of, token_of, size_of}
use Rattle.ssr_syntax_tree.specs.declared.number.Element.{Element}
use Rattle.ssr_syntax_tree.specs.declared.number.Element.TheVariants as element
use Rattle.ssr_syntax_tree.specs.declared.number.NodeNo.{NodeNo}
use Rattle.ssr_syntax_tree.specs.declared.number.TokenNo.{TokenNo}
use Rattle.ssr_syntax_tree.proofs.Shared.{IsChild}
use Rattle.ssr_syntax_forms.specs.declared.tokens.Token.{Token}
use Rattle.ssr_syntax_forms.specs.Trees.{Forest, spell}
use Rattle.ssr_syntax_places.specs.Core.{Holes, is_leaf}
use Rattle.ssr_syntax_places.specs.PlainCore.{forest_in, tokens_like}
use Rattle.ssr_syntax_shorts.specs.Names.{place_of}
use Rattle.ssr_syntax_shorts.specs.Private.Shapes.{AreSolid}
use Rattle.ssr_syntax_shorts.proofs.SolidChildren.{AreBehind, child_smaller, laid}

-- ** Words.

abbrev pub kind_at : Syntax → NodeNo → SyntaxKind
kind_at s node = (node_of s node.0).kind

abbrev pub kids_at : Syntax → NodeNo → Forest
kids_at s node = forest_in (node_of s node.0).children

-- the number of a node's first token
abbrev pub front_of : Syntax → NodeNo → ℕ
front_of s node = place_of s (node_of s node.0).first

abbrev pub mark_kind : Syntax → TokenNo → SyntaxKind
mark_kind s token = (token_of s token.0).kind

abbrev pub mark_of : Syntax → TokenNo → List Token
mark_of s token = tokens_like (token_of s token.0).kind

pub behind_token : (s : Syntax) (at t : ℕ) (token : plain.Token) (parts : List Part) → AreBehind s at (token_part t token ∷ parts)
    → AreBehind s (at + length (tokens_like token.kind)) parts
behind_token s at t token parts behind = behind.1

pub behind_node : (s : Syntax) (at n : ℕ) (parts : List Part) → AreBehind s at (node_part (node_of s n) ∷ parts)
    → AreBehind s (at + length (spell (forest_in (node_of s n).children))) parts
behind_node s at n parts behind = behind.1

-- ** What is known of the children that are nodes.

-- a child that is a node, and the shape of the one above it
pub record IsBelow (s : Syntax) (n m : ℕ) : Type 0 where
  pub has : HasNode s m
  pub fewer : size_of (node_of s m) < size_of (node_of s n)

pub first_below : (s : Syntax) (n : ℕ) (m : NodeNo) (rest : List Element) → HasNode s n → AreSolid s n (element.Node m ∷ rest) → IsBelow s n m.0
first_below s n m rest has solid =
    let there : HasNode s m.0 = All-head (HasElement s) (element.Node m) rest solid.had in
    record {
      has = there;
      fewer = child_smaller s n m.0 has there (All-head (IsChild s n) (node_part (node_of s m.0)) (map (part_of s) rest) (laid s n (element.Node m ∷ rest) has solid).children);
    }

pub second_below : (s : Syntax) (n : ℕ) (e : Element) (m : NodeNo) (rest : List Element) → HasNode s n → AreSolid s n (e ∷ element.Node m ∷ rest) → IsBelow s n m.0
second_below s n e m rest has solid =
    let there : HasNode s m.0 = All-head (HasElement s) (element.Node m) rest (All-tail (HasElement s) e (element.Node m ∷ rest) solid.had) in
    record {
      has = there;
      fewer =
          child_smaller s n m.0 has there
          (All-head (IsChild s n) (node_part (node_of s m.0)) (map (part_of s) rest)
          (All-tail (IsChild s n) (part_of s e) (node_part (node_of s m.0) ∷ map (part_of s) rest) (laid s n (e ∷ element.Node m ∷ rest) has solid).children));
    }

pub third_below : (s : Syntax) (n : ℕ) (e d : Element) (m : NodeNo) (rest : List Element) → HasNode s n → AreSolid s n (e ∷ d ∷ element.Node m ∷ rest)
    → IsBelow s n m.0
third_below s n e d m rest has solid =
    let had = All-tail (HasElement s) d (element.Node m ∷ rest) (All-tail (HasElement s) e (d ∷ element.Node m ∷ rest) solid.had) in
    let children = (laid s n (e ∷ d ∷ element.Node m ∷ rest) has solid).children in
    let there : HasNode s m.0 = All-head (HasElement s) (element.Node m) rest had in
    record {
      has = there;
      fewer =
          child_smaller s n m.0 has there
          (All-head (IsChild s n) (node_part (node_of s m.0)) (map (part_of s) rest)
          (All-tail (IsChild s n) (part_of s d) (node_part (node_of s m.0) ∷ map (part_of s) rest)
          (All-tail (IsChild s n) (part_of s e) (part_of s d ∷ node_part (node_of s m.0) ∷ map (part_of s) rest) children)));
    }

pub fourth_below : (s : Syntax) (n : ℕ) (e d f : Element) (m : NodeNo) (rest : List Element) → HasNode s n
    → AreSolid s n (e ∷ d ∷ f ∷ element.Node m ∷ rest) → IsBelow s n m.0
fourth_below s n e d f m rest has solid =
    let elements : List Element = f ∷ element.Node m ∷ rest in
    let had = All-tail (HasElement s) f (element.Node m ∷ rest) (All-tail (HasElement s) d elements (All-tail (HasElement s) e (d ∷ elements) solid.had)) in
    let children = (laid s n (e ∷ d ∷ elements) has solid).children in
    let there : HasNode s m.0 = All-head (HasElement s) (element.Node m) rest had in
    record {
      has = there;
      fewer =
          child_smaller s n m.0 has there
          (All-head (IsChild s n) (node_part (node_of s m.0)) (map (part_of s) rest)
          (All-tail (IsChild s n) (part_of s f) (node_part (node_of s m.0) ∷ map (part_of s) rest)
          (All-tail (IsChild s n) (part_of s d) (map (part_of s) elements)
          (All-tail (IsChild s n) (part_of s e) (part_of s d ∷ map (part_of s) elements) children))));
    }

-- ** By places.

pub leaf_there : (holes : Holes) (place at : ℕ) (ks : List SyntaxKind) (kind : SyntaxKind) (us : List Token) → place ≡ at → is_leaf holes place ks kind us ≡ true
    → is_leaf holes at ks kind us ≡ true
leaf_there holes place at ks kind us e is = subst (λ n. is_leaf holes n ks kind us ≡ true) e is

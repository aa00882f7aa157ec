-- The arguments of a call, one child of their list after the other.
use Rattle.std.proofs.Common.{◌≡◌, ℕ, ◌+◌, ◌*◌, ◌<◌, true, List, [], ◌∷◌, ◌++◌, All, length, map, refl, sym, ap, subst, ◌∙◌, arith}
use Rattle.std.proofs.lemmas.Bool.{and_from, and_parts}
use Rattle.std.proofs.lemmas.List.Elements.{All-head, All-tail, All-rest}
use Rattle.ssr_syntax_kinds.specs.Kinds.{same_kind}
use Rattle.ssr_syntax_kinds.specs.declared.kinds.SyntaxKind.{SyntaxKind}
use Rattle.ssr_syntax_kinds.specs.declared.kinds.SyntaxKind.TheVariants as k
use Rattle.ssr_syntax_tree.specs.Syntax.{Syntax}
use Rattle.ssr_syntax_tree.specs.Places.{Part, HasElement, HasNode, node_of, token_of, part_of, parts_of, elements_of, size_of}
use Rattle.ssr_syntax_tree.specs.declared.number.Element.{Element}
use Rattle.ssr_syntax_tree.specs.declared.number.Element.TheVariants as element
use Rattle.ssr_syntax_tree.specs.declared.number.NodeNo.{NodeNo}
use Rattle.ssr_syntax_tree.specs.declared.number.TokenNo.{TokenNo}
use Rattle.ssr_syntax_tree.proofs.Shared.{IsChild, children_known, elements_had, parts_of-elements_of}
use Rattle.ssr_syntax_forms.specs.declared.tokens.Token.{Token}
use Rattle.ssr_syntax_forms.specs.Trees.{Forest, done, leaf, tree, spell}
use Rattle.ssr_syntax_places.specs.Core.{Holes, arguments, is_leaf}
use Rattle.ssr_syntax_places.specs.PlainCore.{forest_in, tokens_like}
use Rattle.ssr_syntax_shorts.specs.Names.{place_of, AreNames}
use Rattle.ssr_syntax_shorts.specs.declared.arguments.Turn.{Turn}
use Rattle.ssr_syntax_shorts.specs.declared.arguments.Turn.TheVariants as turns
use Rattle.ssr_syntax_shorts.specs.declared.operands.Need.TheVariants as need
use Rattle.ssr_syntax_shorts.specs.Private.Arguments.{accepts, count_at, in_front_of, place_at, IsTurn}
use Rattle.ssr_syntax_shorts.specs.Private.Marks.{IsMark}
use Rattle.ssr_syntax_shorts.specs.Private.Operands.{MeetsAlways, are_arguments, meets}
use Rattle.ssr_syntax_shorts.specs.Private.Shapes.{solid_parts}
use Rattle.ssr_syntax_shorts.proofs.SolidChildren.{AreBehind, child_smaller, forest_of, laid_node, solid_step}

-- ** Steps.

module _ (s : Syntax) (names : List TokenNo) where
  pub opens : (token : TokenNo) → IsMark s names (k.L_PAREN ∷ []) token.0 → IsTurn s names turns.Opening (element.Token token) turns.Argument
  opens token mark holes are rest accepted = and_from _ _ (mark holes are) accepted

  nothing_left : (holes : Holes) (at : ℕ) (rest : Forest) → accepts holes turns.Closed at rest ≡ true → rest ≡ done
  nothing_left holes at done is = refl
  nothing_left holes at _ is = absurd (cc)

  pub closes : (token : TokenNo) → IsMark s names (k.R_PAREN ∷ []) token.0 → IsTurn s names turns.Argument (element.Token token) turns.Closed
  closes token mark holes are rest accepted =
      subst (λ z. arguments holes (place_of s token.0) (leaf (token_of s token.0).kind (tokens_like (token_of s token.0).kind) z) ≡ true)
      (sym (nothing_left holes (place_of s token.0 + length (tokens_like (token_of s token.0).kind)) rest accepted)) (mark holes are)

  pub closes_behind : (token : TokenNo) → IsMark s names (k.R_PAREN ∷ []) token.0 → IsTurn s names turns.Behind (element.Token token) turns.Closed
  closes_behind token mark holes are rest accepted =
      subst (λ z. accepts holes turns.Behind (place_of s token.0) (leaf (token_of s token.0).kind (tokens_like (token_of s token.0).kind) z) ≡ true)
      (sym (nothing_left holes (place_of s token.0 + length (tokens_like (token_of s token.0).kind)) rest accepted)) (mark holes are)

  comma_before : (holes : Holes) (at : ℕ) (b : SyntaxKind) (vs : List Token) (rest : Forest) → is_leaf holes at (k.COMMA ∷ []) b vs ≡ true
      → arguments holes (at + length vs) rest ≡ true → accepts holes turns.Behind at (leaf b vs rest) ≡ true
  comma_before holes at b vs done is list = absurd (cc)
  comma_before holes at b vs (leaf a us x) is list = and_from _ _ is list
  comma_before holes at b vs (tree m xs x) is list = and_from _ _ is list

  pub goes_on : (token : TokenNo) → IsMark s names (k.COMMA ∷ []) token.0 → IsTurn s names turns.Behind (element.Token token) turns.Argument
  goes_on token mark holes are rest accepted =
      comma_before holes (place_of s token.0) (token_of s token.0).kind (tokens_like (token_of s token.0).kind) rest (mark holes are) accepted

  argument_before : (holes : Holes) (at : ℕ) (m : SyntaxKind) (xs rest : Forest) → meets holes need.Inside at m xs ≡ true
      → accepts holes turns.Behind (at + length (spell xs)) rest ≡ true → arguments holes at (tree m xs rest) ≡ true
  argument_before holes at m xs (leaf b vs done) is list = and_from _ _ is list
  argument_before holes at m xs (leaf b vs (leaf a us x)) is list = let halves = and_parts _ _ list in and_from _ _ (and_from _ _ is halves.0) halves.1
  argument_before holes at m xs (leaf b vs (tree p ys x)) is list = let halves = and_parts _ _ list in and_from _ _ (and_from _ _ is halves.0) halves.1
  argument_before holes at m xs done is list = absurd (cc)
  argument_before holes at m xs (tree p ys x) is list = absurd (cc)

  pub is_argument : (argument : NodeNo) → MeetsAlways s names need.Inside argument.0 → IsTurn s names turns.Argument (element.Node argument) turns.Behind
  is_argument argument met holes are rest accepted =
      argument_before holes (place_of s (node_of s argument.0).first) (node_of s argument.0).kind (forest_in (node_of s argument.0).children) rest
      (met holes are) accepted

-- ** All of them.

pub record IsListing (s : Syntax) (names : List TokenNo) (n : ℕ) (turn : Turn) (left : List Element) : Type 0 where
  pub at : ℕ
  pub behind : AreBehind s at (solid_parts (map (part_of s) left))
  pub makes : (holes : Holes) → AreNames s names holes → accepts holes turn at (forest_of (solid_parts (map (part_of s) left))) ≡ true
      → accepts holes turns.Opening (place_of s (node_of s n).first) (forest_in (node_of s n).children) ≡ true
  pub to_come : All (HasElement s) left
  pub children : All (IsChild s n) (map (part_of s) left)

module _ (s : Syntax) (names : List TokenNo) (n : ℕ) (has : HasNode s n) where
  pub listing_starts : (left : List Element) → left ≡ elements_of (node_of s n) → IsListing s names n turns.Opening left
  listing_starts left same =
      let l = laid_node s n has in
      let parts : map (part_of s) left ≡ parts_of (node_of s n) = ap (map (part_of s)) same ∙ parts_of-elements_of s n has in
      record {
        at = place_of s (node_of s n).first;
        behind = subst (λ ps. AreBehind s (place_of s (node_of s n).first) (solid_parts ps)) (sym parts) l.behind;
        makes = λ holes are accepted.
            subst (λ z. accepts holes turns.Opening (place_of s (node_of s n).first) z ≡ true) (ap (λ ps. forest_of (solid_parts ps)) parts ∙ sym l.forest) accepted;
        to_come = subst (All (HasElement s)) (sym same) (elements_had s n has);
        children = subst (All (IsChild s n)) (sym parts) (children_known s n has);
      }

  pub listing_child : (turn : Turn) (left behind : List Element) (child : Element) → IsListing s names n turn left → left ≡ child ∷ behind
      → HasElement s child × IsChild s n (part_of s child)
  listing_child turn left behind child is steps = (
    All-head (HasElement s) child behind (subst (All (HasElement s)) steps is.to_come),
    All-head (IsChild s n) (part_of s child) (map (part_of s) behind) (subst (λ es. All (IsChild s n) (map (part_of s) es)) steps is.children),
  )

  rest_children : (left behind : List Element) (child : Element) → left ≡ child ∷ behind → All (IsChild s n) (map (part_of s) left)
      → All (IsChild s n) (map (part_of s) behind)
  rest_children left behind child steps all =
      All-tail (IsChild s n) (part_of s child) (map (part_of s) behind) (subst (λ es. All (IsChild s n) (map (part_of s) es)) steps all)

  -- the solid children that are left, with the first of them or without it
  left_are : (left behind : List Element) (child : Element) (front : List Part) → left ≡ child ∷ behind → solid_parts (part_of s child ∷ []) ≡ front
      → solid_parts (map (part_of s) left) ≡ front ++ solid_parts (map (part_of s) behind)
  left_are left behind child front steps is =
      ap (λ es. solid_parts (map (part_of s) es)) steps ∙ solid_step (part_of s child) (map (part_of s) behind)
      ∙ ap (λ ps. ps ++ solid_parts (map (part_of s) behind)) is

  pub listing_passes : (turn : Turn) (left behind : List Element) (child : Element) → IsListing s names n turn left → left ≡ child ∷ behind
      → solid_parts (part_of s child ∷ []) ≡ [] → IsListing s names n turn behind
  listing_passes turn left behind child is steps none =
      let same = left_are left behind child [] steps none in
      record {
        at = is.at;
        behind = subst (AreBehind s is.at) same is.behind;
        makes = λ holes are accepted. is.makes holes are (subst (λ ps. accepts holes turn is.at (forest_of ps) ≡ true) (sym same) accepted);
        to_come = All-rest (HasElement s) child behind left steps is.to_come;
        children = rest_children left behind child steps is.children;
      }

  -- where a child stands, and what stands behind it
  child_stands : (at : ℕ) (child : Element) (parts : List Part) → AreBehind s at (part_of s child ∷ parts)
      → (place_at s child ≡ at) × AreBehind s (place_at s child + count_at s child) parts
  child_stands at (element.Token t) parts behind =
      (behind.0, subst (λ m. AreBehind s (m + length (tokens_like (token_of s t.0).kind)) parts) (sym behind.0) behind.1)
  child_stands at (element.Node m) parts behind =
      (behind.0, subst (λ p. AreBehind s (p + length (spell (forest_in (node_of s m.0).children))) parts) (sym behind.0) behind.1)

  child_first : (child : Element) (parts : List Part) → forest_of (part_of s child ∷ parts) ≡ in_front_of s child (forest_of parts)
  child_first (element.Token t) parts = refl
  child_first (element.Node m) parts = refl

  pub listing_goes_on : (turn next : Turn) (left behind : List Element) (child : Element) → IsListing s names n turn left → left ≡ child ∷ behind
      → solid_parts (part_of s child ∷ []) ≡ part_of s child ∷ [] → IsTurn s names turn child next → IsListing s names n next behind
  listing_goes_on turn next left behind child is steps one step =
      let rest : List Part = solid_parts (map (part_of s) behind) in
      let same = left_are left behind child (part_of s child ∷ []) steps one in
      let stands = child_stands is.at child rest (subst (AreBehind s is.at) same is.behind) in
      record {
        at = place_at s child + count_at s child;
        behind = stands.1;
        makes = λ holes are accepted.
            is.makes holes are
            (subst (λ ps. accepts holes turn is.at (forest_of ps) ≡ true) (sym same)
            (subst (λ z. accepts holes turn is.at z ≡ true) (sym (child_first child rest))
            (subst (λ p. accepts holes turn p (in_front_of s child (forest_of rest)) ≡ true) stands.0 (step holes are (forest_of rest) accepted))));
        to_come = All-rest (HasElement s) child behind left steps is.to_come;
        children = rest_children left behind child steps is.children;
      }

  list_by : (holes : Holes) (at : ℕ) (kind : SyntaxKind) (z : Forest) → same_kind kind k.ARG_LIST ≡ true → accepts holes turns.Opening at z ≡ true
      → are_arguments holes at kind z ≡ true
  list_by holes at kind (leaf a us args) is accepted = and_from _ _ is accepted
  list_by holes at kind _ is accepted = absurd (cc)

  pub listing_ends : (left : List Element) → IsListing s names n turns.Closed left → left ≡ [] → same_kind (node_of s n).kind k.ARG_LIST ≡ true
      → MeetsAlways s names need.Arguments n
  listing_ends left is none kind holes are =
      list_by holes (place_of s (node_of s n).first) (node_of s n).kind (forest_in (node_of s n).children) kind
      (is.makes holes are (subst (λ es. accepts holes turns.Closed is.at (forest_of (solid_parts (map (part_of s) es))) ≡ true) (sym none) refl))

-- ** How much is below.

abbrev pub element_size : Syntax → Element → ℕ
element_size s (element.Node m) = 2 + 3 * size_of (node_of s m.0)
element_size s (element.Token t) = 0

pub element_smaller : (s : Syntax) (n : ℕ) (child : Element) → HasNode s n → HasElement s child → IsChild s n (part_of s child)
    → element_size s child < 3 * size_of (node_of s n)
element_smaller s n (element.Node m) has there is = let less = child_smaller s n m.0 has there is in omega (arith, less)
element_smaller s n (element.Token t) has there is = omega arith

-- Paths of names, node by node.
use Rattle.std.proofs.Common.{◌≡◌, ℕ, ◌+◌, true, List, [], ◌∷◌, length, sym, subst}
use Rattle.std.proofs.lemmas.Bool.{and_from}
use Rattle.ssr_syntax_kinds.specs.Kinds.{same_kind}
use Rattle.ssr_syntax_kinds.specs.declared.kinds.SyntaxKind.{SyntaxKind}
use Rattle.ssr_syntax_kinds.specs.declared.kinds.SyntaxKind.TheVariants as k
use Rattle.ssr_syntax_tree.specs.Syntax.{Syntax}
use Rattle.ssr_syntax_tree.specs.Places.{token_part, node_part, HasNode, node_of, token_of}
use Rattle.ssr_syntax_tree.specs.declared.number.Element.TheVariants as element
use Rattle.ssr_syntax_tree.specs.declared.number.NodeNo.{NodeNo}
use Rattle.ssr_syntax_tree.specs.declared.number.TokenNo.{TokenNo}
use Rattle.ssr_syntax_forms.specs.Trees.{Forest, done, leaf, tree, spell}
use Rattle.ssr_syntax_types.specs.Paths.{path_names}
use Rattle.ssr_syntax_places.specs.Core.{Holes, is_name_ref, is_path, is_segment}
use Rattle.ssr_syntax_shorts.specs.Names.{place_of}
use Rattle.ssr_syntax_shorts.specs.Private.Marks.{IsMark, IsNameRef, IsPathAt, IsSegment}
use Rattle.ssr_syntax_shorts.specs.Private.Shapes.{AreSolid}
use Rattle.ssr_syntax_shorts.proofs.SolidChildren.{laid}
use Rattle.ssr_syntax_shorts.proofs.Below.{kind_at, kids_at, front_of, mark_kind, mark_of, behind_token, behind_node, leaf_there}

module _ (s : Syntax) (names : List TokenNo) (node : NodeNo) (has : HasNode s node.0) where
  pub name_ref_by : (name : TokenNo) (kinds : List SyntaxKind) → AreSolid s node.0 (element.Token name ∷ []) → same_kind (kind_at s node) k.NAME_REF ≡ true
      → IsMark s names kinds name.0 → IsNameRef s names kinds node.0
  name_ref_by name kinds solid kind mark holes are =
      let l = laid s node.0 (element.Token name ∷ []) has solid in
      subst (λ z. is_name_ref holes (front_of s node) kinds (kind_at s node) z ≡ true) (sym l.forest)
      (and_from _ _ kind
      (leaf_there holes (place_of s name.0) (front_of s node) kinds (mark_kind s name) (mark_of s name) l.behind.0 (mark holes are)))

  segment_of : (holes : Holes) (at : ℕ) (kind r : SyntaxKind) (z : Forest) → same_kind kind k.PATH_SEGMENT ≡ true → is_name_ref holes at path_names r z ≡ true
      → is_segment holes at kind (tree r z done) ≡ true
  segment_of holes at kind r (leaf a us done) is name = and_from _ _ is name
  segment_of holes at kind r _ is name = absurd (cc)

  pub segment_by : (name : NodeNo) → AreSolid s node.0 (element.Node name ∷ []) → same_kind (kind_at s node) k.PATH_SEGMENT ≡ true
      → IsNameRef s names path_names name.0 → IsSegment s names node.0
  segment_by name solid kind is holes are =
      let l = laid s node.0 (element.Node name ∷ []) has solid in
      subst (λ z. is_segment holes (front_of s node) (kind_at s node) z ≡ true) (sym l.forest)
      (segment_of holes (front_of s node) (kind_at s node) (kind_at s name) (kids_at s name) kind
      (subst (λ n. is_name_ref holes n path_names (kind_at s name) (kids_at s name) ≡ true) l.behind.0 (is holes are)))

  pub path_one : (name : NodeNo) → AreSolid s node.0 (element.Node name ∷ []) → IsSegment s names name.0 → IsPathAt s names node.0
  path_one name solid is holes are =
      let l = laid s node.0 (element.Node name ∷ []) has solid in
      subst (λ z. is_path holes (front_of s node) z ≡ true) (sym l.forest)
      (subst (λ n. is_segment holes n (kind_at s name) (kids_at s name) ≡ true) l.behind.0 (is holes are))

  pub path_longer : (path : NodeNo) (colons : TokenNo) (name : NodeNo)
      → AreSolid s node.0 (element.Node path ∷ element.Token colons ∷ element.Node name ∷ []) → same_kind (kind_at s path) k.PATH ≡ true
      → IsMark s names (k.COLON2 ∷ []) colons.0 → IsSegment s names name.0 → IsPathAt s names path.0 → IsPathAt s names node.0
  path_longer path colons name solid kind mark last front holes are =
      let l = laid s node.0 (element.Node path ∷ element.Token colons ∷ element.Node name ∷ []) has solid in
      let behind : ℕ = front_of s node + length (spell (kids_at s path)) in
      let second = behind_node s (front_of s node) path.0 (token_part colons.0 (token_of s colons.0) ∷ node_part (node_of s name.0) ∷ []) l.behind in
      let third = behind_token s behind colons.0 (token_of s colons.0) (node_part (node_of s name.0) ∷ []) second in
      subst (λ z. is_path holes (front_of s node) z ≡ true) (sym l.forest)
      (and_from _ _
      (and_from _ _ kind (subst (λ n. is_path holes n (kids_at s path) ≡ true) l.behind.0 (front holes are)))
      (and_from _ _
      (leaf_there holes (place_of s colons.0) behind (k.COLON2 ∷ []) (mark_kind s colons) (mark_of s colons) second.0 (mark holes are))
      (subst (λ n. is_segment holes n (kind_at s name) (kids_at s name) ≡ true) third.0 (last holes are))))

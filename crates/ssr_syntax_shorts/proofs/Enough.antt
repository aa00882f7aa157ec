-- Each shape of a core node: it is core if the nodes below it are.
use Rattle.std.proofs.Common.{◌≡◌, ℕ, ◌+◌, ◌<◌, ◌≤◌, Bool, true, false, ◌||◌, List, [], ◌∷◌, All, length, Some, None, Option, refl, sym, ap, subst, ◌∙◌, arith}
use Rattle.std.specs.Prelude.{if◌then◌else◌, suc}
use Rattle.std.proofs.lemmas.Bool.{and_from, and_parts, le-leb, lt-ltb}
use Rattle.std.proofs.lemmas.List.Elements.{All-nil, All-cons, All-head, All-tail}
use Rattle.std.proofs.Math.Bool.{or-false}
use Rattle.ssr_syntax_kinds.specs.Kinds.{same_kind}
use Rattle.ssr_syntax_kinds.specs.declared.kinds.SyntaxKind.{SyntaxKind}
use Rattle.ssr_syntax_kinds.specs.declared.kinds.SyntaxKind.TheVariants as k
use Rattle.ssr_syntax_kinds.proofs.Shared.{same_kind-equal}
use Rattle.ssr_syntax_tree.specs.Syntax.{Syntax}
use Rattle.ssr_syntax_tree.specs.Places.{Part, token_part, node_part, HasNode, node_of, token_of, size_of}
use Rattle.ssr_syntax_tree.specs.declared.number.Element.TheVariants as element
use Rattle.ssr_syntax_tree.specs.declared.number.NodeNo.{NodeNo}
use Rattle.ssr_syntax_tree.specs.declared.number.TokenNo.{TokenNo}
use Rattle.ssr_syntax_forms.specs.declared.tokens.Token.{Token}
use Rattle.ssr_syntax_forms.specs.Kinds.{mem}
use Rattle.ssr_syntax_forms.specs.Trees.{Forest, done, leaf, tree, spell}
use Rattle.ssr_syntax_types.specs.Literals.{literals}
use Rattle.ssr_syntax_types.specs.Paths.{path_names}
use Rattle.ssr_syntax_exprs.specs.Expressions.{operators, prefix_operators, ranks, row}
use Rattle.ssr_syntax.specs.Operands.{row_in}
use Rattle.ssr_syntax_places.specs.Core.{Hole, Holes, are_spelled, arguments, binds_enough, core, is_ampersand, is_leaf, is_name_ref, is_no_hole, is_path, is_segment, member_names}
use Rattle.ssr_syntax_places.specs.PlainCore.{tokens_like}
use Rattle.ssr_syntax_shorts.specs.Names.{place_of, AreNames}
use Rattle.ssr_syntax_shorts.specs.declared.operands.Asked.{Asked}
use Rattle.ssr_syntax_shorts.specs.declared.operands.Need.{Need}
use Rattle.ssr_syntax_shorts.specs.declared.operands.Need.TheVariants as need
use Rattle.ssr_syntax_shorts.specs.Private.Marks.{IsMark, IsNameRef, IsOwn, IsPathAt}
use Rattle.ssr_syntax_shorts.specs.Private.Operands.{AreEnough, MeetsBy, are_arguments, meets}
use Rattle.ssr_syntax_shorts.specs.Private.Shapes.{AreSolid}
use Rattle.ssr_syntax_shorts.proofs.Names.{mark_of_kinds}
use Rattle.ssr_syntax_shorts.proofs.SolidChildren.{Laid, forest_of, laid}
use Rattle.ssr_syntax_shorts.proofs.Below.{kind_at, kids_at, front_of, mark_kind, mark_of, behind_token, behind_node, IsBelow, first_below, second_below, third_below, fourth_below, leaf_there}

-- ** Words.

-- what is asked of one node, or of two
one_has : (P : Asked → Type 0) (a : Asked) → P a → All P (a ∷ [])
one_has P a is = All-cons P a [] is (All-nil P)

two_have : (P : Asked → Type 0) (a b : Asked) → P a → P b → All P (a ∷ b ∷ [])
two_have P a b is also = All-cons P a (b ∷ []) is (one_has P b also)

first_has : (P : Asked → Type 0) (a : Asked) (rest : List Asked) → All P (a ∷ rest) → P a
first_has P a rest all = All-head P a rest all

second_has : (P : Asked → Type 0) (a b : Asked) (rest : List Asked) → All P (a ∷ b ∷ rest) → P b
second_has P a b rest all = All-head P b rest (All-tail P a (b ∷ rest) all)

if_true : (b x y : Bool) → b ≡ true → x ≡ true → (if b then x else y) ≡ true
if_true true x y is also = also
if_true false x y is also = absurd (cc)

if_false : (b x y : Bool) → b ≡ false → y ≡ true → (if b then x else y) ≡ true
if_false true x y is also = absurd (cc)
if_false false x y is also = also

-- a field is no operator
other_kind : (kind : SyntaxKind) → same_kind kind k.FIELD_EXPR ≡ true → same_kind kind k.BIN_EXPR ≡ false
other_kind kind is = subst (λ w. same_kind w k.BIN_EXPR ≡ false) (sym (same_kind-equal kind k.FIELD_EXPR is)) refl

-- ** By places.

core_there : (holes : Holes) (callable : Bool) (n place at : ℕ) (kind : SyntaxKind) (kids : Forest) → place ≡ at → core holes callable n place kind kids ≡ true
    → core holes callable n at kind kids ≡ true
core_there holes callable n place at kind kids e is = subst (λ m. core holes callable n m kind kids ≡ true) e is

inside_there : (holes : Holes) (place at : ℕ) (kind : SyntaxKind) (kids : Forest) → place ≡ at → meets holes need.Inside place kind kids ≡ true
    → meets holes need.Inside at kind kids ≡ true
inside_there holes place at kind kids e is = subst (λ m. meets holes need.Inside m kind kids ≡ true) e is

or_left : (a b : Bool) → a ≡ true → (a || b) ≡ true
or_left a b is = ap (λ x. x || b) is

or_right : (a b : Bool) → b ≡ true → (a || b) ≡ true
or_right true b is = refl
or_right false b is = is

-- a segment that is a name has a name in it
segment_free : (holes : Holes) (at : ℕ) (kind : SyntaxKind) (kids : Forest) → is_segment holes at kind kids ≡ true → is_no_hole (holes at) ≡ true
segment_free holes at kind (tree r (leaf a us done) done) is = leaf_free us (and_parts _ _ (and_parts _ _ is).1).1 where
  leaf_free : (us : List Token) → is_leaf holes at path_names a us ≡ true → is_no_hole (holes at) ≡ true
  leaf_free [] is = absurd (cc)
  leaf_free (t ∷ us) is = (and_parts _ _ (and_parts _ _ is).1).0
segment_free holes at kind _ is = absurd (cc)

-- the first name of a path stands for nothing
path_free : (holes : Holes) (at : ℕ) (path : Forest) → is_path holes at path ≡ true → is_no_hole (holes at) ≡ true
path_free holes at (tree s kids done) is = segment_free holes at s kids is
path_free holes at (tree p path (leaf a us (tree s kids done))) is = path_free holes at path (and_parts _ _ (and_parts _ _ is).0).1
path_free holes at _ is = absurd (cc)

enough_names : (o : Option Hole) (callable : Bool) (n : ℕ) (is_names : Bool) (us : List Token) → is_no_hole o ≡ true → is_names ≡ true
    → binds_enough o callable n is_names us ≡ true
enough_names None callable n is_names us free is = is
enough_names (Some hole) callable n is_names us free is = absurd (cc)

one_kind : (a b : SyntaxKind) → mem a (b ∷ []) ≡ true → a ≡ b
one_kind a b is = same_kind-equal a b (sym (or-false (same_kind a b)) ∙ is)

-- the token `&`
ampersand_by : (holes : Holes) (at : ℕ) (kind : SyntaxKind) → is_leaf holes at (k.AMP ∷ []) kind (tokens_like kind) ≡ true
    → is_ampersand holes at kind (tokens_like kind) ≡ true
ampersand_by holes at kind is =
    let halves = and_parts _ _ is in
    let same : kind ≡ k.AMP = one_kind kind k.AMP (and_parts _ _ (and_parts _ _ halves.0).0).0 in
    subst (λ w. is_ampersand holes at w (tokens_like w) ≡ true) (sym same)
    (and_from _ _ refl (subst (λ w. are_spelled holes at (tokens_like w) ≡ true) same halves.1))

-- the row of an operator has it
row_has : (rows : List (List SyntaxKind)) (kind : SyntaxKind) → row_in rows kind < length rows → mem kind (row (row_in rows kind) rows) ≡ true
row_has [] kind lt = absurd (omega arith)
row_has (ks ∷ rows) kind lt = by_row (mem kind ks) refl lt (λ less. row_has rows kind less) where
  by_row : (b : Bool) → mem kind ks ≡ b → (if b then 0 else suc (row_in rows kind)) < suc (length rows)
      → (row_in rows kind < length rows → mem kind (row (row_in rows kind) rows) ≡ true)
      → mem kind (row (if b then 0 else suc (row_in rows kind)) (ks ∷ rows)) ≡ true
  by_row true is less later = is
  by_row false is less later = later (omega (arith, less))

-- an operator of a rank that stands for itself is a mark
pub operator_mark : (s : Syntax) (names : List TokenNo) (operator : TokenNo) (rank : ℕ) → row_in ranks (mark_kind s operator) ≡ rank → rank < 9
    → IsOwn s names operator.0 → IsMark s names (operators (row_in ranks (mark_kind s operator))) operator.0
unfolding operators
operator_mark s names operator rank is lt own =
    mark_of_kinds s names (operators (row_in ranks (mark_kind s operator))) operator.0
    (row_has ranks (mark_kind s operator) (let less : row_in ranks (mark_kind s operator) < 9 = omega (arith, is, lt) in less)) own

-- ** Atoms.

module _ (s : Syntax) (names : List TokenNo) (node : NodeNo) (callable : Bool) (most : ℕ) (has : HasNode s node.0) where
  -- the forest below, by its shape
  by_shape : (holes : Holes) (parts : List Part) → Laid s node.0 parts
      → core holes callable most (front_of s node) (kind_at s node) (forest_of parts) ≡ true → MeetsBy s holes (need.Operand callable most) node.0
  by_shape holes parts l is = subst (λ z. core holes callable most (front_of s node) (kind_at s node) z ≡ true) (sym l.forest) is

  pub literal_enough : (token : TokenNo) → AreSolid s node.0 (element.Token token ∷ []) → same_kind (kind_at s node) k.LITERAL ≡ true
      → IsMark s names literals token.0 → AreEnough s names (need.Operand callable most) node.0 []
  literal_enough token solid kind mark = record {
    has = All-nil _;
    below = All-nil _;
    meets = λ holes are all.
        let l = laid s node.0 (element.Token token ∷ []) has solid in
        by_shape holes _ l
        (and_from _ _ kind
        (leaf_there holes (place_of s token.0) (front_of s node) literals (mark_kind s token) (mark_of s token) l.behind.0 (mark holes are)));
  }

  pub path_enough : (path : NodeNo) → AreSolid s node.0 (element.Node path ∷ []) → same_kind (kind_at s node) k.PATH_EXPR ≡ true
      → same_kind (kind_at s path) k.PATH ≡ true → IsPathAt s names path.0 → AreEnough s names (need.Operand callable most) node.0 []
  path_enough path solid kind path_kind is = record {
    has = All-nil _;
    below = All-nil _;
    meets = λ holes are all.
        let l = laid s node.0 (element.Node path ∷ []) has solid in
        let there : is_path holes (front_of s node) (kids_at s path) ≡ true =
        subst (λ n. is_path holes n (kids_at s path) ≡ true) l.behind.0 (is holes are) in
        by_shape holes _ l
        (and_from _ _ kind
        (enough_names (holes (front_of s node)) callable most _ (spell (kids_at s path)) (path_free holes (front_of s node) (kids_at s path) there)
        (and_from _ _ path_kind there)));
  }

  -- ** Operators in front.

  one_enough : (right : NodeNo) (asked : Asked) (n : Need) → IsBelow s node.0 right.0 → asked.node ≡ right → asked.need ≡ n
      → ((holes : Holes) → AreNames s names holes → MeetsBy s holes n right.0 → MeetsBy s holes (need.Operand callable most) node.0)
      → AreEnough s names (need.Operand callable most) node.0 (asked ∷ [])
  one_enough right asked n is same wants makes = record {
    has = one_has (λ (x : Asked). HasNode s x.node.0) asked (subst (λ (m : NodeNo). HasNode s m.0) (sym same) is.has);
    below = one_has (λ (x : Asked). size_of (node_of s x.node.0) < size_of (node_of s node.0)) asked (subst (λ (m : NodeNo). size_of (node_of s m.0) < size_of (node_of s node.0)) (sym same) is.fewer);
    meets = λ holes are all.
        makes holes are
        (subst (λ (m : NodeNo). MeetsBy s holes n m.0) same
        (subst (λ w. MeetsBy s holes w asked.node.0) wants (first_has (λ (a : Asked). MeetsBy s holes a.need a.node.0) asked [] all)));
  }

  two_enough : (left right : NodeNo) (a b : Asked) (n m : Need) → IsBelow s node.0 left.0 → IsBelow s node.0 right.0
      → a.node ≡ left → a.need ≡ n → b.node ≡ right → b.need ≡ m
      → ((holes : Holes) → AreNames s names holes → MeetsBy s holes n left.0 → MeetsBy s holes m right.0 → MeetsBy s holes (need.Operand callable most) node.0)
      → AreEnough s names (need.Operand callable most) node.0 (a ∷ b ∷ [])
  two_enough left right a b n m is also same wants other needs makes = record {
    has = two_have (λ (x : Asked). HasNode s x.node.0) a b (subst (λ (p : NodeNo). HasNode s p.0) (sym same) is.has) (subst (λ (p : NodeNo). HasNode s p.0) (sym other) also.has);
    below =
        two_have (λ (x : Asked). size_of (node_of s x.node.0) < size_of (node_of s node.0)) a b
        (subst (λ (p : NodeNo). size_of (node_of s p.0) < size_of (node_of s node.0)) (sym same) is.fewer)
        (subst (λ (p : NodeNo). size_of (node_of s p.0) < size_of (node_of s node.0)) (sym other) also.fewer);
    meets = λ holes are all.
        makes holes are
        (subst (λ (p : NodeNo). MeetsBy s holes n p.0) same
        (subst (λ w. MeetsBy s holes w a.node.0) wants (first_has (λ (x : Asked). MeetsBy s holes x.need x.node.0) a (b ∷ []) all)))
        (subst (λ (p : NodeNo). MeetsBy s holes m p.0) other
        (subst (λ w. MeetsBy s holes w b.node.0) needs (second_has (λ (x : Asked). MeetsBy s holes x.need x.node.0) a b [] all)));
  }

  pub prefix_enough : (operator : TokenNo) (right : NodeNo) (asked : Asked) → AreSolid s node.0 (element.Token operator ∷ element.Node right ∷ []) → 2 ≤ most
      → same_kind (kind_at s node) k.PREFIX_EXPR ≡ true → IsMark s names prefix_operators operator.0
      → asked.node ≡ right → asked.need ≡ need.Operand callable 2 → AreEnough s names (need.Operand callable most) node.0 (asked ∷ [])
  prefix_enough operator right asked solid le kind mark same wants =
      let l = laid s node.0 (element.Token operator ∷ element.Node right ∷ []) has solid in
      let second = behind_token s (front_of s node) operator.0 (token_of s operator.0) (node_part (node_of s right.0) ∷ []) l.behind in
      one_enough right asked (need.Operand callable 2) (second_below s node.0 (element.Token operator) right [] has solid) same wants
      (λ holes are met.
      by_shape holes _ l
      (and_from _ _
      (and_from _ _ (le-leb 2 most le)
      (core_there holes callable 2 (front_of s right) (front_of s node + length (mark_of s operator)) (kind_at s right) (kids_at s right) second.0 met))
      (or_left _ _
      (and_from _ _ kind
      (leaf_there holes (place_of s operator.0) (front_of s node) prefix_operators (mark_kind s operator) (mark_of s operator) l.behind.0 (mark holes are))))))

  pub reference_enough : (operator : TokenNo) (right : NodeNo) (asked : Asked) → AreSolid s node.0 (element.Token operator ∷ element.Node right ∷ []) → 2 ≤ most
      → same_kind (kind_at s node) k.REF_EXPR ≡ true → IsMark s names (k.AMP ∷ []) operator.0
      → asked.node ≡ right → asked.need ≡ need.Operand callable 2 → AreEnough s names (need.Operand callable most) node.0 (asked ∷ [])
  reference_enough operator right asked solid le kind mark same wants =
      let l = laid s node.0 (element.Token operator ∷ element.Node right ∷ []) has solid in
      let second = behind_token s (front_of s node) operator.0 (token_of s operator.0) (node_part (node_of s right.0) ∷ []) l.behind in
      one_enough right asked (need.Operand callable 2) (second_below s node.0 (element.Token operator) right [] has solid) same wants
      (λ holes are met.
      by_shape holes _ l
      (and_from _ _
      (and_from _ _ (le-leb 2 most le)
      (core_there holes callable 2 (front_of s right) (front_of s node + length (mark_of s operator)) (kind_at s right) (kids_at s right) second.0 met))
      (or_right _ _
      (and_from _ _ kind
      (ampersand_by holes (front_of s node) (mark_kind s operator)
      (leaf_there holes (place_of s operator.0) (front_of s node) (k.AMP ∷ []) (mark_kind s operator) (mark_of s operator) l.behind.0 (mark holes are)))))))

  -- ** In parentheses.

  pub paren_enough : (opening closing : TokenNo) (within : NodeNo) (asked : Asked)
      → AreSolid s node.0 (element.Token opening ∷ element.Node within ∷ element.Token closing ∷ [])
      → same_kind (kind_at s node) k.PAREN_EXPR ≡ true → IsMark s names (k.L_PAREN ∷ []) opening.0 → IsMark s names (k.R_PAREN ∷ []) closing.0
      → asked.node ≡ within → asked.need ≡ need.Inside → AreEnough s names (need.Operand callable most) node.0 (asked ∷ [])
  paren_enough opening closing within asked solid kind opens closes same wants =
      let l = laid s node.0 (element.Token opening ∷ element.Node within ∷ element.Token closing ∷ []) has solid in
      let behind : ℕ = front_of s node + length (mark_of s opening) in
      let second = behind_token s (front_of s node) opening.0 (token_of s opening.0) (node_part (node_of s within.0) ∷ token_part closing.0 (token_of s closing.0) ∷ []) l.behind in
      let third = behind_node s behind within.0 (token_part closing.0 (token_of s closing.0) ∷ []) second in
      one_enough within asked need.Inside (second_below s node.0 (element.Token opening) within (element.Token closing ∷ []) has solid) same wants
      (λ holes are met.
      by_shape holes _ l
      (and_from _ _
      (inside_there holes (front_of s within) behind (kind_at s within) (kids_at s within) second.0 met)
      (and_from _ _ kind
      (and_from _ _
      (leaf_there holes (place_of s opening.0) (front_of s node) (k.L_PAREN ∷ []) (mark_kind s opening) (mark_of s opening) l.behind.0 (opens holes are))
      (leaf_there holes (place_of s closing.0) (behind + length (spell (kids_at s within))) (k.R_PAREN ∷ []) (mark_kind s closing) (mark_of s closing) third.0
      (closes holes are))))))

  -- ** Between two operands.

  pub binary_enough : (left right : NodeNo) (operator : TokenNo) (a b : Asked)
      → AreSolid s node.0 (element.Node left ∷ element.Token operator ∷ element.Node right ∷ [])
      → (rank : ℕ) → row_in ranks (mark_kind s operator) ≡ rank → rank < 9 → 4 + rank ≤ most
      → same_kind (kind_at s node) k.BIN_EXPR ≡ true → IsOwn s names operator.0
      → a.node ≡ left → a.need ≡ need.Operand false (4 + rank) → b.node ≡ right → b.need ≡ need.Operand callable (3 + rank)
      → AreEnough s names (need.Operand callable most) node.0 (a ∷ b ∷ [])
  binary_enough left right operator a b solid rank is lt le kind own same wants other needs =
      let l = laid s node.0 (element.Node left ∷ element.Token operator ∷ element.Node right ∷ []) has solid in
      let r : ℕ = row_in ranks (mark_kind s operator) in
      let behind : ℕ = front_of s node + length (spell (kids_at s left)) in
      let second = behind_node s (front_of s node) left.0 (token_part operator.0 (token_of s operator.0) ∷ node_part (node_of s right.0) ∷ []) l.behind in
      let third = behind_token s behind operator.0 (token_of s operator.0) (node_part (node_of s right.0) ∷ []) second in
      two_enough left right a b (need.Operand false (4 + r)) (need.Operand callable (3 + r))
      (first_below s node.0 left (element.Token operator ∷ element.Node right ∷ []) has solid)
      (third_below s node.0 (element.Node left) (element.Token operator) right [] has solid)
      same (wants ∙ ap (λ n. need.Operand false (4 + n)) (sym is)) other (needs ∙ ap (λ n. need.Operand callable (3 + n)) (sym is))
      (λ holes are met also.
      by_shape holes _ l
      (if_true (same_kind (kind_at s node) k.BIN_EXPR) _ _ kind
      (and_from _ _
      (and_from _ _
      (and_from _ _ (lt-ltb r 9 (omega (arith, is, lt))) (le-leb (4 + r) most (omega (arith, is, le))))
      (leaf_there holes (place_of s operator.0) behind (operators r) (mark_kind s operator) (mark_of s operator) second.0
      (operator_mark s names operator rank is lt own holes are)))
      (and_from _ _
      (core_there holes false (4 + r) (front_of s left) (front_of s node) (kind_at s left) (kids_at s left) l.behind.0 met)
      (core_there holes callable (3 + r) (front_of s right) (behind + length (mark_of s operator)) (kind_at s right) (kids_at s right) third.0 also)))))

  pub mut_enough : (ampersand word : TokenNo) (right : NodeNo) (asked : Asked)
      → AreSolid s node.0 (element.Token ampersand ∷ element.Token word ∷ element.Node right ∷ []) → 2 ≤ most
      → same_kind (kind_at s node) k.REF_EXPR ≡ true → IsMark s names (k.AMP ∷ []) ampersand.0 → IsMark s names (k.MUT_KW ∷ []) word.0
      → asked.node ≡ right → asked.need ≡ need.Operand callable 2 → AreEnough s names (need.Operand callable most) node.0 (asked ∷ [])
  mut_enough ampersand word right asked solid le kind mark mut same wants =
      let l = laid s node.0 (element.Token ampersand ∷ element.Token word ∷ element.Node right ∷ []) has solid in
      let behind : ℕ = front_of s node + length (mark_of s ampersand) in
      let second = behind_token s (front_of s node) ampersand.0 (token_of s ampersand.0) (token_part word.0 (token_of s word.0) ∷ node_part (node_of s right.0) ∷ []) l.behind in
      let third = behind_token s behind word.0 (token_of s word.0) (node_part (node_of s right.0) ∷ []) second in
      one_enough right asked (need.Operand callable 2) (third_below s node.0 (element.Token ampersand) (element.Token word) right [] has solid) same wants
      (λ holes are met.
      by_shape holes _ l
      (and_from _ _
      (and_from _ _ (le-leb 2 most le)
      (core_there holes callable 2 (front_of s right) (behind + length (mark_of s word)) (kind_at s right) (kids_at s right) third.0 met))
      (and_from _ _ kind
      (and_from _ _
      (ampersand_by holes (front_of s node) (mark_kind s ampersand)
      (leaf_there holes (place_of s ampersand.0) (front_of s node) (k.AMP ∷ []) (mark_kind s ampersand) (mark_of s ampersand) l.behind.0 (mark holes are)))
      (leaf_there holes (place_of s word.0) behind (k.MUT_KW ∷ []) (mark_kind s word) (mark_of s word) second.0 (mut holes are))))))

  -- ** What goes on with an expression.

  pub try_enough : (left : NodeNo) (question : TokenNo) (asked : Asked) → AreSolid s node.0 (element.Node left ∷ element.Token question ∷ []) → 1 ≤ most
      → same_kind (kind_at s node) k.TRY_EXPR ≡ true → IsMark s names (k.QUESTION ∷ []) question.0
      → asked.node ≡ left → asked.need ≡ need.Operand false 1 → AreEnough s names (need.Operand callable most) node.0 (asked ∷ [])
  try_enough left question asked solid le kind mark same wants =
      let l = laid s node.0 (element.Node left ∷ element.Token question ∷ []) has solid in
      let second = behind_node s (front_of s node) left.0 (token_part question.0 (token_of s question.0) ∷ []) l.behind in
      one_enough left asked (need.Operand false 1) (first_below s node.0 left (element.Token question ∷ []) has solid) same wants
      (λ holes are met.
      by_shape holes _ l
      (and_from _ _
      (and_from _ _ (le-leb 1 most le)
      (core_there holes false 1 (front_of s left) (front_of s node) (kind_at s left) (kids_at s left) l.behind.0 met))
      (and_from _ _ kind
      (leaf_there holes (place_of s question.0) (front_of s node + length (spell (kids_at s left))) (k.QUESTION ∷ []) (mark_kind s question) (mark_of s question)
      second.0 (mark holes are)))))

  pub field_enough : (left : NodeNo) (dot : TokenNo) (name : NodeNo) (asked : Asked)
      → AreSolid s node.0 (element.Node left ∷ element.Token dot ∷ element.Node name ∷ []) → 1 ≤ most
      → same_kind (kind_at s node) k.FIELD_EXPR ≡ true → IsMark s names (k.DOT ∷ []) dot.0 → IsNameRef s names (member_names callable) name.0
      → asked.node ≡ left → asked.need ≡ need.Operand false 1 → AreEnough s names (need.Operand callable most) node.0 (asked ∷ [])
  field_enough left dot name asked solid le kind mark member same wants =
      let l = laid s node.0 (element.Node left ∷ element.Token dot ∷ element.Node name ∷ []) has solid in
      let behind : ℕ = front_of s node + length (spell (kids_at s left)) in
      let second = behind_node s (front_of s node) left.0 (token_part dot.0 (token_of s dot.0) ∷ node_part (node_of s name.0) ∷ []) l.behind in
      let third = behind_token s behind dot.0 (token_of s dot.0) (node_part (node_of s name.0) ∷ []) second in
      one_enough left asked (need.Operand false 1) (first_below s node.0 left (element.Token dot ∷ element.Node name ∷ []) has solid) same wants
      (λ holes are met.
      by_shape holes _ l
      (if_false (same_kind (kind_at s node) k.BIN_EXPR) _ _ (other_kind (kind_at s node) kind)
      (and_from _ _
      (and_from _ _ (le-leb 1 most le)
      (core_there holes false 1 (front_of s left) (front_of s node) (kind_at s left) (kids_at s left) l.behind.0 met))
      (and_from _ _ kind
      (and_from _ _
      (leaf_there holes (place_of s dot.0) behind (k.DOT ∷ []) (mark_kind s dot) (mark_of s dot) second.0 (mark holes are))
      (subst (λ n. is_name_ref holes n (member_names callable) (kind_at s name) (kids_at s name) ≡ true) third.0 (member holes are)))))))

  pub index_enough : (left : NodeNo) (opening : TokenNo) (within : NodeNo) (closing : TokenNo) (a b : Asked)
      → AreSolid s node.0 (element.Node left ∷ element.Token opening ∷ element.Node within ∷ element.Token closing ∷ []) → 1 ≤ most
      → same_kind (kind_at s node) k.INDEX_EXPR ≡ true → IsMark s names (k.L_BRACK ∷ []) opening.0 → IsMark s names (k.R_BRACK ∷ []) closing.0
      → a.node ≡ left → a.need ≡ need.Operand false 1 → b.node ≡ within → b.need ≡ need.Inside
      → AreEnough s names (need.Operand callable most) node.0 (a ∷ b ∷ [])
  index_enough left opening within closing a b solid le kind opens closes same wants other needs =
      let l = laid s node.0 (element.Node left ∷ element.Token opening ∷ element.Node within ∷ element.Token closing ∷ []) has solid in
      let start : ℕ = front_of s node + length (spell (kids_at s left)) in
      let behind : ℕ = start + length (mark_of s opening) in
      let second = behind_node s (front_of s node) left.0
      (token_part opening.0 (token_of s opening.0) ∷ node_part (node_of s within.0) ∷ token_part closing.0 (token_of s closing.0) ∷ []) l.behind in
      let third = behind_token s start opening.0 (token_of s opening.0) (node_part (node_of s within.0) ∷ token_part closing.0 (token_of s closing.0) ∷ []) second in
      let fourth = behind_node s behind within.0 (token_part closing.0 (token_of s closing.0) ∷ []) third in
      two_enough left within a b (need.Operand false 1) need.Inside
      (first_below s node.0 left (element.Token opening ∷ element.Node within ∷ element.Token closing ∷ []) has solid)
      (third_below s node.0 (element.Node left) (element.Token opening) within (element.Token closing ∷ []) has solid)
      same wants other needs
      (λ holes are met also.
      by_shape holes _ l
      (and_from _ _
      (and_from _ _
      (and_from _ _ (le-leb 1 most le)
      (core_there holes false 1 (front_of s left) (front_of s node) (kind_at s left) (kids_at s left) l.behind.0 met))
      (inside_there holes (front_of s within) behind (kind_at s within) (kids_at s within) third.0 also))
      (and_from _ _ kind
      (and_from _ _
      (leaf_there holes (place_of s opening.0) start (k.L_BRACK ∷ []) (mark_kind s opening) (mark_of s opening) second.0 (opens holes are))
      (leaf_there holes (place_of s closing.0) (behind + length (spell (kids_at s within))) (k.R_BRACK ∷ []) (mark_kind s closing) (mark_of s closing) fourth.0
      (closes holes are))))))

  -- ** Calls.

  call_of : (holes : Holes) (at : ℕ) (kind m j : SyntaxKind) (xs ys : Forest) → 1 ≤ most → same_kind kind k.CALL_EXPR ≡ true → core holes true 1 at m xs ≡ true
      → are_arguments holes (at + length (spell xs)) j ys ≡ true → core holes callable most at kind (tree m xs (tree j ys done)) ≡ true
  call_of holes at kind m j xs (leaf a us args) le is left list =
      let halves = and_parts _ _ list in
      let parts = and_parts _ _ halves.1 in
      and_from _ _ (and_from _ _ (and_from _ _ (le-leb 1 most le) left) parts.1) (and_from _ _ is (and_from _ _ halves.0 parts.0))
  call_of holes at kind m j xs _ le is left list = absurd (cc)

  pub call_enough : (left arguments : NodeNo) (a b : Asked) → AreSolid s node.0 (element.Node left ∷ element.Node arguments ∷ []) → 1 ≤ most
      → same_kind (kind_at s node) k.CALL_EXPR ≡ true
      → a.node ≡ left → a.need ≡ need.Operand true 1 → b.node ≡ arguments → b.need ≡ need.Arguments
      → AreEnough s names (need.Operand callable most) node.0 (a ∷ b ∷ [])
  call_enough left arguments a b solid le kind same wants other needs =
      let l = laid s node.0 (element.Node left ∷ element.Node arguments ∷ []) has solid in
      let second = behind_node s (front_of s node) left.0 (node_part (node_of s arguments.0) ∷ []) l.behind in
      two_enough left arguments a b (need.Operand true 1) need.Arguments
      (first_below s node.0 left (element.Node arguments ∷ []) has solid) (second_below s node.0 (element.Node left) arguments [] has solid)
      same wants other needs
      (λ holes are met also.
      by_shape holes _ l
      (call_of holes (front_of s node) (kind_at s node) (kind_at s left) (kind_at s arguments) (kids_at s left) (kids_at s arguments) le kind
      (core_there holes true 1 (front_of s left) (front_of s node) (kind_at s left) (kids_at s left) l.behind.0 met)
      (subst (λ n. are_arguments holes n (kind_at s arguments) (kids_at s arguments) ≡ true) second.0 also)))

  method_of : (holes : Holes) (at : ℕ) (kind m a j i : SyntaxKind) (xs ys zs : Forest) (us : List Token) → 1 ≤ most → same_kind kind k.METHOD_CALL_EXPR ≡ true
      → core holes false 1 at m xs ≡ true → is_leaf holes (at + length (spell xs)) (k.DOT ∷ []) a us ≡ true
      → is_name_ref holes ((at + length (spell xs)) + length us) (k.IDENT ∷ []) j ys ≡ true
      → are_arguments holes (((at + length (spell xs)) + length us) + length (spell ys)) i zs ≡ true
      → core holes callable most at kind (tree m xs (leaf a us (tree j ys (tree i zs done)))) ≡ true
  method_of holes at kind m a j i xs ys (leaf b vs args) us le is left dot name list =
      let halves = and_parts _ _ list in
      let parts = and_parts _ _ halves.1 in
      and_from _ _ (and_from _ _ (and_from _ _ (le-leb 1 most le) left) parts.1)
      (and_from _ _ is (and_from _ _ (and_from _ _ dot name) (and_from _ _ halves.0 parts.0)))
  method_of holes at kind m a j i xs ys _ us le is left dot name list = absurd (cc)

  pub method_enough : (left : NodeNo) (dot : TokenNo) (name arguments : NodeNo) (a b : Asked)
      → AreSolid s node.0 (element.Node left ∷ element.Token dot ∷ element.Node name ∷ element.Node arguments ∷ []) → 1 ≤ most
      → same_kind (kind_at s node) k.METHOD_CALL_EXPR ≡ true → IsMark s names (k.DOT ∷ []) dot.0 → IsNameRef s names (k.IDENT ∷ []) name.0
      → a.node ≡ left → a.need ≡ need.Operand false 1 → b.node ≡ arguments → b.need ≡ need.Arguments
      → AreEnough s names (need.Operand callable most) node.0 (a ∷ b ∷ [])
  method_enough left dot name arguments a b solid le kind mark member same wants other needs =
      let l = laid s node.0 (element.Node left ∷ element.Token dot ∷ element.Node name ∷ element.Node arguments ∷ []) has solid in
      let start : ℕ = front_of s node + length (spell (kids_at s left)) in
      let behind : ℕ = start + length (mark_of s dot) in
      let second = behind_node s (front_of s node) left.0
      (token_part dot.0 (token_of s dot.0) ∷ node_part (node_of s name.0) ∷ node_part (node_of s arguments.0) ∷ []) l.behind in
      let third = behind_token s start dot.0 (token_of s dot.0) (node_part (node_of s name.0) ∷ node_part (node_of s arguments.0) ∷ []) second in
      let fourth = behind_node s behind name.0 (node_part (node_of s arguments.0) ∷ []) third in
      two_enough left arguments a b (need.Operand false 1) need.Arguments
      (first_below s node.0 left (element.Token dot ∷ element.Node name ∷ element.Node arguments ∷ []) has solid)
      (fourth_below s node.0 (element.Node left) (element.Token dot) (element.Node name) arguments [] has solid)
      same wants other needs
      (λ holes are met also.
      by_shape holes _ l
      (method_of holes (front_of s node) (kind_at s node) (kind_at s left) (mark_kind s dot) (kind_at s name) (kind_at s arguments)
      (kids_at s left) (kids_at s name) (kids_at s arguments) (mark_of s dot) le kind
      (core_there holes false 1 (front_of s left) (front_of s node) (kind_at s left) (kids_at s left) l.behind.0 met)
      (leaf_there holes (place_of s dot.0) start (k.DOT ∷ []) (mark_kind s dot) (mark_of s dot) second.0 (mark holes are))
      (subst (λ n. is_name_ref holes n (k.IDENT ∷ []) (kind_at s name) (kids_at s name) ≡ true) third.0 (member holes are))
      (subst (λ n. are_arguments holes n (kind_at s arguments) (kids_at s arguments) ≡ true) fourth.0 also)))

-- What is core by the kinds of a tree's tokens is core.
use Rattle.std.proofs.Common.{◌≡◌, ℕ, ◌+◌, nat_le, nat_lt, Bool, true, false, not, ◌&&◌, ◌||◌, if◌then◌else◌, List, [], ◌∷◌, length, Some, None, ◌⊎◌, inl, inr, refl, sym, ap, subst, ◌∙◌, arith}
use Rattle.std.specs.Prelude.{Option}
use Rattle.std.proofs.lemmas.Bool.{and_from, and_parts, or_cases, or_left, or_right}
use Rattle.ssr_syntax_kinds.specs.Kinds.{same_kind}
use Rattle.ssr_syntax_kinds.specs.declared.kinds.SyntaxKind.{SyntaxKind}
use Rattle.ssr_syntax_kinds.specs.declared.kinds.SyntaxKind.TheVariants as k
use Rattle.ssr_syntax_kinds.proofs.Shared.{same_kind-equal}
use Rattle.ssr_syntax_forms.specs.declared.tokens.Token.{Token}
use Rattle.ssr_syntax_forms.specs.Kinds.{mem}
use Rattle.ssr_syntax_forms.specs.Trees.{Forest, done, leaf, tree, spell}
use Rattle.ssr_syntax_types.specs.Literals.{literals}
use Rattle.ssr_syntax_types.specs.Paths.{path_names}
use Rattle.ssr_syntax_types.specs.Types.{ampersands}
use Rattle.ssr_syntax_exprs.specs.Expressions.{operators, prefix_operators, ranks}
use Rattle.ssr_syntax.specs.Operands.{row_in}
use Rattle.ssr_syntax_places.specs.Core.{Hole, Holes, is_no_hole, is_leaf, is_ampersand, is_single, is_held, binds_enough, is_segment, is_path, is_name_ref, member_names, core, arguments}
use Rattle.ssr_syntax_places.specs.PlainCore.{size_of_kind, tokens_like}
use Rattle.ssr_syntax_places.proofs.PartLeaves.{any_part, other_part, IsWholeLeaf, IsPartLeaf, HasLeaves}
use Rattle.ssr_syntax_places.proofs.LikeForests.{like, Known, KnownNode, leaf_length, spell_length, single_alike, leaf_kind, leaf_like, part_ampersand, ampersand_like, only_whole}

-- ** Leaves of a node of which the kind is known.

node_whole : (kind other : SyntaxKind) (kids : Forest) (Below : Type 0) → same_kind kind other ≡ true → any_part.holds other ≡ false
    → KnownNode kind kids Below → HasLeaves any_part kids
node_whole kind other kids Below same none known = known.whole (ap (λ w. any_part.holds w) (same_kind-equal kind other same) ∙ none)

node_ampersands : (kind : SyntaxKind) (kids : Forest) (Below : Type 0) → same_kind kind k.REF_EXPR ≡ true
    → KnownNode kind kids Below → HasLeaves other_part kids
node_ampersands kind kids Below same known = known.ampersands (ap (λ w. other_part.holds w) (same_kind-equal kind k.REF_EXPR same))

behind_leaf : (at place : ℕ) (a : SyntaxKind) (us : List Token) (x : Forest) → place ≡ at → Known (leaf a us x) → place + length (tokens_like a) ≡ at + length us
behind_leaf at place a us x e known = let same = leaf_length a us known.0 in omega (arith, e, same)

behind_node : (at place : ℕ) (m : SyntaxKind) (xs x : Forest) → place ≡ at → Known (tree m xs x) → place + length (spell (like xs)) ≡ at + length (spell xs)
behind_node at place m xs x e known = let same = spell_length xs known.0.below in omega (arith, e, same)

moved : (holes : Holes) (callable : Bool) (n at place : ℕ) (m : SyntaxKind) (xs : Forest) → place ≡ at → core holes callable n place m xs ≡ true
    → core holes callable n at m xs ≡ true
moved holes callable n at place m xs e is = subst (λ l. core holes callable n l m xs ≡ true) e is

-- ** Names and paths.

held_like : (holes : Holes) (at place : ℕ) (m : SyntaxKind) (xs : Forest) → place ≡ at → Known xs → is_held holes place m (like xs) ≡ true
    → is_held holes at m xs ≡ true
held_like holes at place m xs e known is =
    let halves = and_parts (same_kind m k.PATH_EXPR) (is_single (spell (like xs)) && not (is_no_hole (holes place))) is in
    let both = and_parts (is_single (spell (like xs))) (not (is_no_hole (holes place))) halves.1 in
    and_from (same_kind m k.PATH_EXPR) (is_single (spell xs) && not (is_no_hole (holes at))) halves.0
    (and_from (is_single (spell xs)) (not (is_no_hole (holes at)))
    (sym (single_alike (spell (like xs)) (spell xs) (spell_length xs known)) ∙ both.0)
    (ap (λ l. not (is_no_hole (holes l))) (sym e) ∙ both.1))

-- what stands between brackets
inside_like : (holes : Holes) (at place : ℕ) (m : SyntaxKind) (xs : Forest) → place ≡ at → Known xs
    → (core holes false 12 at m (like xs) ≡ true → core holes false 12 at m xs ≡ true)
    → (is_held holes place m (like xs) || core holes false 12 place m (like xs)) ≡ true → (is_held holes at m xs || core holes false 12 at m xs) ≡ true
inside_like holes at place m xs e known below is =
    elim (or_cases (is_held holes place m (like xs)) (core holes false 12 place m (like xs)) is) [
      | inl held ↦ or_left (is_held holes at m xs) (core holes false 12 at m xs) (held_like holes at place m xs e known held)
      | inr operand ↦ or_right (is_held holes at m xs) (core holes false 12 at m xs) (below (moved holes false 12 at place m (like xs) e operand))
    ]

segment_like : (holes : Holes) (at place : ℕ) (kind : SyntaxKind) (kids : Forest) → place ≡ at → Known kids → is_segment holes place kind (like kids) ≡ true
    → is_segment holes at kind kids ≡ true
segment_like holes at place kind (tree r (leaf a us done) done) e known is =
    let halves = and_parts (same_kind kind k.PATH_SEGMENT) (same_kind r k.NAME_REF && is_leaf holes place path_names a (tokens_like a)) is in
    let inner = and_parts (same_kind r k.NAME_REF) (is_leaf holes place path_names a (tokens_like a)) halves.1 in
    let leaves = node_whole r k.NAME_REF (leaf a us done) (Known (leaf a us done)) inner.0 refl known.0 in
    and_from (same_kind kind k.PATH_SEGMENT) (same_kind r k.NAME_REF && is_leaf holes at path_names a us) halves.0
    (and_from (same_kind r k.NAME_REF) (is_leaf holes at path_names a us) inner.0
    (leaf_like holes at place path_names a us e (only_whole a us leaves.0) known.0.below.0 inner.1))
segment_like holes at place kind _ e known is = absurd (cc)

-- the names of a path, of which the node has its kind
path_like : (holes : Holes) (at : ℕ) (kind : SyntaxKind) (kids : Forest) → same_kind kind k.PATH ≡ true → KnownNode kind kids (Known kids)
    → is_path holes at (like kids) ≡ true → is_path holes at kids ≡ true
path_like holes at kind (tree s kids done) path_is known is = segment_like holes at at s kids refl known.below.0.below is
path_like holes at kind (tree p path (leaf a us (tree s kids done))) path_is known is =
    let place : ℕ = at + length (spell (like path)) in
    let behind : ℕ = at + length (spell path) in
    let halves = and_parts (same_kind p k.PATH && is_path holes at (like path)) (is_leaf holes place (k.COLON2 ∷ []) a (tokens_like a) && is_segment holes (place + length (tokens_like a)) s (like kids)) is in
    let front = and_parts (same_kind p k.PATH) (is_path holes at (like path)) halves.0 in
    let last = and_parts (is_leaf holes place (k.COLON2 ∷ []) a (tokens_like a)) (is_segment holes (place + length (tokens_like a)) s (like kids)) halves.1 in
    let leaves = node_whole kind k.PATH (tree p path (leaf a us (tree s kids done))) (Known (tree p path (leaf a us (tree s kids done)))) path_is refl known in
    let e : place ≡ behind = behind_node at at p path (leaf a us (tree s kids done)) refl known.below in
    let d : place + length (tokens_like a) ≡ behind + length us = behind_leaf behind place a us (tree s kids done) e known.below.1 in
    and_from (same_kind p k.PATH && is_path holes at path) (is_leaf holes behind (k.COLON2 ∷ []) a us && is_segment holes (behind + length us) s kids)
    (and_from (same_kind p k.PATH) (is_path holes at path) front.0 (path_like holes at p path front.0 known.below.0 front.1))
    (and_from (is_leaf holes behind (k.COLON2 ∷ []) a us) (is_segment holes (behind + length us) s kids)
    (leaf_like holes behind place (k.COLON2 ∷ []) a us e (only_whole a us leaves.0) known.below.1.0 last.0)
    (segment_like holes (behind + length us) (place + length (tokens_like a)) s kids d known.below.1.2.0.below last.1))
path_like holes at kind _ path_is known is = absurd (cc)

binds_like : (holes : Holes) (o : Option Hole) (callable : Bool) (n at : ℕ) (p : SyntaxKind) (path : Forest) → KnownNode p path (Known path)
    → binds_enough o callable n (same_kind p k.PATH && is_path holes at (like path)) (spell (like path)) ≡ true
    → binds_enough o callable n (same_kind p k.PATH && is_path holes at path) (spell path) ≡ true
binds_like holes None callable n at p path known is =
    let halves = and_parts (same_kind p k.PATH) (is_path holes at (like path)) is in
    and_from (same_kind p k.PATH) (is_path holes at path) halves.0 (path_like holes at p path halves.0 known halves.1)
binds_like holes (Some hole) callable n at p path known is =
    let halves = and_parts (is_single (spell (like path))) (nat_le hole.precedence n && (hole.callable || not callable)) is in
    and_from (is_single (spell path)) (nat_le hole.precedence n && (hole.callable || not callable))
    (sym (single_alike (spell (like path)) (spell path) (spell_length path known.below)) ∙ halves.0) halves.1

name_ref_like : (holes : Holes) (at place : ℕ) (ks : List SyntaxKind) (kind : SyntaxKind) (kids : Forest) → place ≡ at → KnownNode kind kids (Known kids)
    → is_name_ref holes place ks kind (like kids) ≡ true → is_name_ref holes at ks kind kids ≡ true
name_ref_like holes at place ks kind (leaf a us done) e known is =
    let halves = and_parts (same_kind kind k.NAME_REF) (is_leaf holes place ks a (tokens_like a)) is in
    let leaves = node_whole kind k.NAME_REF (leaf a us done) (Known (leaf a us done)) halves.0 refl known in
    and_from (same_kind kind k.NAME_REF) (is_leaf holes at ks a us) halves.0
    (leaf_like holes at place ks a us e (only_whole a us leaves.0) known.below.0 halves.1)
name_ref_like holes at place ks kind _ e known is = absurd (cc)

-- ** Operators in front.

-- a word that no token is a part of
word_like : (holes : Holes) (at place : ℕ) (b : SyntaxKind) (vs : List Token) → place ≡ at → IsWholeLeaf b vs ⊎ IsPartLeaf other_part b vs
    → length vs ≡ size_of_kind b → is_leaf holes place (k.MUT_KW ∷ []) b (tokens_like b) ≡ true → is_leaf holes at (k.MUT_KW ∷ []) b vs ≡ true
word_like holes at place b vs e (inl whole) count is = leaf_like holes at place (k.MUT_KW ∷ []) b vs e whole count is
word_like holes at place b vs e (inr part) count is =
    let word : b ≡ k.MUT_KW = leaf_kind holes place k.MUT_KW b is in
    let made = part_ampersand b vs part in
    let parts = and_parts (mem made.0.joined ampersands) (mem made.0.kind ampersands && same_kind b made.0.kind) made.2 in
    let inner = and_parts (mem made.0.kind ampersands) (same_kind b made.0.kind) parts.1 in
    let same : made.0.kind ≡ k.MUT_KW = sym (same_kind-equal b made.0.kind inner.1) ∙ word in
    let clash : mem k.MUT_KW ampersands ≡ true = ap (λ w. mem w ampersands) (sym same) ∙ inner.0 in
    absurd (cc)

prefix_like : (holes : Holes) (at : ℕ) (kind a : SyntaxKind) (us : List Token) (x : Forest) → KnownNode kind (leaf a us x) (Known (leaf a us x))
    → (same_kind kind k.PREFIX_EXPR && is_leaf holes at prefix_operators a (tokens_like a) || same_kind kind k.REF_EXPR && is_ampersand holes at a (tokens_like a)) ≡ true
    → (same_kind kind k.PREFIX_EXPR && is_leaf holes at prefix_operators a us || same_kind kind k.REF_EXPR && is_ampersand holes at a us) ≡ true
prefix_like holes at kind a us x known is =
    let prefix : Bool = same_kind kind k.PREFIX_EXPR && is_leaf holes at prefix_operators a us in
    let reference : Bool = same_kind kind k.REF_EXPR && is_ampersand holes at a us in
    elim (or_cases (same_kind kind k.PREFIX_EXPR && is_leaf holes at prefix_operators a (tokens_like a)) (same_kind kind k.REF_EXPR && is_ampersand holes at a (tokens_like a)) is) [
      | inl front ↦
          let halves = and_parts (same_kind kind k.PREFIX_EXPR) (is_leaf holes at prefix_operators a (tokens_like a)) front in
          let leaves = node_whole kind k.PREFIX_EXPR (leaf a us x) (Known (leaf a us x)) halves.0 refl known in
          or_left prefix reference
          (and_from (same_kind kind k.PREFIX_EXPR) (is_leaf holes at prefix_operators a us) halves.0
          (leaf_like holes at at prefix_operators a us refl (only_whole a us leaves.0) known.below.0 halves.1))
      | inr front ↦
          let halves = and_parts (same_kind kind k.REF_EXPR) (is_ampersand holes at a (tokens_like a)) front in
          let leaves = node_ampersands kind (leaf a us x) (Known (leaf a us x)) halves.0 known in
          or_right prefix reference
          (and_from (same_kind kind k.REF_EXPR) (is_ampersand holes at a us) halves.0
          (ampersand_like holes at at a us refl leaves.0 known.below.1 known.below.0 halves.1))
    ]

-- ** Operators between, and fields.

chosen : (b x y : Bool) → (if b then x else y) ≡ true → ((b ≡ true) × (x ≡ true)) ⊎ ((b ≡ false) × (y ≡ true))
chosen true x y e = inl (refl, e)
chosen false x y e = inr (refl, e)

taken_first : (b x y : Bool) → b ≡ true → x ≡ true → (if b then x else y) ≡ true
taken_first b x y is e = ap (λ c. if c then x else y) is ∙ e

taken_second : (b x y : Bool) → b ≡ false → y ≡ true → (if b then x else y) ≡ true
taken_second b x y is e = ap (λ c. if c then x else y) is ∙ e

-- the tests of an operator between two operands, and those of a field; `behind` is the number of the token between
abbrev is_binary : Holes → Bool → ℕ → ℕ → ℕ → ℕ → SyntaxKind → Forest → SyntaxKind → List Token → SyntaxKind → Forest → Bool
is_binary holes callable n at behind last m xs a us j ys =
    (nat_lt (row_in ranks a) (length ranks) && nat_le (4 + row_in ranks a) n)
    && is_leaf holes behind (operators (row_in ranks a)) a us
    && (core holes false (4 + row_in ranks a) at m xs && core holes callable (3 + row_in ranks a) last j ys)

abbrev is_field : Holes → Bool → ℕ → ℕ → ℕ → ℕ → SyntaxKind → SyntaxKind → Forest → SyntaxKind → List Token → SyntaxKind → Forest → Bool
is_field holes callable n at behind last kind m xs a us j ys =
    nat_le 1 n && core holes false 1 at m xs
    && (same_kind kind k.FIELD_EXPR && (is_leaf holes behind (k.DOT ∷ []) a us && is_name_ref holes last (member_names callable) j ys))

-- ** All of them.

mutual
  pub core_like : (holes : Holes) (callable : Bool) (n at : ℕ) (kind : SyntaxKind) (kids : Forest) → KnownNode kind kids (Known kids)
      → core holes callable n at kind (like kids) ≡ true → core holes callable n at kind kids ≡ true
  core_like holes callable n at kind (leaf a us done) known is =
      let halves = and_parts _ _ is in
      let leaves = node_whole kind k.LITERAL (leaf a us done) (Known (leaf a us done)) halves.0 refl known in
      and_from _ _ halves.0 (leaf_like holes at at literals a us refl (only_whole a us leaves.0) known.below.0 halves.1)
  core_like holes callable n at kind (tree p path done) known is =
      let halves = and_parts _ _ is in
      and_from _ _ halves.0 (binds_like holes (holes at) callable n at p path known.below.0 halves.1)
  core_like holes callable n at kind (leaf a us (tree m xs done)) known is =
      let halves = and_parts _ _ is in
      let front = and_parts _ _ halves.0 in
      let e : at + length (tokens_like a) ≡ at + length us = behind_leaf at at a us (tree m xs done) refl known.below in
      let operand = core_like holes callable 2 (at + length us) m xs known.below.2.0 (moved holes callable 2 (at + length us) (at + length (tokens_like a)) m (like xs) e front.1) in
      and_from _ _ (and_from _ _ front.0 operand) (prefix_like holes at kind a us (tree m xs done) known halves.1)
  core_like holes callable n at kind (leaf a us (leaf b vs (tree m xs done))) known is =
      let halves = and_parts _ _ is in
      let front = and_parts _ _ halves.0 in
      let whole = and_parts _ _ halves.1 in
      let words = and_parts _ _ whole.1 in
      let inner : ℕ = at + length us in
      let place : ℕ = at + length (tokens_like a) in
      let e : place ≡ inner = behind_leaf at at a us (leaf b vs (tree m xs done)) refl known.below in
      let d : place + length (tokens_like b) ≡ inner + length vs = behind_leaf inner place b vs (tree m xs done) e known.below.2 in
      let leaves = node_ampersands kind (leaf a us (leaf b vs (tree m xs done))) (Known (leaf a us (leaf b vs (tree m xs done)))) whole.0 known in
      let operand = core_like holes callable 2 (inner + length vs) m xs known.below.2.2.0 (moved holes callable 2 (inner + length vs) (place + length (tokens_like b)) m (like xs) d front.1) in
      and_from _ _ (and_from _ _ front.0 operand)
      (and_from _ _ whole.0
      (and_from _ _ (ampersand_like holes at at a us refl leaves.0 known.below.1 known.below.0 words.0)
      (word_like holes inner place b vs e leaves.1.0 known.below.2.0 words.1)))
  core_like holes callable n at kind (leaf a us (tree m xs (leaf b vs done))) known is =
      let halves = and_parts _ _ is in
      let whole = and_parts _ _ halves.1 in
      let brackets = and_parts _ _ whole.1 in
      let inner : ℕ = at + length us in
      let place : ℕ = at + length (tokens_like a) in
      let e : place ≡ inner = behind_leaf at at a us (tree m xs (leaf b vs done)) refl known.below in
      let d : place + length (spell (like xs)) ≡ inner + length (spell xs) = behind_node inner place m xs (leaf b vs done) e known.below.2 in
      let leaves = node_whole kind k.PAREN_EXPR (leaf a us (tree m xs (leaf b vs done))) (Known (leaf a us (tree m xs (leaf b vs done)))) whole.0 refl known in
      and_from _ _ (inside_like holes inner place m xs e known.below.2.0.below (λ operand. core_like holes false 12 inner m xs known.below.2.0 operand) halves.0)
      (and_from _ _ whole.0
      (and_from _ _ (leaf_like holes at at (k.L_PAREN ∷ []) a us refl (only_whole a us leaves.0) known.below.0 brackets.0)
      (leaf_like holes (inner + length (spell xs)) (place + length (spell (like xs))) (k.R_PAREN ∷ []) b vs d (only_whole b vs leaves.1.0) known.below.2.1.0 brackets.1)))
  core_like holes callable n at kind (tree m xs (leaf a us done)) known is =
      let halves = and_parts _ _ is in
      let front = and_parts _ _ halves.0 in
      let whole = and_parts _ _ halves.1 in
      let e : at + length (spell (like xs)) ≡ at + length (spell xs) = behind_node at at m xs (leaf a us done) refl known.below in
      let leaves = node_whole kind k.TRY_EXPR (tree m xs (leaf a us done)) (Known (tree m xs (leaf a us done))) whole.0 refl known in
      and_from _ _ (and_from _ _ front.0 (core_like holes false 1 at m xs known.below.0 front.1))
      (and_from _ _ whole.0
      (leaf_like holes (at + length (spell xs)) (at + length (spell (like xs))) (k.QUESTION ∷ []) a us e (only_whole a us leaves.0) known.below.1.0 whole.1))
  core_like holes callable n at kind (tree m xs (leaf a us (tree j ys done))) known is =
      let behind : ℕ = at + length (spell xs) in
      let place : ℕ = at + length (spell (like xs)) in
      let last : ℕ = behind + length us in
      let last_place : ℕ = place + length (tokens_like a) in
      let kids : Forest = tree m xs (leaf a us (tree j ys done)) in
      let e : place ≡ behind = behind_node at at m xs (leaf a us (tree j ys done)) refl known.below in
      let d : last_place ≡ last = behind_leaf behind place a us (tree j ys done) e known.below.1 in
      let binary : Bool = is_binary holes callable n at behind last m xs a us j ys in
      let field : Bool = is_field holes callable n at behind last kind m xs a us j ys in
      elim (chosen (same_kind kind k.BIN_EXPR) (is_binary holes callable n at place last_place m (like xs) a (tokens_like a) j (like ys))
      (is_field holes callable n at place last_place kind m (like xs) a (tokens_like a) j (like ys)) is) [
        | inl both ↦
            let halves = and_parts _ _ both.1 in
            let front = and_parts _ _ halves.0 in
            let operands = and_parts _ _ halves.1 in
            let leaves = node_whole kind k.BIN_EXPR kids (Known kids) both.0 refl known in
            let right = core_like holes callable (3 + row_in ranks a) last j ys known.below.1.2.0 (moved holes callable (3 + row_in ranks a) last last_place j (like ys) d operands.1) in
            taken_first (same_kind kind k.BIN_EXPR) binary field both.0
            (and_from _ _ (and_from _ _ front.0 (leaf_like holes behind place (operators (row_in ranks a)) a us e (only_whole a us leaves.0) known.below.1.0 front.1))
            (and_from _ _ (core_like holes false (4 + row_in ranks a) at m xs known.below.0 operands.0) right))
        | inr other ↦
            let halves = and_parts _ _ other.1 in
            let front = and_parts _ _ halves.0 in
            let whole = and_parts _ _ halves.1 in
            let member = and_parts _ _ whole.1 in
            let leaves = node_whole kind k.FIELD_EXPR kids (Known kids) whole.0 refl known in
            taken_second (same_kind kind k.BIN_EXPR) binary field other.0
            (and_from _ _ (and_from _ _ front.0 (core_like holes false 1 at m xs known.below.0 front.1))
            (and_from _ _ whole.0
            (and_from _ _ (leaf_like holes behind place (k.DOT ∷ []) a us e (only_whole a us leaves.0) known.below.1.0 member.0)
            (name_ref_like holes last last_place (member_names callable) j ys d known.below.1.2.0 member.1))))
      ]
  core_like holes callable n at kind (tree m xs (leaf a us (tree j ys (leaf b vs done)))) known is =
      let front_end : ℕ = at + length (spell xs) in
      let front_place : ℕ = at + length (spell (like xs)) in
      let behind : ℕ = front_end + length us in
      let place : ℕ = front_place + length (tokens_like a) in
      let kids : Forest = tree m xs (leaf a us (tree j ys (leaf b vs done))) in
      let e : front_place ≡ front_end = behind_node at at m xs (leaf a us (tree j ys (leaf b vs done))) refl known.below in
      let d : place ≡ behind = behind_leaf front_end front_place a us (tree j ys (leaf b vs done)) e known.below.1 in
      let c : place + length (spell (like ys)) ≡ behind + length (spell ys) = behind_node behind place j ys (leaf b vs done) d known.below.1.2 in
      let halves = and_parts _ _ is in
      let whole = and_parts _ _ halves.1 in
      let brackets = and_parts _ _ whole.1 in
      let operands = and_parts _ _ halves.0 in
      let front = and_parts _ _ operands.0 in
      let leaves = node_whole kind k.INDEX_EXPR kids (Known kids) whole.0 refl known in
      and_from _ _
      (and_from _ _ (and_from _ _ front.0 (core_like holes false 1 at m xs known.below.0 front.1))
      (inside_like holes behind place j ys d known.below.1.2.0.below (λ operand. core_like holes false 12 behind j ys known.below.1.2.0 operand) operands.1))
      (and_from _ _ whole.0
      (and_from _ _ (leaf_like holes front_end front_place (k.L_BRACK ∷ []) a us e (only_whole a us leaves.0) known.below.1.0 brackets.0)
      (leaf_like holes (behind + length (spell ys)) (place + length (spell (like ys))) (k.R_BRACK ∷ []) b vs c (only_whole b vs leaves.1.0) known.below.1.2.1.0 brackets.1)))
  core_like holes callable n at kind (tree m xs (tree j (leaf a us args) done)) known is =
      let behind : ℕ = at + length (spell xs) in
      let place : ℕ = at + length (spell (like xs)) in
      let list_kids : Forest = leaf a us args in
      let e : place ≡ behind = behind_node at at m xs (tree j list_kids done) refl known.below in
      let d : place + length (tokens_like a) ≡ behind + length us = behind_leaf behind place a us args e known.below.1.0.below in
      let halves = and_parts _ _ is in
      let operands = and_parts _ _ halves.0 in
      let front = and_parts _ _ operands.0 in
      let whole = and_parts _ _ halves.1 in
      let list = and_parts _ _ whole.1 in
      let leaves = node_whole j k.ARG_LIST list_kids (Known list_kids) list.0 refl known.below.1.0 in
      and_from _ _
      (and_from _ _ (and_from _ _ front.0 (core_like holes true 1 at m xs known.below.0 front.1))
      (arguments_like holes (behind + length us) (place + length (tokens_like a)) args d leaves.1 known.below.1.0.below.2 operands.1))
      (and_from _ _ whole.0
      (and_from _ _ list.0 (leaf_like holes behind place (k.L_PAREN ∷ []) a us e (only_whole a us leaves.0) known.below.1.0.below.0 list.1)))
  core_like holes callable n at kind (tree m xs (leaf a us (tree j ys (tree i (leaf b vs args) done)))) known is =
      let dot : ℕ = at + length (spell xs) in
      let dot_place : ℕ = at + length (spell (like xs)) in
      let name : ℕ = dot + length us in
      let name_place : ℕ = dot_place + length (tokens_like a) in
      let behind : ℕ = name + length (spell ys) in
      let place : ℕ = name_place + length (spell (like ys)) in
      let list_kids : Forest = leaf b vs args in
      let kids : Forest = tree m xs (leaf a us (tree j ys (tree i list_kids done))) in
      let e : dot_place ≡ dot = behind_node at at m xs (leaf a us (tree j ys (tree i list_kids done))) refl known.below in
      let d : name_place ≡ name = behind_leaf dot dot_place a us (tree j ys (tree i list_kids done)) e known.below.1 in
      let c : place ≡ behind = behind_node name name_place j ys (tree i list_kids done) d known.below.1.2 in
      let f : place + length (tokens_like b) ≡ behind + length vs = behind_leaf behind place b vs args c known.below.1.2.1.0.below in
      let halves = and_parts _ _ is in
      let operands = and_parts _ _ halves.0 in
      let front = and_parts _ _ operands.0 in
      let whole = and_parts _ _ halves.1 in
      let parts = and_parts _ _ whole.1 in
      let member = and_parts _ _ parts.0 in
      let list = and_parts _ _ parts.1 in
      let leaves = node_whole kind k.METHOD_CALL_EXPR kids (Known kids) whole.0 refl known in
      let inner = node_whole i k.ARG_LIST list_kids (Known list_kids) list.0 refl known.below.1.2.1.0 in
      and_from _ _
      (and_from _ _ (and_from _ _ front.0 (core_like holes false 1 at m xs known.below.0 front.1))
      (arguments_like holes (behind + length vs) (place + length (tokens_like b)) args f inner.1 known.below.1.2.1.0.below.2 operands.1))
      (and_from _ _ whole.0
      (and_from _ _
      (and_from _ _ (leaf_like holes dot dot_place (k.DOT ∷ []) a us e (only_whole a us leaves.0) known.below.1.0 member.0)
      (name_ref_like holes name name_place (k.IDENT ∷ []) j ys d known.below.1.2.0 member.1))
      (and_from _ _ list.0 (leaf_like holes behind place (k.L_PAREN ∷ []) b vs c (only_whole b vs inner.0) known.below.1.2.1.0.below.0 list.1))))
  core_like holes callable n at kind _ known is = absurd (cc)

  pub arguments_like : (holes : Holes) (at place : ℕ) (args : Forest) → place ≡ at → HasLeaves any_part args → Known args
      → arguments holes place (like args) ≡ true → arguments holes at args ≡ true
  arguments_like holes at place (leaf b vs done) e leaves known is =
      leaf_like holes at place (k.R_PAREN ∷ []) b vs e (only_whole b vs leaves.0) known.0 is
  arguments_like holes at place (tree m xs (leaf b vs done)) e leaves known is =
      let halves = and_parts _ _ is in
      let d : place + length (spell (like xs)) ≡ at + length (spell xs) = behind_node at place m xs (leaf b vs done) e known in
      and_from _ _ (inside_like holes at place m xs e known.0.below (λ operand. core_like holes false 12 at m xs known.0 operand) halves.0)
      (leaf_like holes (at + length (spell xs)) (place + length (spell (like xs))) (k.R_PAREN ∷ []) b vs d (only_whole b vs leaves.0) known.1.0 halves.1)
  arguments_like holes at place (tree m xs (leaf b vs args)) e leaves known is =
      let halves = and_parts _ _ is in
      let front = and_parts _ _ halves.0 in
      let d : place + length (spell (like xs)) ≡ at + length (spell xs) = behind_node at place m xs (leaf b vs args) e known in
      let c : (place + length (spell (like xs))) + length (tokens_like b) ≡ (at + length (spell xs)) + length vs =
      behind_leaf (at + length (spell xs)) (place + length (spell (like xs))) b vs args d known.1 in
      and_from _ _
      (and_from _ _ (inside_like holes at place m xs e known.0.below (λ operand. core_like holes false 12 at m xs known.0 operand) front.0)
      (leaf_like holes (at + length (spell xs)) (place + length (spell (like xs))) (k.COMMA ∷ []) b vs d (only_whole b vs leaves.0) known.1.0 front.1))
      (arguments_like holes ((at + length (spell xs)) + length vs) ((place + length (spell (like xs))) + length (tokens_like b)) args c leaves.1 known.1.2 halves.1)
  arguments_like holes at place _ e leaves known is = absurd (cc)

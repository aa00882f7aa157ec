-- A core template, filled with what binds tightly enough, stands.
use Rattle.std.proofs.Common.{◌≡◌, ℕ, ◌+◌, ◌-◌, ◌<◌, ◌≤◌, nat_eq, nat_le, nat_lt, Bool, true, false, not, ◌&&◌, ◌||◌, if◌then◌else◌, List, [], ◌∷◌, ◌++◌, length, Some, None, ◌⊎◌, inl, inr, refl, sym, ap, subst, ◌∙◌, arith, append_assoc}
use Rattle.std.specs.Prelude.{Option}
use Rattle.std.proofs.lemmas.List.{append-nil}
use Rattle.std.proofs.lemmas.Bool.{and_from, and_parts, leb-true, ltb-true, or_cases}
use Rattle.ssr_syntax_kinds.specs.declared.kinds.SyntaxKind.{SyntaxKind}
use Rattle.ssr_syntax_kinds.specs.declared.kinds.SyntaxKind.TheVariants as k
use Rattle.ssr_syntax_kinds.specs.Kinds.{same_kind}
use Rattle.ssr_syntax_kinds.proofs.Shared.{same_kind-equal}
use Rattle.ssr_syntax_kinds.specs.declared.reach.Reach.{Reach}
use Rattle.ssr_syntax_forms.specs.declared.tokens.Token.{Token}
use Rattle.ssr_syntax_forms.specs.Kinds.{mem}
use Rattle.ssr_syntax_forms.specs.Trees.{Forest, done, leaf, tree, join, spell}
use Rattle.ssr_syntax_forms.proofs.Shared.{every, every_mem}
use Rattle.ssr_syntax_types.specs.Literals.{literals}
use Rattle.ssr_syntax_types.specs.Types.{ampersands}
use Rattle.ssr_syntax_exprs.specs.Expressions.{operators, prefix_operators, ranks}
use Rattle.ssr_syntax.specs.Operands.{row_in}
use Rattle.ssr_syntax_places.specs.Standing.{node, is_token, token_leaf, closing_marks, with_name, Stands, no_more, last, more}
use Rattle.ssr_syntax_places.specs.Core.{Hole, Holes, AreFillings, tokens_filled, filled, node_filled, are_spelled, is_leaf, is_ampersand, is_single, binds_enough, is_path, is_name_ref, member_names, core, arguments}
use Rattle.ssr_syntax_places.proofs.Arguments.{join_assoc}
use Rattle.ssr_syntax_places.proofs.Climbing.{stands_anywhere, stands_before}
use Rattle.ssr_syntax_places.proofs.Postfixes.{field_stands}
use Rattle.ssr_syntax_places.proofs.Filling.{IsLeaf, StandsFilled, StandsFilledBefore, leaf_told, leaf_in_front, hole_stands, held_before, tokens_behind, tokens_front, tokens_end, spelled}
use Rattle.ssr_syntax_places.proofs.CoreShapes.{IsNameRef, AreFilled, literal_filled, path_told, path_filled_stands, paren_filled, prefix_filled, reference_filled, mut_reference_filled, try_filled, index_filled, name_told, field_by, field_filled, binary_filled, call_filled, method_call_filled}

-- ** What the tests tell.

all_ranks_fit : 12 ≤ 12
all_ranks_fit = omega arith

of_kind : (reach : Reach) (holes : Holes) (callable : Bool) (n at : ℕ) (kind other : SyntaxKind) (kids : Forest) → same_kind kind other ≡ true
    → StandsFilled reach holes callable n at other kids → StandsFilled reach holes callable n at kind kids
of_kind reach holes callable n at kind other kids same stands =
    subst (λ w. StandsFilled reach holes callable n at w kids) (sym (same_kind-equal kind other same)) stands

pub chosen : (b x y : Bool) → (if b then x else y) ≡ true → ((b ≡ true) × (x ≡ true)) ⊎ (y ≡ true)
chosen true x y e = inl (refl, e)
chosen false x y e = inr e

-- a path of names, or a name that stands for something
path_or_hole : (reach : Reach) (holes : Holes) → AreFillings reach holes → (callable : Bool) (n at : ℕ) (p : SyntaxKind) (path : Forest) → n ≤ 12
    → (o : Option Hole) → holes at ≡ o → binds_enough o callable n (same_kind p k.PATH && is_path holes at path) (spell path) ≡ true
    → StandsFilled reach holes callable n at k.PATH_EXPR (tree p path done)
path_or_hole reach holes are callable n at p path few None e is =
    let halves = and_parts (same_kind p k.PATH) (is_path holes at path) is in
    subst (λ w. StandsFilled reach holes callable n at k.PATH_EXPR (tree w path done)) (sym (same_kind-equal p k.PATH halves.0))
    (path_filled_stands reach holes callable n at path e (path_told holes at path halves.1))
path_or_hole reach holes are callable n at p path few (Some hole) e is =
    let halves = and_parts (is_single (spell path)) (nat_le hole.precedence n && (hole.callable || not callable)) is in
    hole_stands reach holes callable n at hole (tree p path done) e (are at hole e) (ap is_single (append-nil (spell path)) ∙ halves.0) halves.1 few

-- a token of fewer kinds
fewer_kinds : (ks ls : List SyntaxKind) (us : List Token) → every (λ kind. mem kind ls) ks ≡ true → is_token ks us ≡ true → is_token ls us ≡ true
fewer_kinds ks ls [] all is = absurd (cc)
fewer_kinds ks ls (t ∷ us) all is =
    let halves = and_parts (mem t.joined ks) (nat_eq (t.size - 1) (length us)) is in
    and_from (mem t.joined ls) (nat_eq (t.size - 1) (length us)) (every_mem (λ kind. mem kind ls) t.joined ks all halves.0) halves.1

-- between brackets
core_before : (reach : Reach) (holes : Holes) (closing : List Token) (at : ℕ) (kind : SyntaxKind) (kids : Forest) → is_token closing_marks closing ≡ true
    → StandsFilled reach holes false 12 at kind kids → StandsFilledBefore reach holes closing at kind kids
core_before reach holes closing at kind kids closes stands =
    stands_before reach closing_marks closing (node_filled holes at kind kids) (tokens_filled holes at (spell kids)) refl closes
    (stands_anywhere reach 12 false (node_filled holes at kind kids) (tokens_filled holes at (spell kids)) (omega arith) stands)

-- ** References.

ampersand_parts : (holes : Holes) (at : ℕ) (a : SyntaxKind) (t : Token) → is_ampersand holes at a (t ∷ []) ≡ true
    → ((mem t.joined ampersands && mem t.kind ampersands) ≡ true) × (a ≡ t.kind) × (tokens_filled holes at (t ∷ []) ≡ t ∷ [])
ampersand_parts holes at a t is =
    let halves = and_parts (mem t.joined ampersands && (mem t.kind ampersands && same_kind a t.kind)) (are_spelled holes at (t ∷ [])) is in
    let whole = and_parts (mem t.joined ampersands) (mem t.kind ampersands && same_kind a t.kind) halves.0 in
    let part = and_parts (mem t.kind ampersands) (same_kind a t.kind) whole.1 in (
      and_from (mem t.joined ampersands) (mem t.kind ampersands) whole.0 part.0,
      same_kind-equal a t.kind part.1,
      spelled holes at (t ∷ []) halves.1,
    )

referenced : (reach : Reach) (holes : Holes) (callable : Bool) (n at : ℕ) (a m : SyntaxKind) (us : List Token) (xs : Forest) → 2 ≤ n
    → is_ampersand holes at a us ≡ true → StandsFilled reach holes callable 2 (at + length us) m xs
    → StandsFilled reach holes callable n at k.REF_EXPR (leaf a us (tree m xs done))
referenced reach holes callable n at a m [] xs le is operand = absurd (cc)
referenced reach holes callable n at a m (t ∷ u ∷ us) xs le is operand = absurd (cc)
referenced reach holes callable n at a m (t ∷ []) xs le is operand =
    let parts = ampersand_parts holes at a t is in
    subst (λ w. StandsFilled reach holes callable n at k.REF_EXPR (leaf w (t ∷ []) (tree m xs done))) (sym parts.1)
    (reference_filled reach holes callable n at m t xs le parts.0 parts.2 operand)

mut_referenced : (reach : Reach) (holes : Holes) (callable : Bool) (n at : ℕ) (a b m : SyntaxKind) (us vs : List Token) (xs : Forest) → 2 ≤ n
    → is_ampersand holes at a us ≡ true → IsLeaf holes (at + length us) (k.MUT_KW ∷ []) b vs
    → StandsFilled reach holes callable 2 ((at + length us) + length vs) m xs
    → StandsFilled reach holes callable n at k.REF_EXPR (leaf a us (leaf b vs (tree m xs done)))
mut_referenced reach holes callable n at a b m [] vs xs le is word operand = absurd (cc)
mut_referenced reach holes callable n at a b m (t ∷ u ∷ us) vs xs le is word operand = absurd (cc)
mut_referenced reach holes callable n at a b m (t ∷ []) vs xs le is word operand =
    let parts = ampersand_parts holes at a t is in
    subst (λ w. StandsFilled reach holes callable n at k.REF_EXPR (leaf w (t ∷ []) (leaf b vs (tree m xs done)))) (sym parts.1)
    (mut_reference_filled reach holes callable n at b m t vs xs le parts.0 parts.2 word operand)

prefix_or_reference : (reach : Reach) (holes : Holes) (callable : Bool) (n at : ℕ) (kind a m : SyntaxKind) (us : List Token) (xs : Forest) → 2 ≤ n
    → (same_kind kind k.PREFIX_EXPR && is_leaf holes at prefix_operators a us || same_kind kind k.REF_EXPR && is_ampersand holes at a us) ≡ true
    → StandsFilled reach holes callable 2 (at + length us) m xs → StandsFilled reach holes callable n at kind (leaf a us (tree m xs done))
prefix_or_reference reach holes callable n at kind a m us xs le is operand =
    elim (or_cases (same_kind kind k.PREFIX_EXPR && is_leaf holes at prefix_operators a us) (same_kind kind k.REF_EXPR && is_ampersand holes at a us) is) [
      | inl prefix ↦
          let halves = and_parts (same_kind kind k.PREFIX_EXPR) (is_leaf holes at prefix_operators a us) prefix in
          of_kind reach holes callable n at kind k.PREFIX_EXPR (leaf a us (tree m xs done)) halves.0
          (prefix_filled reach holes callable n at a m us xs le (leaf_told holes at prefix_operators a us halves.1) operand)
      | inr reference ↦
          let halves = and_parts (same_kind kind k.REF_EXPR) (is_ampersand holes at a us) reference in
          of_kind reach holes callable n at kind k.REF_EXPR (leaf a us (tree m xs done)) halves.0
          (referenced reach holes callable n at a m us xs le halves.1 operand)
    ]

-- ** Fields.

name_ref_told : (holes : Holes) (at : ℕ) (ks : List SyntaxKind) (kind : SyntaxKind) (kids : Forest) → is_name_ref holes at ks kind kids ≡ true
    → IsNameRef holes at ks kind kids
name_ref_told holes at ks kind (leaf a us done) is =
    let halves = and_parts (same_kind kind k.NAME_REF) (is_leaf holes at ks a us) is in
    name_told holes at ks kind a us halves.0 (leaf_told holes at ks a us halves.1)
name_ref_told holes at ks kind _ is = absurd (cc)

number_or_name : (us : List Token) → is_token (k.INT_NUMBER ∷ k.IDENT ∷ []) us ≡ true
    → (is_token (k.INT_NUMBER ∷ []) us ≡ true) ⊎ (is_token (k.IDENT ∷ []) us ≡ true)
number_or_name [] is = absurd (cc)
number_or_name (t ∷ us) is =
    let halves = and_parts (mem t.joined (k.INT_NUMBER ∷ k.IDENT ∷ [])) (nat_eq (t.size - 1) (length us)) is in
    elim (or_cases (same_kind t.joined k.INT_NUMBER) (mem t.joined (k.IDENT ∷ [])) halves.0) [
      | inl number ↦ inl (and_from (mem t.joined (k.INT_NUMBER ∷ [])) (nat_eq (t.size - 1) (length us)) (ap (λ x. x || false) number) halves.1)
      | inr name ↦ inr (and_from (mem t.joined (k.IDENT ∷ [])) (nat_eq (t.size - 1) (length us)) name halves.1)
    ]

member_stands : (reach : Reach) (callable : Bool) (us : List Token) → is_token (k.DOT ∷ []) us ≡ true → (x : Forest) (ts name : List Token)
    → Stands reach 1 false x ts → is_token (member_names callable) name ≡ true
    → Stands reach 1 callable (node k.FIELD_EXPR (with_name x us name)) (ts ++ (us ++ name))
member_stands reach true us dot x ts name stands is = field_by reach true x ts us name dot stands is
member_stands reach false us dot x ts name stands is =
    elim (number_or_name name is) [
      | inl number ↦ field_by reach false x ts us name dot stands number
      | inr word ↦ field_stands reach false x ts us name dot word stands
    ]

-- ** Arguments.

no_arguments : (reach : Reach) (holes : Holes) (at : ℕ) (b : SyntaxKind) (vs : List Token) → IsLeaf holes at (k.R_PAREN ∷ []) b vs
    → AreFilled reach holes at (leaf b vs done)
no_arguments reach holes at b vs closes = record {
  y = done;
  vs = [];
  closing = vs;
  closes = closes.token;
  are = no_more;
  tree_is = closes.tree;
  tokens_are = tokens_end holes at vs closes.tokens;
}

last_argument : (reach : Reach) (holes : Holes) (at : ℕ) (m b : SyntaxKind) (xs : Forest) (vs : List Token)
    → IsLeaf holes (at + length (spell xs)) (k.R_PAREN ∷ []) b vs → StandsFilledBefore reach holes vs at m xs
    → AreFilled reach holes at (tree m xs (leaf b vs done))
last_argument reach holes at m b xs vs closes inside = record {
  y = node_filled holes at m xs;
  vs = tokens_filled holes at (spell xs);
  closing = vs;
  closes = closes.token;
  are = last inside;
  tree_is = ap (λ w. join (node_filled holes at m xs) w) closes.tree;
  tokens_are = tokens_behind holes at (spell xs) (vs ++ []) vs (tokens_end holes (at + length (spell xs)) vs closes.tokens);
}

further_argument : (reach : Reach) (holes : Holes) (at : ℕ) (m b : SyntaxKind) (xs args : Forest) (vs : List Token)
    → IsLeaf holes (at + length (spell xs)) (k.COMMA ∷ []) b vs → StandsFilledBefore reach holes vs at m xs
    → AreFilled reach holes ((at + length (spell xs)) + length vs) args → AreFilled reach holes at (tree m xs (leaf b vs args))
further_argument reach holes at m b xs args vs comma inside others =
    let behind : ℕ = (at + length (spell xs)) + length vs in
    let x : Forest = node_filled holes at m xs in
    let ts : List Token = tokens_filled holes at (spell xs) in
    let front : Forest = join x (token_leaf vs) in
    record {
      y = join front others.y;
      vs = ts ++ (vs ++ others.vs);
      closing = others.closing;
      closes = others.closes;
      are = more vs comma.token inside others.are;
      tree_is =
          ap (λ w. join x w) (leaf_in_front b vs (filled holes behind args) comma.tree)
          ∙ sym (join_assoc x (token_leaf vs) (filled holes behind args))
          ∙ ap (λ w. join front w) others.tree_is
          ∙ sym (join_assoc front others.y (token_leaf others.closing));
      tokens_are =
          tokens_behind holes at (spell xs) (vs ++ spell args) (vs ++ (others.vs ++ others.closing))
          (tokens_front holes (at + length (spell xs)) vs (spell args) (others.vs ++ others.closing) comma.tokens others.tokens_are)
          ∙ ap (λ w. ts ++ w) (sym (append_assoc vs others.vs others.closing))
          ∙ sym (append_assoc ts (vs ++ others.vs) others.closing);
    }

-- ** All of them.

-- the tests of an operator between two operands, and those of a field
abbrev pub is_binary : Holes → Bool → ℕ → ℕ → SyntaxKind → Forest → SyntaxKind → List Token → SyntaxKind → Forest → Bool
is_binary holes callable n at m xs a us j ys =
    (nat_lt (row_in ranks a) (length ranks) && nat_le (4 + row_in ranks a) n)
    && is_leaf holes (at + length (spell xs)) (operators (row_in ranks a)) a us
    && (core holes false (4 + row_in ranks a) at m xs
    && core holes callable (3 + row_in ranks a) ((at + length (spell xs)) + length us) j ys)

abbrev pub is_field : Holes → Bool → ℕ → ℕ → SyntaxKind → SyntaxKind → Forest → SyntaxKind → List Token → SyntaxKind → Forest → Bool
is_field holes callable n at kind m xs a us j ys =
    nat_le 1 n && core holes false 1 at m xs
    && (same_kind kind k.FIELD_EXPR
    && (is_leaf holes (at + length (spell xs)) (k.DOT ∷ []) a us
    && is_name_ref holes ((at + length (spell xs)) + length us) (member_names callable) j ys))

mutual
  pub core_stands : (reach : Reach) (holes : Holes) → AreFillings reach holes → (callable : Bool) (n at : ℕ) (kind : SyntaxKind) (kids : Forest) → n ≤ 12
      → core holes callable n at kind kids ≡ true → StandsFilled reach holes callable n at kind kids
  core_stands reach holes are callable n at kind (leaf a us done) few is =
      let halves = and_parts (same_kind kind k.LITERAL) (is_leaf holes at literals a us) is in
      of_kind reach holes callable n at kind k.LITERAL (leaf a us done) halves.0
      (literal_filled reach holes callable n at a us (leaf_told holes at literals a us halves.1))
  core_stands reach holes are callable n at kind (tree p path done) few is =
      let halves = and_parts _ _ is in
      of_kind reach holes callable n at kind k.PATH_EXPR (tree p path done) halves.0
      (path_or_hole reach holes are callable n at p path few (holes at) refl halves.1)
  core_stands reach holes are callable n at kind (leaf a us (tree m xs done)) few is =
      let halves = and_parts _ _ is in
      let front = and_parts _ _ halves.0 in
      prefix_or_reference reach holes callable n at kind a m us xs (leb-true 2 n front.0) halves.1
      (core_stands reach holes are callable 2 (at + length us) m xs (omega arith) front.1)
  core_stands reach holes are callable n at kind (leaf a us (leaf b vs (tree m xs done))) few is =
      let halves = and_parts _ _ is in
      let front = and_parts _ _ halves.0 in
      let whole = and_parts _ _ halves.1 in
      let words = and_parts _ _ whole.1 in
      of_kind reach holes callable n at kind k.REF_EXPR (leaf a us (leaf b vs (tree m xs done))) whole.0
      (mut_referenced reach holes callable n at a b m us vs xs (leb-true 2 n front.0) words.0 (leaf_told holes (at + length us) (k.MUT_KW ∷ []) b vs words.1)
      (core_stands reach holes are callable 2 ((at + length us) + length vs) m xs (omega arith) front.1))
  core_stands reach holes are callable n at kind (leaf a us (tree m xs (leaf b vs done))) few is =
      let inner : ℕ = at + length us in
      let halves = and_parts _ _ is in
      let whole = and_parts _ _ halves.1 in
      let brackets = and_parts _ _ whole.1 in
      let opens = leaf_told holes at (k.L_PAREN ∷ []) a us brackets.0 in
      let closes = leaf_told holes (inner + length (spell xs)) (k.R_PAREN ∷ []) b vs brackets.1 in
      let closing = fewer_kinds (k.R_PAREN ∷ []) closing_marks vs refl closes.token in
      let inside : StandsFilledBefore reach holes vs inner m xs = elim (or_cases _ _ halves.0) [
        | inl held ↦ held_before reach holes vs inner m xs are closing held
        | inr operand ↦ core_before reach holes vs inner m xs closing (core_stands reach holes are false 12 inner m xs all_ranks_fit operand)
      ] in
      of_kind reach holes callable n at kind k.PAREN_EXPR (leaf a us (tree m xs (leaf b vs done))) whole.0
      (paren_filled reach holes callable n at a b m us vs xs opens closes inside)
  core_stands reach holes are callable n at kind (tree m xs (leaf a us done)) few is =
      let halves = and_parts _ _ is in
      let front = and_parts _ _ halves.0 in
      let whole = and_parts _ _ halves.1 in
      of_kind reach holes callable n at kind k.TRY_EXPR (tree m xs (leaf a us done)) whole.0
      (try_filled reach holes callable n at a m us xs (leb-true 1 n front.0) (leaf_told holes (at + length (spell xs)) (k.QUESTION ∷ []) a us whole.1)
      (core_stands reach holes are false 1 at m xs (omega arith) front.1))
  core_stands reach holes are callable n at kind (tree m xs (leaf a us (tree j ys done))) few is =
      let behind : ℕ = at + length (spell xs) in
      elim (chosen (same_kind kind k.BIN_EXPR) (is_binary holes callable n at m xs a us j ys) (is_field holes callable n at kind m xs a us j ys) is) [
        | inl binary ↦
            let halves = and_parts _ _ binary.1 in
            let front = and_parts _ _ halves.0 in
            let bounds = and_parts _ _ front.0 in
            let operands = and_parts _ _ halves.1 in
            let r : ℕ = row_in ranks a in
            let low : r < 9 = ltb-true r (length ranks) bounds.0 in
            of_kind reach holes callable n at kind k.BIN_EXPR (tree m xs (leaf a us (tree j ys done))) binary.0
            (binary_filled reach holes callable n at r a m j us xs ys low (leb-true (4 + r) n bounds.1) (leaf_told holes behind (operators r) a us front.1)
            (core_stands reach holes are false (4 + r) at m xs (omega (arith, low)) operands.0)
            (core_stands reach holes are callable (3 + r) (behind + length us) j ys (omega (arith, low)) operands.1))
        | inr field ↦
            let halves = and_parts _ _ field in
            let front = and_parts _ _ halves.0 in
            let whole = and_parts _ _ halves.1 in
            let member = and_parts _ _ whole.1 in
            let dot = leaf_told holes behind (k.DOT ∷ []) a us member.0 in
            of_kind reach holes callable n at kind k.FIELD_EXPR (tree m xs (leaf a us (tree j ys done))) whole.0
            (field_filled reach holes callable n at (member_names callable) a m j us xs ys (leb-true 1 n front.0) dot
            (name_ref_told holes (behind + length us) (member_names callable) j ys member.1) (member_stands reach callable us dot.token)
            (core_stands reach holes are false 1 at m xs (omega arith) front.1))
      ]
  core_stands reach holes are callable n at kind (tree m xs (leaf a us (tree j ys (leaf b vs done)))) few is =
      let behind : ℕ = (at + length (spell xs)) + length us in
      let halves = and_parts _ _ is in
      let whole = and_parts _ _ halves.1 in
      let brackets = and_parts _ _ whole.1 in
      let operands = and_parts _ _ halves.0 in
      let front = and_parts _ _ operands.0 in
      let closes = leaf_told holes (behind + length (spell ys)) (k.R_BRACK ∷ []) b vs brackets.1 in
      let closing = fewer_kinds (k.R_BRACK ∷ []) closing_marks vs refl closes.token in
      let inside : StandsFilledBefore reach holes vs behind j ys = elim (or_cases _ _ operands.1) [
        | inl held ↦ held_before reach holes vs behind j ys are closing held
        | inr operand ↦ core_before reach holes vs behind j ys closing (core_stands reach holes are false 12 behind j ys all_ranks_fit operand)
      ] in
      of_kind reach holes callable n at kind k.INDEX_EXPR (tree m xs (leaf a us (tree j ys (leaf b vs done)))) whole.0
      (index_filled reach holes callable n at a b m j us vs xs ys (leb-true 1 n front.0) (leaf_told holes (at + length (spell xs)) (k.L_BRACK ∷ []) a us brackets.0) closes
      (core_stands reach holes are false 1 at m xs (omega arith) front.1) inside)
  core_stands reach holes are callable n at kind (tree m xs (tree j (leaf a us args) done)) few is =
      let behind : ℕ = at + length (spell xs) in
      let halves = and_parts _ _ is in
      let operands = and_parts _ _ halves.0 in
      let front = and_parts _ _ operands.0 in
      let whole = and_parts _ _ halves.1 in
      let list = and_parts _ _ whole.1 in
      of_kind reach holes callable n at kind k.CALL_EXPR (tree m xs (tree j (leaf a us args) done)) whole.0
      (call_filled reach holes callable n at a m j us xs args (leb-true 1 n front.0) (same_kind-equal j k.ARG_LIST list.0)
      (leaf_told holes behind (k.L_PAREN ∷ []) a us list.1) (arguments_filled reach holes are (behind + length us) args operands.1)
      (core_stands reach holes are true 1 at m xs (omega arith) front.1))
  core_stands reach holes are callable n at kind (tree m xs (leaf a us (tree j ys (tree i (leaf b vs args) done)))) few is =
      let dot : ℕ = at + length (spell xs) in
      let behind : ℕ = (dot + length us) + length (spell ys) in
      let halves = and_parts _ _ is in
      let operands = and_parts _ _ halves.0 in
      let front = and_parts _ _ operands.0 in
      let whole = and_parts _ _ halves.1 in
      let parts = and_parts _ _ whole.1 in
      let member = and_parts _ _ parts.0 in
      let list = and_parts _ _ parts.1 in
      of_kind reach holes callable n at kind k.METHOD_CALL_EXPR (tree m xs (leaf a us (tree j ys (tree i (leaf b vs args) done)))) whole.0
      (method_call_filled reach holes callable n at a b m j i us vs xs ys args (leb-true 1 n front.0) (same_kind-equal i k.ARG_LIST list.0)
      (leaf_told holes dot (k.DOT ∷ []) a us member.0) (name_ref_told holes (dot + length us) (k.IDENT ∷ []) j ys member.1)
      (leaf_told holes behind (k.L_PAREN ∷ []) b vs list.1) (arguments_filled reach holes are (behind + length vs) args operands.1)
      (core_stands reach holes are false 1 at m xs (omega arith) front.1))
  core_stands reach holes are callable n at kind _ few is = absurd (cc)

  pub arguments_filled : (reach : Reach) (holes : Holes) → AreFillings reach holes → (at : ℕ) (args : Forest) → arguments holes at args ≡ true
      → AreFilled reach holes at args
  arguments_filled reach holes are at (leaf b vs done) is = no_arguments reach holes at b vs (leaf_told holes at (k.R_PAREN ∷ []) b vs is)
  arguments_filled reach holes are at (tree m xs (leaf b vs done)) is =
      let halves = and_parts _ _ is in
      let closes = leaf_told holes (at + length (spell xs)) (k.R_PAREN ∷ []) b vs halves.1 in
      let closing = fewer_kinds (k.R_PAREN ∷ []) closing_marks vs refl closes.token in
      let inside : StandsFilledBefore reach holes vs at m xs = elim (or_cases _ _ halves.0) [
        | inl held ↦ held_before reach holes vs at m xs are closing held
        | inr operand ↦ core_before reach holes vs at m xs closing (core_stands reach holes are false 12 at m xs all_ranks_fit operand)
      ] in
      last_argument reach holes at m b xs vs closes inside
  arguments_filled reach holes are at (tree m xs (leaf b vs args)) is =
      let halves = and_parts _ _ is in
      let front = and_parts _ _ halves.0 in
      let comma = leaf_told holes (at + length (spell xs)) (k.COMMA ∷ []) b vs front.1 in
      let closing = fewer_kinds (k.COMMA ∷ []) closing_marks vs refl comma.token in
      let inside : StandsFilledBefore reach holes vs at m xs = elim (or_cases _ _ front.0) [
        | inl held ↦ held_before reach holes vs at m xs are closing held
        | inr operand ↦ core_before reach holes vs at m xs closing (core_stands reach holes are false 12 at m xs all_ranks_fit operand)
      ] in
      further_argument reach holes at m b xs args vs comma inside (arguments_filled reach holes are ((at + length (spell xs)) + length vs) args halves.1)
  arguments_filled reach holes are at _ is = absurd (cc)

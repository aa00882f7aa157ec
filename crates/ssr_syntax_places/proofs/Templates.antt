-- Templates, node by node: a name that stands for something is a path of its own, and all else stands for itself.
use Rattle.std.proofs.Common.{◌≡◌, ℕ, ◌+◌, nat_le, Bool, true, false, not, ◌&&◌, ◌||◌, if◌then◌else◌, List, [], ◌∷◌, ◌++◌, length, Some, None, ◌⊎◌, inl, inr, refl, sym, ap, subst, ◌∙◌, append_assoc}
use Rattle.std.specs.Prelude.{Option, ⊤}
use Rattle.std.proofs.lemmas.List.{append-nil}
use Rattle.std.proofs.lemmas.Bool.{and_parts, or_cases}
use Rattle.ssr_syntax_kinds.specs.declared.kinds.SyntaxKind.{SyntaxKind}
use Rattle.ssr_syntax_kinds.specs.declared.kinds.SyntaxKind.TheVariants as k
use Rattle.ssr_syntax_kinds.specs.Kinds.{same_kind}
use Rattle.ssr_syntax_kinds.proofs.Shared.{same_kind-equal}
use Rattle.ssr_syntax_forms.specs.declared.tokens.Token.{Token}
use Rattle.ssr_syntax_forms.specs.Forms.{next}
use Rattle.ssr_syntax_forms.specs.Kinds.{mem}
use Rattle.ssr_syntax_forms.specs.Trees.{Forest, done, leaf, tree, join, spell}
use Rattle.ssr_syntax_types.specs.Literals.{literals}
use Rattle.ssr_syntax_types.specs.Paths.{path_names}
use Rattle.ssr_syntax_types.specs.Types.{ampersands}
use Rattle.ssr_syntax_exprs.specs.Expressions.{operators, prefix_operators, ranks}
use Rattle.ssr_syntax.specs.Operands.{row_in}
use Rattle.ssr_syntax_places.specs.Standing.{node, is_token}
use Rattle.ssr_syntax_places.specs.Core.{Hole, Holes, tokens_filled, filled, node_filled, path_filled, is_no_hole, are_spelled, is_leaf, is_ampersand, is_single, is_held, binds_enough, is_segment, is_path, is_name_ref, member_names, core, arguments}
use Rattle.ssr_syntax_places.proofs.Filling.{filled_append, held_hole, spelled, single_filled}
use Rattle.ssr_syntax_places.proofs.CoreStands.{chosen, is_binary, is_field}
use Rattle.ssr_syntax_places.proofs.Misnamed.{worded}

-- a node that is a name and stands for something
pub record IsName (holes : Holes) (at : ℕ) (kind : SyntaxKind) (kids : Forest) : Type 0 where
  pub hole : Hole
  pub held : holes at ≡ Some hole
  pub filled : node_filled holes at kind kids ≡ hole.tree
  pub single : is_single (spell kids) ≡ true

-- A node that is filled below alone, of a kind that has no word. `Below` is said of its children.
pub record IsOwn (holes : Holes) (at : ℕ) (kind : SyntaxKind) (kids : Forest) (Below : Type 0) : Type 0 where
  pub filled : node_filled holes at kind kids ≡ node kind (filled holes at kids)
  pub wordless : mem kind worded ≡ false
  pub below : Below

abbrev pub IsTemplate : Holes → ℕ → Forest → Type 0
IsTemplate holes at done = ⊤
IsTemplate holes at (leaf kind us x) = (are_spelled holes at us ≡ true) × IsTemplate holes (at + length us) x
IsTemplate holes at (tree kind kids x) =
    (IsName holes at kind kids ⊎ IsOwn holes at kind kids (IsTemplate holes at kids)) × IsTemplate holes (at + length (spell kids)) x

-- one node
abbrev pub IsNodeTemplate : Holes → ℕ → SyntaxKind → Forest → Type 0
IsNodeTemplate holes at kind kids = IsName holes at kind kids ⊎ IsOwn holes at kind kids (IsTemplate holes at kids)

-- ** Core templates are.

of_kind : (holes : Holes) (at : ℕ) (kind other : SyntaxKind) (kids : Forest) → same_kind kind other ≡ true → same_kind other k.PATH_EXPR ≡ false
    → mem other worded ≡ false → IsTemplate holes at kids → IsNodeTemplate holes at kind kids
of_kind holes at kind other kids same no_path wordless below =
    let is : kind ≡ other = same_kind-equal kind other same in
    let kept : same_kind kind k.PATH_EXPR ≡ false = ap (λ w. same_kind w k.PATH_EXPR) is ∙ no_path in
    inr (record {
      filled = ap (λ b. if b then path_filled (holes at) kids else node kind (filled holes at kids)) kept;
      wordless = ap (λ w. mem w worded) is ∙ wordless;
      below = below;
    })

pub leaf_spelled : (holes : Holes) (at : ℕ) (ks : List SyntaxKind) (kind : SyntaxKind) (us : List Token) → is_leaf holes at ks kind us ≡ true
    → are_spelled holes at us ≡ true
leaf_spelled holes at ks kind us is = (and_parts (is_token ks us && same_kind kind (next us)) (are_spelled holes at us) is).1

ampersand_spelled : (holes : Holes) (at : ℕ) (kind : SyntaxKind) (us : List Token) → is_ampersand holes at kind us ≡ true → are_spelled holes at us ≡ true
ampersand_spelled holes at kind [] is = absurd (cc)
ampersand_spelled holes at kind (t ∷ []) is =
    (and_parts (mem t.joined ampersands && (mem t.kind ampersands && same_kind kind t.kind)) (are_spelled holes at (t ∷ [])) is).1
ampersand_spelled holes at kind (t ∷ u ∷ us) is = absurd (cc)

name_ref_below : (holes : Holes) (at : ℕ) (ks : List SyntaxKind) (kind : SyntaxKind) (kids : Forest) → is_name_ref holes at ks kind kids ≡ true
    → IsNodeTemplate holes at kind kids
name_ref_below holes at ks kind (leaf a us done) is =
    let halves = and_parts (same_kind kind k.NAME_REF) (is_leaf holes at ks a us) is in
    of_kind holes at kind k.NAME_REF (leaf a us done) halves.0 refl refl (leaf_spelled holes at ks a us halves.1, tt)
name_ref_below holes at ks kind _ is = absurd (cc)

-- ** Paths, which stay what they are.

-- siblings that stay what they are
pub record Stay (holes : Holes) (at : ℕ) (z : Forest) : Type 0 where
  pub same : filled holes at z ≡ z
  pub are : IsTemplate holes at z

segment_stays : (holes : Holes) (at : ℕ) (kind : SyntaxKind) (kids : Forest) → is_segment holes at kind kids ≡ true → Stay holes at (node kind kids)
segment_stays holes at kind (tree r (leaf a us done) done) is =
    let halves = and_parts (same_kind kind k.PATH_SEGMENT) (same_kind r k.NAME_REF && is_leaf holes at path_names a us) is in
    let inner = and_parts (same_kind r k.NAME_REF) (is_leaf holes at path_names a us) halves.1 in
    let name : same_kind r k.PATH_EXPR ≡ false = ap (λ w. same_kind w k.PATH_EXPR) (same_kind-equal r k.NAME_REF inner.0) in
    let outer : same_kind kind k.PATH_EXPR ≡ false = ap (λ w. same_kind w k.PATH_EXPR) (same_kind-equal kind k.PATH_SEGMENT halves.0) in
    let word : Forest = leaf a us done in
    let below : IsTemplate holes at (node r word) =
    (of_kind holes at r k.NAME_REF word inner.0 refl refl (leaf_spelled holes at path_names a us inner.1, tt), tt) in
    record {
      same =
          ap (λ b. join (if b then path_filled (holes at) (node r word) else node kind (filled holes at (node r word))) done) outer
          ∙ ap (λ b. node kind (join (if b then path_filled (holes at) word else node r word) done)) name;
      are = (of_kind holes at kind k.PATH_SEGMENT (node r word) halves.0 refl refl below, tt);
    }
segment_stays holes at kind _ is = absurd (cc)

longer_stays : (holes : Holes) (at : ℕ) (p s a : SyntaxKind) (path kids : Forest) (us : List Token) → same_kind p k.PATH ≡ true → Stay holes at path
    → are_spelled holes (at + length (spell path)) us ≡ true → Stay holes ((at + length (spell path)) + length us) (node s kids)
    → Stay holes at (tree p path (leaf a us (node s kids)))
longer_stays holes at p s a path kids us is front colons last =
    let kept : same_kind p k.PATH_EXPR ≡ false = ap (λ w. same_kind w k.PATH_EXPR) (same_kind-equal p k.PATH is) in
    let behind : ℕ = at + length (spell path) in
    record {
      same =
          ap (λ b. join (if b then path_filled (holes at) path else node p (filled holes at path)) (leaf a us (filled holes (behind + length us) (node s kids)))) kept
          ∙ ap (λ z. tree p z (leaf a us (filled holes (behind + length us) (node s kids)))) front.same
          ∙ ap (λ z. tree p path (leaf a us z)) last.same;
      are = (of_kind holes at p k.PATH path is refl refl front.are, (colons, last.are));
    }

path_stays : (holes : Holes) (at : ℕ) (kids : Forest) → is_path holes at kids ≡ true → Stay holes at kids
path_stays holes at (tree s kids done) is = segment_stays holes at s kids is
path_stays holes at (tree p path (leaf a us (tree s kids done))) is =
    let behind : ℕ = at + length (spell path) in
    let halves = and_parts (same_kind p k.PATH && is_path holes at path) (is_leaf holes behind (k.COLON2 ∷ []) a us && is_segment holes (behind + length us) s kids) is in
    let front = and_parts (same_kind p k.PATH) (is_path holes at path) halves.0 in
    let last = and_parts (is_leaf holes behind (k.COLON2 ∷ []) a us) (is_segment holes (behind + length us) s kids) halves.1 in
    longer_stays holes at p s a path kids us front.0 (path_stays holes at path front.1) (leaf_spelled holes behind (k.COLON2 ∷ []) a us last.0)
    (segment_stays holes (behind + length us) s kids last.1)
path_stays holes at _ is = absurd (cc)

-- a name that stands for something, or a path
name_or_path : (holes : Holes) (callable : Bool) (n at : ℕ) (p : SyntaxKind) (path : Forest) (o : Option Hole) → holes at ≡ o
    → binds_enough o callable n (same_kind p k.PATH && is_path holes at path) (spell path) ≡ true
    → IsNodeTemplate holes at k.PATH_EXPR (tree p path done)
name_or_path holes callable n at p path None e is =
    let halves = and_parts (same_kind p k.PATH) (is_path holes at path) is in
    let inner = path_stays holes at path halves.1 in
    let kept : same_kind p k.PATH_EXPR ≡ false = ap (λ w. same_kind w k.PATH_EXPR) (same_kind-equal p k.PATH halves.0) in
    inr (record {
      filled =
          ap (λ h. path_filled h (tree p path done)) e
          ∙ ap (λ z. node k.PATH_EXPR (node p z)) (sym inner.same)
          ∙ sym (ap (λ b. node k.PATH_EXPR (join (if b then path_filled (holes at) path else node p (filled holes at path)) done)) kept);
      wordless = refl;
      below = (of_kind holes at p k.PATH path halves.0 refl refl inner.are, tt);
    })
name_or_path holes callable n at p path (Some hole) e is =
    let halves = and_parts (is_single (spell path)) (nat_le hole.precedence n && (hole.callable || not callable)) is in
    inl (record {
      hole = hole;
      held = e;
      filled = ap (λ h. path_filled h (tree p path done)) e;
      single = ap is_single (append-nil (spell path)) ∙ halves.0;
    })

held_name : (holes : Holes) (at : ℕ) (kind : SyntaxKind) (kids : Forest) → is_held holes at kind kids ≡ true → IsNodeTemplate holes at kind kids
held_name holes at kind kids is =
    let halves = and_parts (same_kind kind k.PATH_EXPR) (is_single (spell kids) && not (is_no_hole (holes at))) is in
    let both = and_parts (is_single (spell kids)) (not (is_no_hole (holes at))) halves.1 in
    let held = held_hole (holes at) both.1 in
    inl (record {
      hole = held.0;
      held = held.1;
      filled =
          ap (λ b. if b then path_filled (holes at) kids else node kind (filled holes at kids)) halves.0
          ∙ ap (λ h. path_filled h kids) held.1;
      single = both.0;
    })

prefix_or_reference : (holes : Holes) (at : ℕ) (kind a : SyntaxKind) (us : List Token) (kids : Forest)
    → (same_kind kind k.PREFIX_EXPR && is_leaf holes at prefix_operators a us || same_kind kind k.REF_EXPR && is_ampersand holes at a us) ≡ true
    → IsTemplate holes (at + length us) kids → IsNodeTemplate holes at kind (leaf a us kids)
prefix_or_reference holes at kind a us kids is operand =
    elim (or_cases (same_kind kind k.PREFIX_EXPR && is_leaf holes at prefix_operators a us) (same_kind kind k.REF_EXPR && is_ampersand holes at a us) is) [
      | inl prefix ↦
          let halves = and_parts (same_kind kind k.PREFIX_EXPR) (is_leaf holes at prefix_operators a us) prefix in
          of_kind holes at kind k.PREFIX_EXPR (leaf a us kids) halves.0 refl refl (leaf_spelled holes at prefix_operators a us halves.1, operand)
      | inr reference ↦
          let halves = and_parts (same_kind kind k.REF_EXPR) (is_ampersand holes at a us) reference in
          of_kind holes at kind k.REF_EXPR (leaf a us kids) halves.0 refl refl (ampersand_spelled holes at a us halves.1, operand)
    ]

mutual
  pub core_template : (holes : Holes) (callable : Bool) (n at : ℕ) (kind : SyntaxKind) (kids : Forest) → core holes callable n at kind kids ≡ true
      → IsNodeTemplate holes at kind kids
  core_template holes callable n at kind (leaf a us done) is =
      let halves = and_parts (same_kind kind k.LITERAL) (is_leaf holes at literals a us) is in
      of_kind holes at kind k.LITERAL (leaf a us done) halves.0 refl refl (leaf_spelled holes at literals a us halves.1, tt)
  core_template holes callable n at kind (tree p path done) is =
      let halves = and_parts (same_kind kind k.PATH_EXPR) (binds_enough (holes at) callable n (same_kind p k.PATH && is_path holes at path) (spell path)) is in
      subst (λ w. IsNodeTemplate holes at w (tree p path done)) (sym (same_kind-equal kind k.PATH_EXPR halves.0))
      (name_or_path holes callable n at p path (holes at) refl halves.1)
  core_template holes callable n at kind (leaf a us (tree m xs done)) is =
      let halves = and_parts _ _ is in
      let front = and_parts _ _ halves.0 in
      prefix_or_reference holes at kind a us (tree m xs done) halves.1 (core_template holes callable 2 (at + length us) m xs front.1, tt)
  core_template holes callable n at kind (leaf a us (leaf b vs (tree m xs done))) is =
      let halves = and_parts _ _ is in
      let front = and_parts _ _ halves.0 in
      let whole = and_parts _ _ halves.1 in
      let words = and_parts _ _ whole.1 in
      of_kind holes at kind k.REF_EXPR (leaf a us (leaf b vs (tree m xs done))) whole.0 refl refl
      (ampersand_spelled holes at a us words.0, (leaf_spelled holes (at + length us) (k.MUT_KW ∷ []) b vs words.1, (core_template holes callable 2 ((at + length us) + length vs) m xs front.1, tt)))
  core_template holes callable n at kind (leaf a us (tree m xs (leaf b vs done))) is =
      let inner : ℕ = at + length us in
      let halves = and_parts _ _ is in
      let whole = and_parts _ _ halves.1 in
      let brackets = and_parts _ _ whole.1 in
      let operand : IsNodeTemplate holes inner m xs = elim (or_cases _ _ halves.0) [
        | inl held ↦ held_name holes inner m xs held
        | inr looser ↦ core_template holes false 12 inner m xs looser
      ] in
      of_kind holes at kind k.PAREN_EXPR (leaf a us (tree m xs (leaf b vs done))) whole.0 refl refl
      (leaf_spelled holes at (k.L_PAREN ∷ []) a us brackets.0, (operand, (leaf_spelled holes (inner + length (spell xs)) (k.R_PAREN ∷ []) b vs brackets.1, tt)))
  core_template holes callable n at kind (tree m xs (leaf a us done)) is =
      let halves = and_parts _ _ is in
      let front = and_parts _ _ halves.0 in
      let whole = and_parts _ _ halves.1 in
      of_kind holes at kind k.TRY_EXPR (tree m xs (leaf a us done)) whole.0 refl refl
      (core_template holes false 1 at m xs front.1, (leaf_spelled holes (at + length (spell xs)) (k.QUESTION ∷ []) a us whole.1, tt))
  core_template holes callable n at kind (tree m xs (leaf a us (tree j ys done))) is =
      let behind : ℕ = at + length (spell xs) in
      elim (chosen (same_kind kind k.BIN_EXPR) (is_binary holes callable n at m xs a us j ys) (is_field holes callable n at kind m xs a us j ys) is) [
        | inl binary ↦
            let halves = and_parts _ _ binary.1 in
            let front = and_parts _ _ halves.0 in
            let operands = and_parts _ _ halves.1 in
            of_kind holes at kind k.BIN_EXPR (tree m xs (leaf a us (tree j ys done))) binary.0 refl refl
            (core_template holes false (4 + row_in ranks a) at m xs operands.0, (leaf_spelled holes behind (operators (row_in ranks a)) a us front.1, (core_template holes callable (3 + row_in ranks a) (behind + length us) j ys operands.1, tt)))
        | inr field ↦
            let halves = and_parts _ _ field in
            let front = and_parts _ _ halves.0 in
            let whole = and_parts _ _ halves.1 in
            let member = and_parts _ _ whole.1 in
            of_kind holes at kind k.FIELD_EXPR (tree m xs (leaf a us (tree j ys done))) whole.0 refl refl
            (core_template holes false 1 at m xs front.1, (leaf_spelled holes behind (k.DOT ∷ []) a us member.0, (name_ref_below holes (behind + length us) (member_names callable) j ys member.1, tt)))
      ]
  core_template holes callable n at kind (tree m xs (leaf a us (tree j ys (leaf b vs done)))) is =
      let behind : ℕ = (at + length (spell xs)) + length us in
      let halves = and_parts _ _ is in
      let whole = and_parts _ _ halves.1 in
      let brackets = and_parts _ _ whole.1 in
      let operands = and_parts _ _ halves.0 in
      let front = and_parts _ _ operands.0 in
      let inside : IsNodeTemplate holes behind j ys = elim (or_cases _ _ operands.1) [
        | inl held ↦ held_name holes behind j ys held
        | inr looser ↦ core_template holes false 12 behind j ys looser
      ] in
      of_kind holes at kind k.INDEX_EXPR (tree m xs (leaf a us (tree j ys (leaf b vs done)))) whole.0 refl refl
      (core_template holes false 1 at m xs front.1, (leaf_spelled holes (at + length (spell xs)) (k.L_BRACK ∷ []) a us brackets.0, (inside, (leaf_spelled holes (behind + length (spell ys)) (k.R_BRACK ∷ []) b vs brackets.1, tt))))
  core_template holes callable n at kind (tree m xs (tree j (leaf a us args) done)) is =
      let behind : ℕ = at + length (spell xs) in
      let halves = and_parts _ _ is in
      let operands = and_parts _ _ halves.0 in
      let front = and_parts _ _ operands.0 in
      let whole = and_parts _ _ halves.1 in
      let list = and_parts _ _ whole.1 in
      let below : IsTemplate holes behind (leaf a us args) =
      (leaf_spelled holes behind (k.L_PAREN ∷ []) a us list.1, arguments_template holes (behind + length us) args operands.1) in
      of_kind holes at kind k.CALL_EXPR (tree m xs (tree j (leaf a us args) done)) whole.0 refl refl
      (core_template holes true 1 at m xs front.1, (of_kind holes behind j k.ARG_LIST (leaf a us args) list.0 refl refl below, tt))
  core_template holes callable n at kind (tree m xs (leaf a us (tree j ys (tree i (leaf b vs args) done)))) is =
      let dot : ℕ = at + length (spell xs) in
      let name : ℕ = dot + length us in
      let behind : ℕ = name + length (spell ys) in
      let halves = and_parts _ _ is in
      let operands = and_parts _ _ halves.0 in
      let front = and_parts _ _ operands.0 in
      let whole = and_parts _ _ halves.1 in
      let parts = and_parts _ _ whole.1 in
      let member = and_parts _ _ parts.0 in
      let list = and_parts _ _ parts.1 in
      let below : IsTemplate holes behind (leaf b vs args) =
      (leaf_spelled holes behind (k.L_PAREN ∷ []) b vs list.1, arguments_template holes (behind + length vs) args operands.1) in
      of_kind holes at kind k.METHOD_CALL_EXPR (tree m xs (leaf a us (tree j ys (tree i (leaf b vs args) done)))) whole.0 refl refl
      (core_template holes false 1 at m xs front.1, (leaf_spelled holes dot (k.DOT ∷ []) a us member.0, (name_ref_below holes name (k.IDENT ∷ []) j ys member.1, (of_kind holes behind i k.ARG_LIST (leaf b vs args) list.0 refl refl below, tt))))
  core_template holes callable n at kind _ is = absurd (cc)

  pub arguments_template : (holes : Holes) (at : ℕ) (args : Forest) → arguments holes at args ≡ true → IsTemplate holes at args
  arguments_template holes at (leaf b vs done) is = (leaf_spelled holes at (k.R_PAREN ∷ []) b vs is, tt)
  arguments_template holes at (tree m xs (leaf b vs done)) is =
      let halves = and_parts _ _ is in
      let inside : IsNodeTemplate holes at m xs = elim (or_cases _ _ halves.0) [
        | inl held ↦ held_name holes at m xs held
        | inr looser ↦ core_template holes false 12 at m xs looser
      ] in
      (inside, (leaf_spelled holes (at + length (spell xs)) (k.R_PAREN ∷ []) b vs halves.1, tt))
  arguments_template holes at (tree m xs (leaf b vs args)) is =
      let halves = and_parts _ _ is in
      let front = and_parts _ _ halves.0 in
      let inside : IsNodeTemplate holes at m xs = elim (or_cases _ _ front.0) [
        | inl held ↦ held_name holes at m xs held
        | inr looser ↦ core_template holes false 12 at m xs looser
      ] in
      (inside, (leaf_spelled holes (at + length (spell xs)) (k.COMMA ∷ []) b vs front.1, arguments_template holes ((at + length (spell xs)) + length vs) args halves.1))
  arguments_template holes at _ is = absurd (cc)

-- ** The tokens of what is filled.

-- what names stand for has their tokens
abbrev pub AreSpelled : Holes → Type 0
AreSpelled holes = (number : ℕ) (hole : Hole) → holes number ≡ Some hole → spell hole.tree ≡ hole.tokens

pub spell_join : (x y : Forest) → spell (join x y) ≡ spell x ++ spell y
spell_join done y = refl
spell_join (leaf kind us x) y = ap (λ w. us ++ w) (spell_join x y) ∙ sym (append_assoc us (spell x) (spell y))
spell_join (tree kind kids x) y = ap (λ w. spell kids ++ w) (spell_join x y) ∙ sym (append_assoc (spell kids) (spell x) (spell y))

node_spelled : (holes : Holes) → AreSpelled holes → (at : ℕ) (kind : SyntaxKind) (kids : Forest)
    → (IsTemplate holes at kids → spell (filled holes at kids) ≡ tokens_filled holes at (spell kids)) → IsNodeTemplate holes at kind kids
    → spell (node_filled holes at kind kids) ≡ tokens_filled holes at (spell kids)
node_spelled holes are at kind kids same (inl name) =
    ap spell name.filled ∙ are at name.hole name.held ∙ sym (single_filled holes at name.hole (spell kids) name.single name.held)
node_spelled holes are at kind kids same (inr own) = ap spell own.filled ∙ append-nil (spell (filled holes at kids)) ∙ same own.below

pub filled_spelled : (holes : Holes) → AreSpelled holes → (at : ℕ) (z : Forest) → IsTemplate holes at z → spell (filled holes at z) ≡ tokens_filled holes at (spell z)
filled_spelled holes are at done is = refl
filled_spelled holes are at (leaf kind us x) (own, others) =
    ap (λ w. us ++ w) (filled_spelled holes are (at + length us) x others)
    ∙ ap (λ w. w ++ tokens_filled holes (at + length us) (spell x)) (sym (spelled holes at us own))
    ∙ sym (filled_append holes at us (spell x))
filled_spelled holes are at (tree kind kids x) (here, others) =
    spell_join (node_filled holes at kind kids) (filled holes (at + length (spell kids)) x)
    ∙ ap (λ w. w ++ spell (filled holes (at + length (spell kids)) x)) (node_spelled holes are at kind kids (λ below. filled_spelled holes are at kids below) here)
    ∙ ap (λ w. tokens_filled holes at (spell kids) ++ w) (filled_spelled holes are (at + length (spell kids)) x others)
    ∙ sym (filled_append holes at (spell kids) (spell x))

pub node_tokens : (holes : Holes) → AreSpelled holes → (at : ℕ) (kind : SyntaxKind) (kids : Forest) → IsNodeTemplate holes at kind kids
    → spell (node_filled holes at kind kids) ≡ tokens_filled holes at (spell kids)
node_tokens holes are at kind kids is = node_spelled holes are at kind kids (λ below. filled_spelled holes are at kids below) is

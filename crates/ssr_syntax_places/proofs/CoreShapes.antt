-- Each core expression, filled, stands if its filled operands do.
use Rattle.std.proofs.Common.{◌≡◌, ℕ, ◌+◌, ◌<◌, ◌≤◌, Bool, true, false, ◌&&◌, List, [], ◌∷◌, ◌++◌, length, None, sym, ap, subst, ◌∙◌, arith}
use Rattle.std.proofs.lemmas.List.{append-nil}
use Rattle.std.proofs.lemmas.Bool.{and_parts}
use Rattle.ssr_syntax_kinds.specs.declared.kinds.SyntaxKind.{SyntaxKind}
use Rattle.ssr_syntax_kinds.specs.declared.kinds.SyntaxKind.TheVariants as k
use Rattle.ssr_syntax_kinds.specs.Kinds.{same_kind}
use Rattle.ssr_syntax_kinds.proofs.Shared.{same_kind-equal}
use Rattle.ssr_syntax_kinds.specs.declared.reach.Reach.{Reach}
use Rattle.ssr_syntax_forms.specs.declared.tokens.Token.{Token}
use Rattle.ssr_syntax_forms.specs.Kinds.{mem}
use Rattle.ssr_syntax_forms.specs.Trees.{Forest, done, leaf, tree, join, spell}
use Rattle.ssr_syntax_types.specs.Literals.{literals}
use Rattle.ssr_syntax_types.specs.Paths.{path_names}
use Rattle.ssr_syntax_types.specs.Types.{ampersands}
use Rattle.ssr_syntax_exprs.specs.Expressions.{operators, prefix_operators, ranks}
use Rattle.ssr_syntax_places.specs.Standing.{node, is_token, token_leaf, segment, IsPath, one, longer, between, bracketed, with_name, Stands, AreArguments}
use Rattle.ssr_syntax_places.specs.Core.{Holes, tokens_filled, path_filled, filled, node_filled, is_leaf, is_segment, is_path}
use Rattle.ssr_syntax_places.proofs.Arguments.{join-done, join_assoc}
use Rattle.ssr_syntax_places.proofs.Atoms.{literal_stands}
use Rattle.ssr_syntax_places.proofs.Paths.{path_stands}
use Rattle.ssr_syntax_places.proofs.Climbing.{stands_looser}
use Rattle.ssr_syntax_places.proofs.Operators.{prefix_stands, reference_stands, mut_reference_stands, binary_stands}
use Rattle.ssr_syntax_places.proofs.Parentheses.{paren_stands}
use Rattle.ssr_syntax_places.proofs.Postfixes.{try_stands, index_stands, call_stands, method_call_stands, number_stands}
use Rattle.ssr_syntax_places.proofs.Filling.{IsLeaf, leaf_told, StandsFilled, StandsFilledBefore, as_same, stands_as, leaf_in_front, last_tokens, tokens_front, tokens_behind, tokens_end}

-- ** Atoms.

pub literal_filled : (reach : Reach) (holes : Holes) (callable : Bool) (n at : ℕ) (a : SyntaxKind) (us : List Token) → IsLeaf holes at literals a us
    → StandsFilled reach holes callable n at k.LITERAL (leaf a us done)
literal_filled reach holes callable n at a us is =
    as_same reach n callable (node k.LITERAL (token_leaf us)) (node k.LITERAL (leaf a us done)) us (tokens_filled holes at (us ++ []))
    (ap (node k.LITERAL) is.tree) (tokens_end holes at us is.tokens)
    (stands_as reach 0 n callable (node k.LITERAL (token_leaf us)) us (omega arith) (literal_stands reach us is.token))

-- ** Paths of names.

record IsSegment (holes : Holes) (at : ℕ) (kind : SyntaxKind) (kids : Forest) : Type 0 where
  name : List Token
  token : is_token path_names name ≡ true
  is : node kind kids ≡ segment name
  tokens : spell kids ≡ name
  same : tokens_filled holes at (spell kids) ≡ spell kids

segment_told : (holes : Holes) (at : ℕ) (kind : SyntaxKind) (kids : Forest) → is_segment holes at kind kids ≡ true → IsSegment holes at kind kids
segment_told holes at kind (tree r (leaf a us done) done) is =
    let halves = and_parts (same_kind kind k.PATH_SEGMENT) (same_kind r k.NAME_REF && is_leaf holes at path_names a us) is in
    let both = and_parts (same_kind r k.NAME_REF) (is_leaf holes at path_names a us) halves.1 in
    let leaf_is = leaf_told holes at path_names a us both.1 in
    let spelling : (us ++ []) ++ [] ≡ us = append-nil (us ++ []) ∙ append-nil us in
    record {
      name = us;
      token = leaf_is.token;
      is =
          ap (λ w. node w (node r (leaf a us done))) (same_kind-equal kind k.PATH_SEGMENT halves.0)
          ∙ ap (λ w. node k.PATH_SEGMENT (node w (leaf a us done))) (same_kind-equal r k.NAME_REF both.0)
          ∙ ap (λ w. node k.PATH_SEGMENT (node k.NAME_REF w)) leaf_is.tree;
      tokens = spelling;
      same = ap (tokens_filled holes at) spelling ∙ leaf_is.tokens ∙ sym spelling;
    }
segment_told holes at kind _ is = absurd (cc)

pub record IsPathSpelled (holes : Holes) (at : ℕ) (path : Forest) : Type 0 where
  pub is : IsPath (node k.PATH path) (spell path)
  pub same : tokens_filled holes at (spell path) ≡ spell path

path_as : (z w : Forest) (us vs : List Token) → w ≡ z → vs ≡ us → IsPath z us → IsPath w vs
path_as z w us vs e d is = subst (λ m. IsPath m vs) (sym e) (subst (λ m. IsPath z m) (sym d) is)

one_told : (holes : Holes) (at : ℕ) (s : SyntaxKind) (kids : Forest) → IsSegment holes at s kids → IsPathSpelled holes at (tree s kids done)
one_told holes at s kids seg = record {
  is = path_as (node k.PATH (segment seg.name)) (node k.PATH (node s kids)) seg.name (spell kids ++ []) (ap (node k.PATH) seg.is) (append-nil (spell kids) ∙ seg.tokens)
      (one seg.name seg.token);
  same = ap (tokens_filled holes at) (append-nil (spell kids)) ∙ seg.same ∙ sym (append-nil (spell kids));
}

longer_told : (holes : Holes) (at : ℕ) (a s : SyntaxKind) (us : List Token) (path kids : Forest) → IsPathSpelled holes at path
    → IsLeaf holes (at + length (spell path)) (k.COLON2 ∷ []) a us → IsSegment holes ((at + length (spell path)) + length us) s kids
    → IsPathSpelled holes at (tree k.PATH path (leaf a us (tree s kids done)))
longer_told holes at a s us path kids front colons seg =
    let behind : ℕ = (at + length (spell path)) + length us in
    record {
      is = path_as (node k.PATH (join (join (node k.PATH path) (token_leaf us)) (segment seg.name))) (node k.PATH (tree k.PATH path (leaf a us (node s kids))))
          (spell path ++ (us ++ seg.name)) (spell path ++ (us ++ (spell kids ++ [])))
          (ap (λ w. node k.PATH (tree k.PATH path w)) (leaf_in_front a us (node s kids) colons.tree ∙ ap (λ w. join (token_leaf us) w) seg.is))
          (ap (λ w. spell path ++ (us ++ w)) (append-nil (spell kids) ∙ seg.tokens))
          (longer us seg.name front.is colons.token seg.token);
      same =
          tokens_behind holes at (spell path) (us ++ (spell kids ++ [])) (us ++ (spell kids ++ []))
          (tokens_front holes (at + length (spell path)) us (spell kids ++ []) (spell kids ++ []) colons.tokens
          (last_tokens holes behind (spell kids) ∙ seg.same ∙ sym (append-nil (spell kids))))
          ∙ ap (λ w. w ++ (us ++ (spell kids ++ []))) front.same;
    }

pub path_told : (holes : Holes) (at : ℕ) (path : Forest) → is_path holes at path ≡ true → IsPathSpelled holes at path
path_told holes at (tree s kids done) is = one_told holes at s kids (segment_told holes at s kids is)
path_told holes at (tree p path (leaf a us (tree s kids done))) is =
    let halves = and_parts (same_kind p k.PATH && is_path holes at path)
    (is_leaf holes (at + length (spell path)) (k.COLON2 ∷ []) a us && is_segment holes ((at + length (spell path)) + length us) s kids) is in
    let front = and_parts (same_kind p k.PATH) (is_path holes at path) halves.0 in
    let last = and_parts (is_leaf holes (at + length (spell path)) (k.COLON2 ∷ []) a us) (is_segment holes ((at + length (spell path)) + length us) s kids) halves.1 in
    subst (λ w. IsPathSpelled holes at (tree w path (leaf a us (tree s kids done)))) (sym (same_kind-equal p k.PATH front.0))
    (longer_told holes at a s us path kids (path_told holes at path front.1)
    (leaf_told holes (at + length (spell path)) (k.COLON2 ∷ []) a us last.0) (segment_told holes ((at + length (spell path)) + length us) s kids last.1))
path_told holes at _ is = absurd (cc)

pub path_filled_stands : (reach : Reach) (holes : Holes) (callable : Bool) (n at : ℕ) (path : Forest) → holes at ≡ None → IsPathSpelled holes at path
    → StandsFilled reach holes callable n at k.PATH_EXPR (tree k.PATH path done)
path_filled_stands reach holes callable n at path e told =
    let z : Forest = node k.PATH_EXPR (node k.PATH path) in
    as_same reach n callable z (node_filled holes at k.PATH_EXPR (node k.PATH path)) (spell path) (tokens_filled holes at (spell path ++ []))
    (ap (λ o. path_filled o (node k.PATH path)) e) (last_tokens holes at (spell path) ∙ told.same)
    (stands_as reach 0 n callable z (spell path) (omega arith) (path_stands reach (node k.PATH path) (spell path) told.is))

-- ** In parentheses.

pub paren_filled : (reach : Reach) (holes : Holes) (callable : Bool) (n at : ℕ) (a b m : SyntaxKind) (us vs : List Token) (xs : Forest)
    → IsLeaf holes at (k.L_PAREN ∷ []) a us → IsLeaf holes ((at + length us) + length (spell xs)) (k.R_PAREN ∷ []) b vs
    → StandsFilledBefore reach holes vs (at + length us) m xs → StandsFilled reach holes callable n at k.PAREN_EXPR (leaf a us (tree m xs (leaf b vs done)))
paren_filled reach holes callable n at a b m us vs xs opens closes inside =
    let y : Forest = node_filled holes (at + length us) m xs in
    let ys : List Token = tokens_filled holes (at + length us) (spell xs) in
    as_same reach n callable (bracketed k.PAREN_EXPR us y vs) (node k.PAREN_EXPR (leaf a us (join y (leaf b vs done)))) (between us ys vs)
    (tokens_filled holes at (us ++ (spell xs ++ (vs ++ []))))
    (ap (node k.PAREN_EXPR)
    (leaf_in_front a us (join y (leaf b vs done)) opens.tree ∙ ap (λ w. join (token_leaf us) (join y w)) closes.tree
    ∙ sym (join_assoc (token_leaf us) y (token_leaf vs))))
    (tokens_front holes at us (spell xs ++ (vs ++ [])) (ys ++ vs) opens.tokens
    (tokens_behind holes (at + length us) (spell xs) (vs ++ []) vs (tokens_end holes ((at + length us) + length (spell xs)) vs closes.tokens)))
    (stands_as reach 0 n callable (bracketed k.PAREN_EXPR us y vs) (between us ys vs) (omega arith) (paren_stands reach y us ys vs opens.token closes.token inside))

-- ** In front.

-- one leaf and one node
front_tree : (holes : Holes) (at : ℕ) (a m : SyntaxKind) (us : List Token) (xs : Forest) → leaf a us done ≡ token_leaf us
    → leaf a us (join (node_filled holes at m xs) done) ≡ join (token_leaf us) (node_filled holes at m xs)
front_tree holes at a m us xs same =
    leaf_in_front a us (join (node_filled holes at m xs) done) same ∙ ap (λ w. join (token_leaf us) w) (join-done (node_filled holes at m xs))

pub prefix_filled : (reach : Reach) (holes : Holes) (callable : Bool) (n at : ℕ) (a m : SyntaxKind) (us : List Token) (xs : Forest) → 2 ≤ n
    → IsLeaf holes at prefix_operators a us → StandsFilled reach holes callable 2 (at + length us) m xs
    → StandsFilled reach holes callable n at k.PREFIX_EXPR (leaf a us (tree m xs done))
prefix_filled reach holes callable n at a m us xs le is operand =
    let y : Forest = node_filled holes (at + length us) m xs in
    let ys : List Token = tokens_filled holes (at + length us) (spell xs) in
    as_same reach n callable (node k.PREFIX_EXPR (join (token_leaf us) y)) (node k.PREFIX_EXPR (leaf a us (join y done))) (us ++ ys)
    (tokens_filled holes at (us ++ (spell xs ++ [])))
    (ap (node k.PREFIX_EXPR) (front_tree holes (at + length us) a m us xs is.tree))
    (tokens_front holes at us (spell xs ++ []) ys is.tokens (last_tokens holes (at + length us) (spell xs)))
    (stands_looser reach 2 n callable (node k.PREFIX_EXPR (join (token_leaf us) y)) (us ++ ys) le
    (prefix_stands reach callable y us ys is.token operand))

pub reference_filled : (reach : Reach) (holes : Holes) (callable : Bool) (n at : ℕ) (m : SyntaxKind) (t : Token) (xs : Forest) → 2 ≤ n
    → (mem t.joined ampersands && mem t.kind ampersands) ≡ true → tokens_filled holes at (t ∷ []) ≡ t ∷ []
    → StandsFilled reach holes callable 2 (at + 1) m xs
    → StandsFilled reach holes callable n at k.REF_EXPR (leaf t.kind (t ∷ []) (tree m xs done))
reference_filled reach holes callable n at m t xs le is same operand =
    let y : Forest = node_filled holes (at + 1) m xs in
    let ys : List Token = tokens_filled holes (at + 1) (spell xs) in
    as_same reach n callable (node k.REF_EXPR (leaf t.kind (t ∷ []) y)) (node k.REF_EXPR (leaf t.kind (t ∷ []) (join y done))) (t ∷ ys)
    (tokens_filled holes at (t ∷ (spell xs ++ [])))
    (ap (λ w. node k.REF_EXPR (leaf t.kind (t ∷ []) w)) (join-done y))
    (tokens_front holes at (t ∷ []) (spell xs ++ []) ys same (last_tokens holes (at + 1) (spell xs)))
    (stands_looser reach 2 n callable (node k.REF_EXPR (leaf t.kind (t ∷ []) y)) (t ∷ ys) le (reference_stands reach callable y t ys is operand))

pub mut_reference_filled : (reach : Reach) (holes : Holes) (callable : Bool) (n at : ℕ) (b m : SyntaxKind) (t : Token) (vs : List Token) (xs : Forest) → 2 ≤ n
    → (mem t.joined ampersands && mem t.kind ampersands) ≡ true → tokens_filled holes at (t ∷ []) ≡ t ∷ []
    → IsLeaf holes (at + 1) (k.MUT_KW ∷ []) b vs → StandsFilled reach holes callable 2 ((at + 1) + length vs) m xs
    → StandsFilled reach holes callable n at k.REF_EXPR (leaf t.kind (t ∷ []) (leaf b vs (tree m xs done)))
mut_reference_filled reach holes callable n at b m t vs xs le is same word operand =
    let y : Forest = node_filled holes ((at + 1) + length vs) m xs in
    let ys : List Token = tokens_filled holes ((at + 1) + length vs) (spell xs) in
    let z : Forest = node k.REF_EXPR (leaf t.kind (t ∷ []) (join (token_leaf vs) y)) in
    as_same reach n callable z (node k.REF_EXPR (leaf t.kind (t ∷ []) (leaf b vs (join y done)))) (t ∷ (vs ++ ys))
    (tokens_filled holes at (t ∷ (vs ++ (spell xs ++ []))))
    (ap (λ w. node k.REF_EXPR (leaf t.kind (t ∷ []) w)) (front_tree holes ((at + 1) + length vs) b m vs xs word.tree))
    (tokens_front holes at (t ∷ []) (vs ++ (spell xs ++ [])) (vs ++ ys) same
    (tokens_front holes (at + 1) vs (spell xs ++ []) ys word.tokens (last_tokens holes ((at + 1) + length vs) (spell xs))))
    (stands_looser reach 2 n callable z (t ∷ (vs ++ ys)) le (mut_reference_stands reach callable y t vs ys is word.token operand))

-- ** Behind.

pub try_filled : (reach : Reach) (holes : Holes) (callable : Bool) (n at : ℕ) (a m : SyntaxKind) (us : List Token) (xs : Forest) → 1 ≤ n
    → IsLeaf holes (at + length (spell xs)) (k.QUESTION ∷ []) a us → StandsFilled reach holes false 1 at m xs
    → StandsFilled reach holes callable n at k.TRY_EXPR (tree m xs (leaf a us done))
try_filled reach holes callable n at a m us xs le is operand =
    let x : Forest = node_filled holes at m xs in
    let ts : List Token = tokens_filled holes at (spell xs) in
    as_same reach n callable (node k.TRY_EXPR (join x (token_leaf us))) (node k.TRY_EXPR (join x (leaf a us done))) (ts ++ us)
    (tokens_filled holes at (spell xs ++ (us ++ [])))
    (ap (λ w. node k.TRY_EXPR (join x w)) is.tree)
    (tokens_behind holes at (spell xs) (us ++ []) us (tokens_end holes (at + length (spell xs)) us is.tokens))
    (stands_as reach 1 n callable (node k.TRY_EXPR (join x (token_leaf us))) (ts ++ us) le (try_stands reach false x ts us is.token operand))

-- a node, a leaf and what follows
middle_tree : (x z : Forest) (a : SyntaxKind) (us : List Token) → leaf a us done ≡ token_leaf us
    → join x (leaf a us z) ≡ join (join x (token_leaf us)) z
middle_tree x z a us same = ap (λ w. join x w) (leaf_in_front a us z same) ∙ sym (join_assoc x (token_leaf us) z)

pub index_filled : (reach : Reach) (holes : Holes) (callable : Bool) (n at : ℕ) (a b m j : SyntaxKind) (us vs : List Token) (xs ys : Forest) → 1 ≤ n
    → IsLeaf holes (at + length (spell xs)) (k.L_BRACK ∷ []) a us
    → IsLeaf holes (((at + length (spell xs)) + length us) + length (spell ys)) (k.R_BRACK ∷ []) b vs
    → StandsFilled reach holes false 1 at m xs → StandsFilledBefore reach holes vs ((at + length (spell xs)) + length us) j ys
    → StandsFilled reach holes callable n at k.INDEX_EXPR (tree m xs (leaf a us (tree j ys (leaf b vs done))))
index_filled reach holes callable n at a b m j us vs xs ys le opens closes operand inside =
    let behind : ℕ = (at + length (spell xs)) + length us in
    let x : Forest = node_filled holes at m xs in
    let y : Forest = node_filled holes behind j ys in
    let ts : List Token = tokens_filled holes at (spell xs) in
    let ws : List Token = tokens_filled holes behind (spell ys) in
    let z : Forest = node k.INDEX_EXPR (join (join (join x (token_leaf us)) y) (token_leaf vs)) in
    as_same reach n callable z (node k.INDEX_EXPR (join x (leaf a us (join y (leaf b vs done))))) (ts ++ between us ws vs)
    (tokens_filled holes at (spell xs ++ (us ++ (spell ys ++ (vs ++ [])))))
    (ap (node k.INDEX_EXPR)
    (middle_tree x (join y (leaf b vs done)) a us opens.tree ∙ ap (λ w. join (join x (token_leaf us)) (join y w)) closes.tree
    ∙ sym (join_assoc (join x (token_leaf us)) y (token_leaf vs))))
    (tokens_behind holes at (spell xs) (us ++ (spell ys ++ (vs ++ []))) (us ++ (ws ++ vs))
    (tokens_front holes (at + length (spell xs)) us (spell ys ++ (vs ++ [])) (ws ++ vs) opens.tokens
    (tokens_behind holes behind (spell ys) (vs ++ []) vs (tokens_end holes (behind + length (spell ys)) vs closes.tokens))))
    (stands_as reach 1 n callable z (ts ++ between us ws vs) le (index_stands reach false x y ts us ws vs opens.token closes.token operand inside))

-- the name of a field or a method
pub record IsNameRef (holes : Holes) (at : ℕ) (ks : List SyntaxKind) (kind : SyntaxKind) (kids : Forest) : Type 0 where
  pub us : List Token
  pub token : is_token ks us ≡ true
  pub is : node_filled holes at kind kids ≡ node k.NAME_REF (token_leaf us)
  pub tokens : tokens_filled holes at (spell kids) ≡ us

pub name_told : (holes : Holes) (at : ℕ) (ks : List SyntaxKind) (kind a : SyntaxKind) (us : List Token) → same_kind kind k.NAME_REF ≡ true
    → IsLeaf holes at ks a us → IsNameRef holes at ks kind (leaf a us done)
name_told holes at ks kind a us same leaf_is = record {
  us = us;
  token = leaf_is.token;
  is = ap (λ other. node_filled holes at other (leaf a us done)) (same_kind-equal kind k.NAME_REF same) ∙ ap (node k.NAME_REF) leaf_is.tree;
  tokens = tokens_end holes at us leaf_is.tokens;
}

-- an expression, a dot and a name
dotted_tree : (x y : Forest) (a : SyntaxKind) (us name : List Token) → leaf a us done ≡ token_leaf us → y ≡ node k.NAME_REF (token_leaf name)
    → join x (leaf a us y) ≡ with_name x us name
dotted_tree x y a us name same e = middle_tree x y a us same ∙ ap (λ w. join (join x (token_leaf us)) w) e

pub field_by : (reach : Reach) (callable : Bool) (x : Forest) (ts us name : List Token) → is_token (k.DOT ∷ []) us ≡ true
    → Stands reach 1 false x ts → is_token (k.INT_NUMBER ∷ []) name ≡ true → Stands reach 1 callable (node k.FIELD_EXPR (with_name x us name)) (ts ++ (us ++ name))
field_by reach callable x ts us name dot operand number =
    stands_as reach 1 1 callable (node k.FIELD_EXPR (with_name x us name)) (ts ++ (us ++ name)) (omega arith) (number_stands reach false x ts us name dot number operand)

pub field_filled : (reach : Reach) (holes : Holes) (callable : Bool) (n at : ℕ) (ks : List SyntaxKind) (a m j : SyntaxKind) (us : List Token) (xs ys : Forest)
    → 1 ≤ n → IsLeaf holes (at + length (spell xs)) (k.DOT ∷ []) a us → IsNameRef holes ((at + length (spell xs)) + length us) ks j ys
    → ((x : Forest) (ts name : List Token) → Stands reach 1 false x ts → is_token ks name ≡ true
    → Stands reach 1 callable (node k.FIELD_EXPR (with_name x us name)) (ts ++ (us ++ name)))
    → StandsFilled reach holes false 1 at m xs → StandsFilled reach holes callable n at k.FIELD_EXPR (tree m xs (leaf a us (tree j ys done)))
field_filled reach holes callable n at ks a m j us xs ys le dot name law operand =
    let behind : ℕ = (at + length (spell xs)) + length us in
    let x : Forest = node_filled holes at m xs in
    let y : Forest = node_filled holes behind j ys in
    let ts : List Token = tokens_filled holes at (spell xs) in
    let z : Forest = node k.FIELD_EXPR (with_name x us name.us) in
    as_same reach n callable z (node k.FIELD_EXPR (join x (leaf a us (join y done)))) (ts ++ (us ++ name.us))
    (tokens_filled holes at (spell xs ++ (us ++ (spell ys ++ []))))
    (ap (node k.FIELD_EXPR) (ap (λ w. join x (leaf a us w)) (join-done y) ∙ dotted_tree x y a us name.us dot.tree name.is))
    (tokens_behind holes at (spell xs) (us ++ (spell ys ++ [])) (us ++ name.us)
    (tokens_front holes (at + length (spell xs)) us (spell ys ++ []) name.us dot.tokens (last_tokens holes behind (spell ys) ∙ name.tokens)))
    (stands_looser reach 1 n callable z (ts ++ (us ++ name.us)) le (law x ts name.us operand name.token))

-- ** Between.

pub binary_filled : (reach : Reach) (holes : Holes) (callable : Bool) (n at r : ℕ) (a m j : SyntaxKind) (us : List Token) (xs ys : Forest)
    → r < length ranks → 4 + r ≤ n → IsLeaf holes (at + length (spell xs)) (operators r) a us
    → StandsFilled reach holes false (4 + r) at m xs → StandsFilled reach holes callable (3 + r) ((at + length (spell xs)) + length us) j ys
    → StandsFilled reach holes callable n at k.BIN_EXPR (tree m xs (leaf a us (tree j ys done)))
binary_filled reach holes callable n at r a m j us xs ys few le is left right =
    let behind : ℕ = (at + length (spell xs)) + length us in
    let x : Forest = node_filled holes at m xs in
    let y : Forest = node_filled holes behind j ys in
    let ts : List Token = tokens_filled holes at (spell xs) in
    let ws : List Token = tokens_filled holes behind (spell ys) in
    let z : Forest = node k.BIN_EXPR (join (join x (token_leaf us)) y) in
    as_same reach n callable z (node k.BIN_EXPR (join x (leaf a us (join y done)))) (ts ++ (us ++ ws))
    (tokens_filled holes at (spell xs ++ (us ++ (spell ys ++ []))))
    (ap (node k.BIN_EXPR) (ap (λ w. join x (leaf a us w)) (join-done y) ∙ middle_tree x y a us is.tree))
    (tokens_behind holes at (spell xs) (us ++ (spell ys ++ [])) (us ++ ws)
    (tokens_front holes (at + length (spell xs)) us (spell ys ++ []) ws is.tokens (last_tokens holes behind (spell ys))))
    (stands_looser reach (4 + r) n callable z (ts ++ (us ++ ws)) le (binary_stands reach r false callable x y ts us ws few is.token left right))

-- ** Calls.

-- what stands behind the parenthesis that opens a call, filled
pub record AreFilled (reach : Reach) (holes : Holes) (at : ℕ) (args : Forest) : Type 0 where
  pub y : Forest
  pub vs : List Token
  pub closing : List Token
  pub closes : is_token (k.R_PAREN ∷ []) closing ≡ true
  pub are : AreArguments reach closing y vs
  pub tree_is : filled holes at args ≡ join y (token_leaf closing)
  pub tokens_are : tokens_filled holes at (spell args) ≡ vs ++ closing

-- the list of arguments from its parenthesis on, in its node
list_tree : (reach : Reach) (holes : Holes) (at : ℕ) (b i : SyntaxKind) (vs : List Token) (args : Forest) → leaf b vs done ≡ token_leaf vs
    → (list : AreFilled reach holes at args) → i ≡ k.ARG_LIST → node i (leaf b vs (filled holes at args)) ≡ bracketed k.ARG_LIST vs list.y list.closing
list_tree reach holes at b i vs args same list e =
    ap (λ w. node w (leaf b vs (filled holes at args))) e
    ∙ ap (node k.ARG_LIST)
    (leaf_in_front b vs (filled holes at args) same ∙ ap (λ w. join (token_leaf vs) w) list.tree_is ∙ sym (join_assoc (token_leaf vs) list.y (token_leaf list.closing)))

list_node : (holes : Holes) (at : ℕ) (b i : SyntaxKind) (vs : List Token) (args : Forest) → i ≡ k.ARG_LIST
    → node_filled holes at i (leaf b vs args) ≡ node i (leaf b vs (filled holes (at + length vs) args))
list_node holes at b i vs args e =
    ap (λ w. node_filled holes at w (leaf b vs args)) e ∙ sym (ap (λ w. node w (leaf b vs (filled holes (at + length vs) args))) e)

pub call_filled : (reach : Reach) (holes : Holes) (callable : Bool) (n at : ℕ) (a m i : SyntaxKind) (us : List Token) (xs args : Forest) → 1 ≤ n
    → i ≡ k.ARG_LIST → IsLeaf holes (at + length (spell xs)) (k.L_PAREN ∷ []) a us
    → AreFilled reach holes ((at + length (spell xs)) + length us) args → StandsFilled reach holes true 1 at m xs
    → StandsFilled reach holes callable n at k.CALL_EXPR (tree m xs (tree i (leaf a us args) done))
call_filled reach holes callable n at a m i us xs args le e opens list operand =
    let behind : ℕ = at + length (spell xs) in
    let x : Forest = node_filled holes at m xs in
    let ts : List Token = tokens_filled holes at (spell xs) in
    let inner : Forest = bracketed k.ARG_LIST us list.y list.closing in
    let z : Forest = node k.CALL_EXPR (join x inner) in
    as_same reach n callable z (node k.CALL_EXPR (join x (join (node_filled holes behind i (leaf a us args)) done))) (ts ++ between us list.vs list.closing)
    (tokens_filled holes at (spell xs ++ ((us ++ spell args) ++ [])))
    (ap (λ w. node k.CALL_EXPR (join x w))
    (join-done (node_filled holes behind i (leaf a us args)) ∙ list_node holes behind a i us args e
    ∙ list_tree reach holes (behind + length us) a i us args opens.tree list e))
    (tokens_behind holes at (spell xs) ((us ++ spell args) ++ []) (us ++ (list.vs ++ list.closing))
    (last_tokens holes behind (us ++ spell args) ∙ tokens_front holes behind us (spell args) (list.vs ++ list.closing) opens.tokens list.tokens_are))
    (stands_as reach 1 n callable z (ts ++ between us list.vs list.closing) le
    (call_stands reach x list.y ts us list.vs list.closing opens.token list.closes operand list.are))

pub method_call_filled : (reach : Reach) (holes : Holes) (callable : Bool) (n at : ℕ) (a b m j i : SyntaxKind) (us vs : List Token) (xs ys args : Forest) → 1 ≤ n
    → i ≡ k.ARG_LIST → IsLeaf holes (at + length (spell xs)) (k.DOT ∷ []) a us
    → IsNameRef holes ((at + length (spell xs)) + length us) (k.IDENT ∷ []) j ys
    → IsLeaf holes (((at + length (spell xs)) + length us) + length (spell ys)) (k.L_PAREN ∷ []) b vs
    → AreFilled reach holes ((((at + length (spell xs)) + length us) + length (spell ys)) + length vs) args → StandsFilled reach holes false 1 at m xs
    → StandsFilled reach holes callable n at k.METHOD_CALL_EXPR (tree m xs (leaf a us (tree j ys (tree i (leaf b vs args) done))))
method_call_filled reach holes callable n at a b m j i us vs xs ys args le e dot name opens list operand =
    let front : ℕ = (at + length (spell xs)) + length us in
    let behind : ℕ = front + length (spell ys) in
    let x : Forest = node_filled holes at m xs in
    let y : Forest = node_filled holes front j ys in
    let given : Forest = node_filled holes behind i (leaf b vs args) in
    let ts : List Token = tokens_filled holes at (spell xs) in
    let inner : Forest = bracketed k.ARG_LIST vs list.y list.closing in
    let z : Forest = node k.METHOD_CALL_EXPR (join (with_name x us name.us) inner) in
    let tokens : List Token = ts ++ (us ++ (name.us ++ between vs list.vs list.closing)) in
    as_same reach n callable z (node k.METHOD_CALL_EXPR (join x (leaf a us (join y (join given done))))) tokens
    (tokens_filled holes at (spell xs ++ (us ++ (spell ys ++ ((vs ++ spell args) ++ [])))))
    (ap (node k.METHOD_CALL_EXPR)
    (ap (λ w. join x (leaf a us (join y w)))
    (join-done given ∙ list_node holes behind b i vs args e ∙ list_tree reach holes (behind + length vs) b i vs args opens.tree list e)
    ∙ ap (λ w. join x w) (sym (join_assoc (leaf a us done) y inner))
    ∙ sym (join_assoc x (leaf a us y) inner)
    ∙ ap (λ w. join w inner) (dotted_tree x y a us name.us dot.tree name.is)))
    (tokens_behind holes at (spell xs) (us ++ (spell ys ++ ((vs ++ spell args) ++ []))) (us ++ (name.us ++ (vs ++ (list.vs ++ list.closing))))
    (tokens_front holes (at + length (spell xs)) us (spell ys ++ ((vs ++ spell args) ++ [])) (name.us ++ (vs ++ (list.vs ++ list.closing))) dot.tokens
    (tokens_behind holes front (spell ys) ((vs ++ spell args) ++ []) (vs ++ (list.vs ++ list.closing))
    (last_tokens holes behind (vs ++ spell args) ∙ tokens_front holes behind vs (spell args) (list.vs ++ list.closing) opens.tokens list.tokens_are)
    ∙ ap (λ w. w ++ (vs ++ (list.vs ++ list.closing))) name.tokens)))
    (stands_as reach 1 n callable z tokens le
    (method_call_stands reach false x list.y ts us name.us vs list.vs list.closing dot.token name.token opens.token list.closes operand list.are))

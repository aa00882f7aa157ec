-- Templates filled, piece by piece.
use Rattle.std.proofs.Common.{◌≡◌, ℕ, ◌+◌, ◌≤◌, nat_le, Bool, true, false, not, ◌&&◌, ◌||◌, List, [], ◌∷◌, ◌++◌, length, Some, None, refl, sym, ap, subst, ◌∙◌, arith, append_assoc}
use Rattle.std.specs.Prelude.{Option}
use Rattle.std.proofs.lemmas.List.{append-nil}
use Rattle.std.proofs.lemmas.Bool.{and_parts, leb-true}
use Rattle.ssr_syntax_kinds.specs.declared.kinds.SyntaxKind.{SyntaxKind}
use Rattle.ssr_syntax_kinds.specs.declared.kinds.SyntaxKind.TheVariants as k
use Rattle.ssr_syntax_kinds.specs.Kinds.{same_kind}
use Rattle.ssr_syntax_kinds.proofs.Shared.{same_kind-equal}
use Rattle.ssr_syntax_kinds.specs.declared.reach.Reach.{Reach}
use Rattle.ssr_syntax_forms.specs.declared.tokens.Token.{Token}
use Rattle.ssr_syntax_forms.specs.Forms.{next}
use Rattle.ssr_syntax_forms.specs.Trees.{Forest, done, leaf, join, spell}
use Rattle.ssr_syntax_places.specs.Standing.{is_token, token_leaf, closing_marks, Stands, StandsBefore}
use Rattle.ssr_syntax_places.specs.Core.{Hole, Holes, IsFilling, AreFillings, token_filled, tokens_filled, path_filled, node_filled, is_no_hole, are_spelled, is_leaf, is_single, is_held}
use Rattle.ssr_syntax_places.proofs.Climbing.{stands_looser, stands_uncalled}

-- ** Tokens.

pub filled_append : (holes : Holes) (at : ℕ) (us vs : List Token)
    → tokens_filled holes at (us ++ vs) ≡ tokens_filled holes at us ++ tokens_filled holes (at + length us) vs
filled_append holes at [] vs = let same : at ≡ at + 0 = omega arith in ap (λ n. tokens_filled holes n vs) same
filled_append holes at (t ∷ us) vs =
    let same : (at + 1) + length us ≡ at + length (t ∷ us) = omega arith in
    ap (λ w. token_filled (holes at) t ++ w) (filled_append holes (at + 1) us vs)
    ∙ ap (λ n. token_filled (holes at) t ++ (tokens_filled holes (at + 1) us ++ tokens_filled holes n vs)) same
    ∙ sym (append_assoc (token_filled (holes at) t) (tokens_filled holes (at + 1) us) (tokens_filled holes (at + length (t ∷ us)) vs))

no_hole : (o : Option Hole) (t : Token) → is_no_hole o ≡ true → token_filled o t ≡ t ∷ []
no_hole None t is = refl
no_hole (Some hole) t is = absurd (cc)

pub spelled : (holes : Holes) (at : ℕ) (us : List Token) → are_spelled holes at us ≡ true → tokens_filled holes at us ≡ us
spelled holes at [] is = refl
spelled holes at (t ∷ us) is =
    let halves = and_parts (is_no_hole (holes at)) (are_spelled holes (at + 1) us) is in
    ap (λ w. w ++ tokens_filled holes (at + 1) us) (no_hole (holes at) t halves.0) ∙ ap (λ w. t ∷ w) (spelled holes (at + 1) us halves.1)

-- the last child's tokens
pub last_tokens : (holes : Holes) (at : ℕ) (us : List Token) → tokens_filled holes at (us ++ []) ≡ tokens_filled holes at us
last_tokens holes at us = ap (tokens_filled holes at) (append-nil us)

-- ** Leaves that stand for themselves.

pub record IsLeaf (holes : Holes) (at : ℕ) (ks : List SyntaxKind) (kind : SyntaxKind) (us : List Token) : Type 0 where
  pub token : is_token ks us ≡ true
  pub tree : leaf kind us done ≡ token_leaf us
  pub tokens : tokens_filled holes at us ≡ us

leaf_tree : (ks : List SyntaxKind) (kind : SyntaxKind) (us : List Token) → is_token ks us ≡ true → same_kind kind (next us) ≡ true
    → leaf kind us done ≡ token_leaf us
leaf_tree ks kind [] is same = absurd (cc)
leaf_tree ks kind (t ∷ us) is same = ap (λ w. leaf w (t ∷ us) done) (same_kind-equal kind t.joined same)

pub leaf_told : (holes : Holes) (at : ℕ) (ks : List SyntaxKind) (kind : SyntaxKind) (us : List Token) → is_leaf holes at ks kind us ≡ true
    → IsLeaf holes at ks kind us
leaf_told holes at ks kind us is =
    let halves = and_parts (is_token ks us && same_kind kind (next us)) (are_spelled holes at us) is in
    let both = and_parts (is_token ks us) (same_kind kind (next us)) halves.0 in
    record { token = both.0; tree = leaf_tree ks kind us both.0 both.1; tokens = spelled holes at us halves.1 }

pub leaf_in_front : (kind : SyntaxKind) (us : List Token) (z : Forest) → leaf kind us done ≡ token_leaf us → leaf kind us z ≡ join (token_leaf us) z
leaf_in_front kind us z same = ap (λ w. join w z) same

pub tokens_front : (holes : Holes) (at : ℕ) (us vs ws : List Token) → tokens_filled holes at us ≡ us → tokens_filled holes (at + length us) vs ≡ ws
    → tokens_filled holes at (us ++ vs) ≡ us ++ ws
tokens_front holes at us vs ws same rest =
    filled_append holes at us vs ∙ ap (λ w. w ++ tokens_filled holes (at + length us) vs) same ∙ ap (λ w. us ++ w) rest

pub tokens_behind : (holes : Holes) (at : ℕ) (us vs ws : List Token) → tokens_filled holes (at + length us) vs ≡ ws
    → tokens_filled holes at (us ++ vs) ≡ tokens_filled holes at us ++ ws
tokens_behind holes at us vs ws rest = filled_append holes at us vs ∙ ap (λ w. tokens_filled holes at us ++ w) rest

-- the last leaf
pub tokens_end : (holes : Holes) (at : ℕ) (us : List Token) → tokens_filled holes at us ≡ us → tokens_filled holes at (us ++ []) ≡ us
tokens_end holes at us same = last_tokens holes at us ∙ same

-- ** What stands.

pub as_same : (reach : Reach) (n : ℕ) (callable : Bool) (z w : Forest) (us vs : List Token) → w ≡ z → vs ≡ us → Stands reach n callable z us
    → Stands reach n callable w vs
as_same reach n callable z w us vs e d stands =
    subst (λ m. Stands reach n callable m vs) (sym e) (subst (λ m. Stands reach n callable z m) (sym d) stands)

pub stands_as : (reach : Reach) (n m : ℕ) (callable : Bool) (z : Forest) (us : List Token) → n ≤ m → Stands reach n true z us → Stands reach m callable z us
stands_as reach n m true z us le stands = stands_looser reach n m true z us le stands
stands_as reach n m false z us le stands = stands_uncalled reach m true z us (stands_looser reach n m true z us le stands)

called_as : (reach : Reach) (n : ℕ) (a b : Bool) (z : Forest) (us : List Token) → (a || not b) ≡ true → Stands reach n a z us → Stands reach n b z us
called_as reach n true b z us is stands = stands_as reach n n b z us (omega arith) stands
called_as reach n false true z us is stands = absurd (cc)
called_as reach n false false z us is stands = stands

-- the filled node, as it is to stand
abbrev pub StandsFilled : Reach → Holes → Bool → ℕ → ℕ → SyntaxKind → Forest → Type 0
StandsFilled reach holes callable n at kind kids = Stands reach n callable (node_filled holes at kind kids) (tokens_filled holes at (spell kids))

abbrev pub StandsFilledBefore : Reach → Holes → List Token → ℕ → SyntaxKind → Forest → Type 0
StandsFilledBefore reach holes closing at kind kids =
    StandsBefore reach closing (node_filled holes at kind kids) (tokens_filled holes at (spell kids))

-- ** Names that stand for something.

pub single_filled : (holes : Holes) (at : ℕ) (hole : Hole) (us : List Token) → is_single us ≡ true → holes at ≡ Some hole → tokens_filled holes at us ≡ hole.tokens
single_filled holes at hole [] is e = absurd (cc)
single_filled holes at hole (t ∷ u ∷ us) is e = absurd (cc)
single_filled holes at hole (t ∷ []) is e = ap (λ o. token_filled o t ++ []) e ∙ append-nil hole.tokens

name_tree : (holes : Holes) (at : ℕ) (hole : Hole) (kids : Forest) → holes at ≡ Some hole → node_filled holes at k.PATH_EXPR kids ≡ hole.tree
name_tree holes at hole kids e = ap (λ o. path_filled o kids) e

pub hole_stands : (reach : Reach) (holes : Holes) (callable : Bool) (n at : ℕ) (hole : Hole) (kids : Forest) → holes at ≡ Some hole → IsFilling reach hole
    → is_single (spell kids) ≡ true → (nat_le hole.precedence n && (hole.callable || not callable)) ≡ true → n ≤ 12
    → StandsFilled reach holes callable n at k.PATH_EXPR kids
hole_stands reach holes callable n at hole kids e filling single binds few =
    let halves = and_parts (nat_le hole.precedence n) (hole.callable || not callable) binds in
    let tight : hole.precedence ≤ n = leb-true hole.precedence n halves.0 in
    as_same reach n callable hole.tree (node_filled holes at k.PATH_EXPR kids) hole.tokens (tokens_filled holes at (spell kids))
    (name_tree holes at hole kids e) (single_filled holes at hole (spell kids) single e)
    (called_as reach n hole.callable callable hole.tree hole.tokens halves.1
    (stands_looser reach hole.precedence n hole.callable hole.tree hole.tokens tight (filling.operand (omega (arith, tight, few)))))

pub held_hole : (o : Option Hole) → not (is_no_hole o) ≡ true → (hole : Hole) × (o ≡ Some hole)
held_hole None is = absurd (cc)
held_hole (Some hole) is = (hole, refl)

pub held_before : (reach : Reach) (holes : Holes) (closing : List Token) (at : ℕ) (kind : SyntaxKind) (kids : Forest) → AreFillings reach holes
    → is_token closing_marks closing ≡ true → is_held holes at kind kids ≡ true → StandsFilledBefore reach holes closing at kind kids
held_before reach holes closing at kind kids are closes is =
    let halves = and_parts (same_kind kind k.PATH_EXPR) (is_single (spell kids) && not (is_no_hole (holes at))) is in
    let both = and_parts (is_single (spell kids)) (not (is_no_hole (holes at))) halves.1 in
    let held = held_hole (holes at) both.1 in
    subst (λ other. StandsFilledBefore reach holes closing at other kids) (sym (same_kind-equal kind k.PATH_EXPR halves.0))
    (subst (λ w. StandsBefore reach closing w (tokens_filled holes at (spell kids))) (sym (name_tree holes at held.0 kids held.1))
    (subst (λ w. StandsBefore reach closing held.0.tree w) (sym (single_filled holes at held.0 (spell kids) both.0 held.1))
    ((are at held.0 held.1).inside closing closes)))

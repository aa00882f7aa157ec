-- The comma before the closing bracket, found from the left.
use Rattle.std.proofs.Common.{◌≡◌, ℕ, Bool, true, false, ◌&&◌, if◌then◌else◌, cond, List, [], ◌∷◌, All, map, Option, Some, None, is_some, refl, sym, ◌∙◌, ap, subst}
use Rattle.std.proofs.lemmas.List.Elements.{All-head, All-tail}
use Rattle.ssr_syntax_kinds.specs.declared.kinds.SyntaxKind.{SyntaxKind}
use Rattle.ssr_syntax_kinds.specs.declared.kinds.SyntaxKind.TheVariants as k
use Rattle.ssr_syntax_kinds.specs.Kinds.{same_kind, is_trivia}
use Rattle.ssr_syntax_kinds.proofs.Shared.{same_kind-equal}
use Rattle.ssr_syntax_tree.specs.declared.number.Element.{Element}
use Rattle.ssr_syntax_tree.specs.Syntax.{Syntax}
use Rattle.ssr_syntax_tree.specs.Places.{Part, token_part, node_part, part_of, parts_of, elements_of, node_of, HasNode, HasElement}
use Rattle.ssr_syntax_tree.proofs.Shared.{elements_had, parts_of-elements_of}
use Rattle.ide_ssr_token_trees.specs.Elements.{is_closing, closes, closes_part, last_comma}
use Rattle.ide_ssr_token_trees.specs.Private.Siblings.{comma_at}

-- the comma before the closing bracket, where this one stands directly before these elements, trivia aside
abbrev comma_before : Option ℕ → List Part → Option ℕ
comma_before (Some t) rest = if closes rest then Some t else last_comma rest
comma_before None rest = last_comma rest

-- a kind that is trivia is that of no closing bracket
trivia_open : (kind : SyntaxKind) → is_trivia kind ≡ true → is_closing kind ≡ false
unfolding is_closing
trivia_open k.WHITESPACE is = refl
trivia_open k.COMMENT is = refl
trivia_open kind is = cc

-- nor that of a comma
comma_solid : (kind : SyntaxKind) → is_trivia kind ≡ true → same_kind kind k.COMMA ≡ true → ⊥
comma_solid kind trivia comma =
    let never : false ≡ true = subst (λ kind. is_trivia kind ≡ true) (same_kind-equal kind k.COMMA comma) trivia in cc

-- where a bracket closes behind a comma
pub comma_closed : (before : Option ℕ) (x : Part) (rest : List Part) → (is_some before && closes_part x) ≡ true → comma_before before (x ∷ rest) ≡ before
comma_closed None x rest closed = cc
comma_closed (Some t) (node_part node) rest closed = cc
comma_closed (Some t) (token_part u token) rest closed = by (is_trivia token.kind) refl
  where
    behind : Option ℕ
    behind = last_comma (token_part u token ∷ rest)

    by : (b : Bool) → is_trivia token.kind ≡ b → cond (cond b (closes rest) (is_closing token.kind)) (Some t) behind ≡ Some t
    by true trivia = let never : true ≡ false = sym closed ∙ trivia_open token.kind trivia in cc
    by false other = ap (λ b. cond b (Some t) behind) closed

-- where none does
pub comma_next : (before : Option ℕ) (x : Part) (rest : List Part) → (is_some before && closes_part x) ≡ false
    → comma_before before (x ∷ rest) ≡ comma_before (comma_at before x) rest
comma_next None (node_part node) rest still = refl
comma_next (Some t) (node_part node) rest still = refl
comma_next None (token_part u token) rest still = by (is_trivia token.kind) refl (same_kind token.kind k.COMMA) refl
  where
    by : (trivia : Bool) → is_trivia token.kind ≡ trivia → (comma : Bool) → same_kind token.kind k.COMMA ≡ comma
        → cond (comma && closes rest) (Some u) (last_comma rest) ≡ comma_before (cond trivia None (cond comma (Some u) None)) rest
    by true is true is_comma = absurd (comma_solid token.kind is is_comma)
    by true is false is_comma = refl
    by false is true is_comma = refl
    by false is false is_comma = refl
comma_next (Some t) (token_part u token) rest still = by (is_trivia token.kind) refl (same_kind token.kind k.COMMA) refl
  where
    by : (trivia : Bool) → is_trivia token.kind ≡ trivia → (comma : Bool) → same_kind token.kind k.COMMA ≡ comma
        → cond (cond trivia (closes rest) (is_closing token.kind)) (Some t) (cond (comma && closes rest) (Some u) (last_comma rest))
        ≡ comma_before (cond trivia (Some t) (cond comma (Some u) None)) rest
    by true is true is_comma = absurd (comma_solid token.kind is is_comma)
    by true is false is_comma = refl
    by false is true is_comma = ap (λ b. cond b (Some t) (cond (closes rest) (Some u) (last_comma rest))) still
    by false is false is_comma = ap (λ b. cond b (Some t) (last_comma rest)) still

-- ** Along the elements of a tree.

pub record CommaSoFar (tree : Syntax) (whole : Option ℕ) (comma : Option ℕ) (left : List Element) : Type 0 where
  pub so_far : comma_before comma (map (part_of tree) left) ≡ whole
  pub had : All (HasElement tree) left

pub comma_came : (tree : Syntax) (whole before after : Option ℕ) (x : Element) (left rest : List Element) → CommaSoFar tree whole before left → left ≡ x ∷ rest
    → (is_some before && closes_part (part_of tree x)) ≡ false → after ≡ comma_at before (part_of tree x) → CommaSoFar tree whole after rest
comma_came tree whole before after x left rest known is still after_is = record {
  so_far =
      ap (λ after. comma_before after (map (part_of tree) rest)) after_is
      ∙ sym (comma_next before (part_of tree x) (map (part_of tree) rest) still)
      ∙ ap (λ xs. comma_before before (map (part_of tree) xs)) (sym is)
      ∙ known.so_far;
  had = All-tail (HasElement tree) x rest (subst (All (HasElement tree)) is known.had);
}

pub comma_found : (tree : Syntax) (whole before : Option ℕ) (x : Element) (left rest : List Element) → CommaSoFar tree whole before left → left ≡ x ∷ rest
    → (is_some before && closes_part (part_of tree x)) ≡ true → before ≡ whole
comma_found tree whole before x left rest known is closed =
    sym (comma_closed before (part_of tree x) (map (part_of tree) rest) closed)
    ∙ ap (λ xs. comma_before before (map (part_of tree) xs)) (sym is)
    ∙ known.so_far

pub comma_had : (tree : Syntax) (whole before : Option ℕ) (x : Element) (left rest : List Element) → CommaSoFar tree whole before left → left ≡ x ∷ rest → HasElement tree x
comma_had tree whole before x left rest known is = All-head (HasElement tree) x rest (subst (All (HasElement tree)) is known.had)

pub comma_none : (tree : Syntax) (whole before : Option ℕ) (left : List Element) → CommaSoFar tree whole before left → left ≡ [] → None ≡ whole
comma_none tree whole before left known none =
    sym (at_end before) ∙ ap (λ xs. comma_before before (map (part_of tree) xs)) (sym none) ∙ known.so_far
  where
    at_end : (before : Option ℕ) → comma_before before [] ≡ None
    at_end None = refl
    at_end (Some t) = refl

pub comma_starts : (tree : Syntax) (n : ℕ) (left : List Element) → HasNode tree n → left ≡ elements_of (node_of tree n)
    → CommaSoFar tree (last_comma (parts_of (node_of tree n))) None left
comma_starts tree n left has is = record {
  so_far = ap (λ xs. last_comma (map (part_of tree) xs)) is ∙ ap last_comma (parts_of-elements_of tree n has);
  had = subst (All (HasElement tree)) (sym is) (elements_had tree n has);
}

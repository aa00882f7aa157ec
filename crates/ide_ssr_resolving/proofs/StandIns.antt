-- Tokens of a path, one by one.
use Rattle.std.proofs.Common.{◌≡◌, ℕ, ◌+◌, ◌<◌, ◌≤◌, ◌||◌, Bool, true, false, List, Some, None, sym, ap, ◌∙◌}
use Rattle.std.proofs.lemmas.List.Folds.{list_any-append}
use Rattle.std.specs.List.{list_any}
use Rattle.ssr_syntax_kinds.specs.declared.kinds.SyntaxKind.TheVariants as k
use Rattle.ssr_syntax_tree.specs.Places.{Node, HasNode, HasToken, node_of, parts_of, token_of}
use Rattle.ssr_syntax_tree.specs.Syntax.{Token, Syntax, token_count, tokens_in}
use Rattle.ide_ssr_resolved_rule.specs.Paths.{first_of_kind, before_arguments}
use Rattle.ide_ssr_resolving.specs.Used.{names_placeholder, holds_stand_in}
use Rattle.ide_ssr_resolving.specs.Private.Pieces.{tokens_between}
use Rattle.ide_ssr_resolving.proofs.Tokens.{between_next, between_none, segment_tokens, around_arguments, no_arguments}

-- tokens between two numbers, one by one
module _ (passes : Token → Bool) (s : Syntax) where
  pub token_passed : (a b : ℕ) (whole : Bool) → HasToken s a → a < b → passes (token_of s a) ≡ false → list_any passes (tokens_between s a b) ≡ whole
      → list_any passes (tokens_between s (a + 1) b) ≡ whole
  token_passed a b whole has some fails so_far =
      ap (λ c. c || list_any passes (tokens_between s (a + 1) b)) (sym fails)
      ∙ ap (list_any passes) (sym (between_next s a b has some)) ∙ so_far

  pub token_found : (a b : ℕ) (whole : Bool) → HasToken s a → a < b → passes (token_of s a) ≡ true → list_any passes (tokens_between s a b) ≡ whole → true ≡ whole
  token_found a b whole has some found so_far =
      ap (λ c. c || list_any passes (tokens_between s (a + 1) b)) (sym found)
      ∙ ap (list_any passes) (sym (between_next s a b has some)) ∙ so_far

  pub no_token : (a b : ℕ) (whole : Bool) → b ≤ a → list_any passes (tokens_between s a b) ≡ whole → false ≡ whole
  no_token a b whole none so_far = ap (list_any passes) (sym (between_none s a b none)) ∙ so_far

-- ** The tokens of a path but for its arguments.

module _ (names : List (List ℕ)) (s : Syntax) (n : ℕ) where
  abbrev holds_between : ℕ → ℕ → Bool
  holds_between a b = list_any (names_placeholder names) (tokens_between s a b)

  pub whole_holds : (held : Bool) (start end : ℕ) → HasNode s n → start ≡ (node_of s n).first → end ≡ (node_of s n).first + token_count (node_of s n).children
      → None ≡ first_of_kind k.PATH_SEGMENT (parts_of (node_of s n)) → held ≡ holds_between start end → held ≡ holds_stand_in names (node_of s n).children
  unfolding holds_stand_in
  whole_holds held start end has start_is end_is none is =
      is
      ∙ ap (λ a. holds_between a end) start_is
      ∙ ap (list_any (names_placeholder names)) (segment_tokens s n end has end_is)
      ∙ ap (λ forest. list_any (names_placeholder names) (tokens_in forest)) (sym (no_arguments s n (sym none)))

  module _ (last : Node) where
    abbrev front_past : ℕ
    front_past = last.first + token_count (before_arguments last.children)

    abbrev own_past : ℕ
    own_past = last.first + token_count last.children

    held_by : HasNode s n → first_of_kind k.PATH_SEGMENT (parts_of (node_of s n)) ≡ Some last
        → (holds_between (node_of s n).first front_past || holds_between own_past ((node_of s n).first + token_count (node_of s n).children))
        ≡ holds_stand_in names (node_of s n).children
    unfolding holds_stand_in
    held_by has is =
        let node = node_of s n in
        sym (list_any-append (names_placeholder names) (tokens_between s node.first front_past) (tokens_between s own_past (node.first + token_count node.children)))
        ∙ ap (list_any (names_placeholder names)) (sym (around_arguments s n last has is).tokens)

    pub front_holds : (held : Bool) (start past : ℕ) → HasNode s n → first_of_kind k.PATH_SEGMENT (parts_of (node_of s n)) ≡ Some last
        → start ≡ (node_of s n).first → past ≡ front_past → held ≡ holds_between start past → held ≡ true → held ≡ holds_stand_in names (node_of s n).children
    front_holds held start past has is start_is past_is held_is found =
        let node = node_of s n in
        let front : true ≡ holds_between node.first front_past =
        sym found ∙ held_is ∙ ap (λ a. holds_between a past) start_is ∙ ap (holds_between node.first) past_is
        in
        found
        ∙ ap (λ b. b || holds_between own_past (node.first + token_count node.children)) front
        ∙ held_by has is

    pub behind_holds : (first held : Bool) (start past from to : ℕ) → HasNode s n → first_of_kind k.PATH_SEGMENT (parts_of (node_of s n)) ≡ Some last
        → start ≡ (node_of s n).first → past ≡ front_past → from ≡ own_past → to ≡ (node_of s n).first + token_count (node_of s n).children
        → first ≡ holds_between start past → first ≡ false → held ≡ holds_between from to → held ≡ holds_stand_in names (node_of s n).children
    behind_holds first held start past from to has is start_is past_is from_is to_is first_is fails held_is =
        let node = node_of s n in
        let front : false ≡ holds_between node.first front_past =
        sym fails ∙ first_is ∙ ap (λ a. holds_between a past) start_is ∙ ap (holds_between node.first) past_is
        in
        held_is
        ∙ ap (λ a. holds_between a to) from_is
        ∙ ap (holds_between own_past) to_is
        ∙ ap (λ b. b || holds_between own_past (node.first + token_count node.children)) front
        ∙ held_by has is

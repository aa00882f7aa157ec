-- The children that are left where only trivia have gone by.
use Rattle.std.proofs.Common.{◌≡◌, true, not, cond, List, ◌∷◌, All, ap, ◌∙◌, subst}
use Rattle.std.proofs.lemmas.List.Elements.{All-tail}
use Rattle.ssr_syntax_tree.specs.declared.number.Element.{Element}
use Rattle.ssr_syntax_tree.specs.Places.{HasElement, part_of}
use Rattle.ssr_syntax_tree.specs.Syntax.{Syntax}
use Rattle.ide_ssr_token_trees.specs.Elements.{is_trivia_part}
use Rattle.ide_ssr_token_trees.specs.PatternIterator.{without_trivia}

module _ (tree : Syntax) where
  -- only trivia have gone by
  pub record IsBehindTrivia (before left : List Element) : Type 0 where
    pub same : without_trivia tree before ≡ without_trivia tree left
    pub has : All (HasElement tree) left

  rest_has : (left rest : List Element) (child : Element) → left ≡ child ∷ rest → All (HasElement tree) left → All (HasElement tree) rest
  rest_has left rest child is has = All-tail (HasElement tree) child rest (subst (All (HasElement tree)) is has)

  first_passed : (left rest : List Element) (child : Element) → is_trivia_part (part_of tree child) ≡ true → left ≡ child ∷ rest
      → without_trivia tree left ≡ without_trivia tree rest
  first_passed left rest child trivia is =
      ap (without_trivia tree) is ∙ ap (λ t. cond (not t) (child ∷ without_trivia tree rest) (without_trivia tree rest)) trivia

  pub trivia_passed : (before left rest : List Element) (child : Element) → IsBehindTrivia before left → left ≡ child ∷ rest
      → is_trivia_part (part_of tree child) ≡ true → IsBehindTrivia before rest
  trivia_passed before left rest child so_far is trivia =
      record { same = so_far.same ∙ first_passed left rest child trivia is; has = rest_has left rest child is so_far.has }

  pub solid_behind : (before left rest : List Element) (child : Element) → IsBehindTrivia before left → left ≡ child ∷ rest
      → All (HasElement tree) rest
  solid_behind before left rest child so_far is = rest_has left rest child is so_far.has

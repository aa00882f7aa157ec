-- Each placeholder of a token tree is bound, in their order.
use Rattle.std.proofs.Common.{◌≡◌, ℕ, ◌+◌, Bool, true, false, not, cond, List, [], ◌∷◌, ◌++◌, length, map, Option, option_to_list, refl, sym, ◌∙◌, ap, arith, append_assoc}
use Rattle.std.proofs.lemmas.List.{map-append}
use Rattle.ssr_syntax_kinds.specs.Kinds.{is_trivia}
use Rattle.ssr_syntax_tree.specs.Syntax.{Token, Forest, nothing, leaf, branch, token_count, node_count, tokens_in}
use Rattle.ssr_syntax_tree.specs.Places.{Node, Part, token_part, node_part, parts_in, parts_of}
use Rattle.ssr_syntax_tree.proofs.Shared.{length-tokens_in}
use Rattle.ide_ssr_bindings.specs.declared.bindings.Binding.{Binding}
use Rattle.ide_ssr_token_trees.specs.Elements.{without_trivia, last_comma, next_text, from}
use Rattle.ide_ssr_token_trees.specs.Placeholders.{placeholders_from}
use Rattle.ide_ssr_token_trees.specs.TokenTrees.{ElementsMatch, ended, placeholder, trivia, comma_of_code, comma_of_pattern, tokens, trees, TreesMatch}

module _ (at : ℕ → Option ℕ) where
  -- the placeholders at elements of a pattern
  abbrev placeholders_at : List Part → List ℕ
  placeholders_at [] = []
  placeholders_at (token_part t token ∷ rest) = option_to_list (at t) ++ placeholders_at rest
  placeholders_at (node_part node ∷ rest) = placeholders_from at node.first (tokens_in node.children) ++ placeholders_at rest

  from_both : (t : ℕ) (xs ys : List Token) → placeholders_from at t (xs ++ ys) ≡ placeholders_from at t xs ++ placeholders_from at (t + length xs) ys
  from_both t [] ys = ap (λ t. placeholders_from at t ys) (let same : t ≡ t + 0 = omega arith in same)
  from_both t (x ∷ xs) ys =
      let here = cond (is_trivia x.kind) [] (option_to_list (at t)) in
      ap (λ rest. here ++ rest) (from_both (1 + t) xs ys ∙ ap (λ u. placeholders_from at (1 + t) xs ++ placeholders_from at u ys) (let same : 1 + t + length xs ≡ t + length (x ∷ xs) = omega arith in same))
      ∙ sym (append_assoc here (placeholders_from at (1 + t) xs) (placeholders_from at (t + length (x ∷ xs)) ys))

  forest_placeholders : (parent m t : ℕ) (forest : Forest) → placeholders_at (without_trivia (parts_in parent m t forest)) ≡ placeholders_from at t (tokens_in forest)
  forest_placeholders parent m t nothing = refl
  forest_placeholders parent m t (leaf token next) = by (is_trivia token.kind) (forest_placeholders parent m (1 + t) next) where
    by : (b : Bool) → placeholders_at (without_trivia (parts_in parent m (1 + t) next)) ≡ placeholders_from at (1 + t) (tokens_in next)
        → placeholders_at (cond (not b) (token_part t token ∷ without_trivia (parts_in parent m (1 + t) next)) (without_trivia (parts_in parent m (1 + t) next)))
        ≡ cond b [] (option_to_list (at t)) ++ placeholders_from at (1 + t) (tokens_in next)
    by true behind = behind
    by false behind = ap (λ rest. option_to_list (at t) ++ rest) behind
  forest_placeholders parent m t (branch kind below next) =
      ap (λ rest. placeholders_from at t (tokens_in below) ++ rest)
      (forest_placeholders parent (1 + m + node_count below) (t + token_count below) next
      ∙ ap (λ n. placeholders_from at (t + n) (tokens_in next)) (sym (length-tokens_in below)))
      ∙ sym (from_both t (tokens_in below) (tokens_in next))

  elements_bound : (x y : Option ℕ) (ps cs : List Part) (bs : List Binding) → ElementsMatch at x y ps cs bs → map (λ b. b.placeholder) bs ≡ placeholders_at ps
  elements_bound _ _ _ _ _ (ended x y) = refl
  elements_bound _ _ _ _ _ (placeholder x y t i token ps c cs bs is some rest) =
      ap (λ is. i ∷ is) (elements_bound x y ps (from (next_text ps) cs) bs rest) ∙ ap (λ o. option_to_list o ++ placeholders_at ps) (sym is)
  elements_bound _ _ _ _ _ (trivia x y ps u c cs bs other is rest) = elements_bound x y ps cs bs rest
  elements_bound _ _ _ _ _ (comma_of_code x y ps u c cs bs other is number rest) = elements_bound x y ps cs bs rest
  elements_bound _ _ _ _ _ (comma_of_pattern x y t token ps cs bs none stops number rest) =
      elements_bound x y ps cs bs rest ∙ ap (λ o. option_to_list o ++ placeholders_at ps) (sym none)
  elements_bound _ _ _ _ _ (tokens x y t u p c ps cs bs none number stops kinds texts rest) =
      elements_bound x y ps cs bs rest ∙ ap (λ o. option_to_list o ++ placeholders_at ps) (sym none)
  elements_bound _ _ _ _ _ (trees x y p c ps cs found more here behind) =
      map-append (λ (b : Binding). b.placeholder) found more
      ∙ ap (λ is. is ++ map (λ (b : Binding). b.placeholder) more)
      (elements_bound (last_comma (parts_of p)) (last_comma (parts_of c)) (without_trivia (parts_of p)) (parts_of c) found here
      ∙ forest_placeholders p.number (1 + p.number) p.first p.children)
      ∙ ap (λ is. placeholders_from at p.first (tokens_in p.children) ++ is) (elements_bound x y ps cs more behind)

pub trees_bound : (at : ℕ → Option ℕ) (p c : Node) (bs : List Binding) → TreesMatch at p c bs
    → map (λ b. b.placeholder) bs ≡ placeholders_from at p.first (tokens_in p.children)
trees_bound at p c bs match =
    elements_bound at (last_comma (parts_of p)) (last_comma (parts_of c)) (without_trivia (parts_of p)) (parts_of c) bs match
    ∙ forest_placeholders at p.number (1 + p.number) p.first p.children

-- A token tree of the code matches the same where its tokens have higher numbers.
use Rattle.std.proofs.Common.{◌≡◌, ℕ, zero, suc, ◌+◌, Bool, true, false, ◌&&◌, ◌||◌, cond, List, [], ◌∷◌, map, Option, Some, None, refl, sym, ◌∙◌, ap, arith, nat_lt}
use Rattle.std.specs.Prelude.{◌==◌}
use Rattle.std.specs.Option.{option_map}
use Rattle.std.proofs.lemmas.Bool.{eq-eqb, eqb-true, ne_eqb}
use Rattle.std.proofs.lemmas.List.{map-append}
use Rattle.ssr_syntax_kinds.specs.declared.kinds.SyntaxKind.TheVariants as k
use Rattle.ssr_syntax_kinds.specs.Kinds.{same_kind, is_trivia}
use Rattle.ssr_syntax_tree.specs.Syntax.{Token, same_token, Forest, nothing, leaf, branch, node_count, token_count}
use Rattle.ssr_syntax_tree.specs.Places.{Node, Part, token_part, node_part, parts_in, parts_of, size_of}
use Rattle.ssr_base_trees.specs.declared.ids.TokenRun.{TokenRun}
use Rattle.ide_ssr_bindings.specs.declared.bindings.Binding.{Binding}
use Rattle.ide_ssr_bindings.specs.Found.{tokens_binding}
use Rattle.ide_ssr_token_trees.specs.Bindings.{joined, passed, nothing_by, holding, placeholder_by, token_by, tree_by, leaf_by, elements_by, bounded_by, tree_bindings}
use Rattle.ide_ssr_token_trees.specs.Elements.{without_trivia, is_closing, closes, last_comma, is_number, first_text, next_text, same_text, up_to, from, first_token, tokens_at, tokens_among, run_over}
use Rattle.ide_ssr_token_trees.specs.Numbers.{bound_later}
use Rattle.ide_ssr_token_trees.specs.TokenTrees.{is_passed}
use Rattle.ide_ssr_token_trees.proofs.Sizes.{Behind}

module _ (more : ℕ) where
  -- ** Elements whose tokens have higher numbers.

  abbrev later_node : Node → Node
  later_node node = record node { first = more + node.first }

  abbrev later : Part → Part
  later (token_part t token) = token_part (more + t) token
  later (node_part node) = node_part (later_node node)

  parts_later : (parent m t : ℕ) (siblings : Forest) → parts_in parent m (more + t) siblings ≡ map later (parts_in parent m t siblings)
  parts_later parent m t nothing = refl
  parts_later parent m t (leaf token next) =
      let after : 1 + (more + t) ≡ more + (1 + t) = omega arith in
      ap (λ n. token_part (more + t) token ∷ parts_in parent m n next) after
      ∙ ap (λ parts. token_part (more + t) token ∷ parts) (parts_later parent m (1 + t) next)
  parts_later parent m t (branch kind below next) =
      let node : Node = record { number = m; parent = parent; first = more + t; kind = kind; children = below } in
      let after : (more + t) + token_count below ≡ more + (t + token_count below) = omega arith in
      ap (λ n. node_part node ∷ parts_in parent (1 + m + node_count below) n next) after
      ∙ ap (λ parts. node_part node ∷ parts) (parts_later parent (1 + m + node_count below) (t + token_count below) next)

  children_later : (node : Node) → parts_of (later_node node) ≡ map later (parts_of node)
  children_later node = parts_later node.number (1 + node.number) node.first node.children

  -- ** Commas.

  abbrev later_number : Option ℕ → Option ℕ
  later_number comma = option_map (λ n. more + n) comma

  same_number : (n t : ℕ) (b : Bool) → (n == t) ≡ b → (more + n == more + t) ≡ b
  same_number n t true is = eq-eqb (more + n) (more + t) (ap (λ n. more + n) (eqb-true n t is))
  same_number n t false is =
      ne_eqb (more + n) (more + t)
      (λ same.
      let equal : n ≡ t = omega arith in
      let e : true ≡ false = sym (eq-eqb n t equal) ∙ is in
      cc)

  number_later : (comma : Option ℕ) (t : ℕ) → is_number (later_number comma) (more + t) ≡ is_number comma t
  number_later None t = refl
  number_later (Some n) t = same_number n t (n == t) refl

  passed_over_later : (comma : Option ℕ) (part : Part) → is_passed (later_number comma) (later part) ≡ is_passed comma part
  passed_over_later comma (token_part t token) = ap (λ b. is_trivia token.kind || b) (number_later comma t)
  passed_over_later comma (node_part node) = refl

  closes_later : (parts : List Part) → closes (map later parts) ≡ closes parts
  closes_later [] = refl
  closes_later (token_part t token ∷ rest) = ap (λ b. cond (is_trivia token.kind) b (is_closing token.kind)) (closes_later rest)
  closes_later (node_part node ∷ rest) = refl

  comma_later : (parts : List Part) → last_comma (map later parts) ≡ later_number (last_comma parts)
  comma_later [] = refl
  comma_later (token_part t token ∷ rest) =
      ap (λ b. cond (same_kind token.kind k.COMMA && b) (Some (more + t)) (last_comma (map later rest))) (closes_later rest)
      ∙ ap (cond (same_kind token.kind k.COMMA && closes rest) (Some (more + t))) (comma_later rest)
      ∙ by (same_kind token.kind k.COMMA && closes rest) (last_comma rest)
    where
      by : (b : Bool) (o : Option ℕ) → cond b (Some (more + t)) (later_number o) ≡ later_number (cond b (Some t) o)
      by true o = refl
      by false o = refl
  comma_later (node_part node ∷ rest) = comma_later rest

  -- ** Runs of elements.

  either_later : (b : Bool) (xs ys : List Part) → cond b (map later xs) (map later ys) ≡ map later (cond b xs ys)
  either_later true xs ys = refl
  either_later false xs ys = refl

  passed_later : (comma : Option ℕ) (cs : List Part) → passed (later_number comma) (map later cs) ≡ map later (passed comma cs)
  passed_later comma [] = refl
  passed_later comma (c ∷ cs) =
      ap (λ b. cond b (passed (later_number comma) (map later cs)) (map later (c ∷ cs))) (passed_over_later comma c)
      ∙ ap (λ rest. cond (is_passed comma c) rest (map later (c ∷ cs))) (passed_later comma cs)
      ∙ either_later (is_passed comma c) (passed comma cs) (c ∷ cs)

  text_later : (part : Part) → first_text (later part) ≡ first_text part
  text_later (token_part t token) = refl
  text_later (node_part node) = refl

  up_to_later : (text : Option (List ℕ)) (cs : List Part) → up_to text (map later cs) ≡ map later (up_to text cs)
  up_to_later text [] = refl
  up_to_later text (c ∷ cs) =
      ap (λ own. cond (same_text own text) [] (later c ∷ up_to text (map later cs))) (text_later c)
      ∙ ap (λ rest. cond (same_text (first_text c) text) [] (later c ∷ rest)) (up_to_later text cs)
      ∙ either_later (same_text (first_text c) text) [] (c ∷ up_to text cs)

  from_later : (text : Option (List ℕ)) (cs : List Part) → from text (map later cs) ≡ map later (from text cs)
  from_later text [] = refl
  from_later text (c ∷ cs) =
      ap (λ own. cond (same_text own text) (map later (c ∷ cs)) (from text (map later cs))) (text_later c)
      ∙ ap (cond (same_text (first_text c) text) (map later (c ∷ cs))) (from_later text cs)
      ∙ either_later (same_text (first_text c) text) (c ∷ cs) (from text cs)

  abbrev run_later : TokenRun → TokenRun
  run_later run = record { first = more + run.first; count = run.count }

  tokens_later : (part : Part) → tokens_at (later part) ≡ tokens_at part
  tokens_later (token_part t token) = refl
  tokens_later (node_part node) = refl

  first_later : (part : Part) → first_token (later part) ≡ more + first_token part
  first_later (token_part t token) = refl
  first_later (node_part node) = refl

  count_later : (cs : List Part) → tokens_among (map later cs) ≡ tokens_among cs
  count_later [] = refl
  count_later (c ∷ cs) = ap (λ n. n + tokens_among (map later cs)) (tokens_later c) ∙ ap (λ n. tokens_at c + n) (count_later cs)

  run_over_later : (c : Part) (cs : List Part) → run_over (later c) (map later cs) ≡ run_later (run_over c cs)
  run_over_later c cs =
      ap (λ first. record { first = first; count = tokens_among (map later (c ∷ cs)) }) (first_later c)
      ∙ ap (λ count. record { first = more + first_token c; count = count }) (count_later (c ∷ cs))

  -- ** What is bound.

  abbrev all_later : Option (List Binding) → Option (List Binding)
  all_later bs = option_map (map (bound_later more)) bs

  cond_later : (b : Bool) (x y : Option (List Binding)) → cond b (all_later x) (all_later y) ≡ all_later (cond b x y)
  cond_later true x y = refl
  cond_later false x y = refl

  joined_later : (x y : Option (List Binding)) → joined (all_later x) (all_later y) ≡ all_later (joined x y)
  joined_later None y = refl
  joined_later (Some bs) None = refl
  joined_later (Some bs) (Some rest) = ap Some (sym (map-append (bound_later more) bs rest))

  holding_later : (i : ℕ) (run : TokenRun) → holding i (run_later run) ≡ all_later (holding i run)
  holding_later i run = cond_later (nat_lt 0 run.count) (Some (tokens_binding i run ∷ [])) None

  abbrev IsLater : Behind → Behind → Type 0
  IsLater behind after = (cs : List Part) → after (map later cs) ≡ all_later (behind cs)

  -- ** Elements of a pattern against those of the code.

  module _ (behind after : Behind) (later_too : IsLater behind after) where
    placeholder_later : (i : ℕ) (text : Option (List ℕ)) (cs : List Part)
        → placeholder_by i text after (map later cs) ≡ all_later (placeholder_by i text behind cs)
    placeholder_later i text [] = refl
    placeholder_later i text (c ∷ cs) =
        ap (λ held. joined (holding i (run_over (later c) held)) (after (from text (map later cs)))) (up_to_later text cs)
        ∙ ap (λ run. joined (holding i run) (after (from text (map later cs)))) (run_over_later c (up_to text cs))
        ∙ ap (λ rest. joined (holding i (run_later (run_over c (up_to text cs)))) (after rest)) (from_later text cs)
        ∙ ap (λ x. joined x (after (map later (from text cs)))) (holding_later i (run_over c (up_to text cs)))
        ∙ ap (joined (all_later (holding i (run_over c (up_to text cs))))) (later_too (from text cs))
        ∙ joined_later (holding i (run_over c (up_to text cs))) (behind (from text cs))

    token_later : (token : Token) (cs : List Part) → token_by token after (map later cs) ≡ all_later (token_by token behind cs)
    token_later token [] = refl
    token_later token (token_part u c ∷ cs) =
        ap (λ x. cond (same_token token c) x None) (later_too cs) ∙ cond_later (same_token token c) (behind cs) None
    token_later token (node_part c ∷ cs) = refl

    leaf_later : (comma o : Option ℕ) (is_comma : Bool) (token : Token) (text : Option (List ℕ)) (cs : List Part)
        → leaf_by (later_number comma) o is_comma token text after (map later cs) ≡ all_later (leaf_by comma o is_comma token text behind cs)
    leaf_later comma (Some i) is_comma token text cs = placeholder_later i text cs
    leaf_later comma None true token text cs = ap after (passed_later comma cs) ∙ later_too (passed comma cs)
    leaf_later comma None false token text cs = ap (token_by token after) (passed_later comma cs) ∙ token_later token (passed comma cs)

    tree_later : (matched : Node → Option (List Binding)) → ((c : Node) → matched (later_node c) ≡ all_later (matched c)) → (cs : List Part)
        → tree_by matched after (map later cs) ≡ all_later (tree_by matched behind cs)
    tree_later matched inner [] = refl
    tree_later matched inner (token_part u c ∷ cs) = refl
    tree_later matched inner (node_part c ∷ cs) =
        ap (λ x. joined x (after (map later cs))) (inner c) ∙ ap (joined (all_later (matched c))) (later_too cs) ∙ joined_later (matched c) (behind cs)

  module _ (at : ℕ → Option ℕ) (matched : Node → Node → Option (List Binding))
      (inner : (p c : Node) → matched p (later_node c) ≡ all_later (matched p c)) (p_comma comma : Option ℕ)
    where
      elements_later : (ps cs : List Part)
          → elements_by at matched p_comma (later_number comma) ps (map later cs) ≡ all_later (elements_by at matched p_comma comma ps cs)
      elements_later [] cs = ap nothing_by (passed_later comma cs) ∙ by (passed comma cs)
        where
          by : (cs : List Part) → nothing_by (map later cs) ≡ all_later (nothing_by cs)
          by [] = refl
          by (c ∷ cs) = refl
      elements_later (token_part t token ∷ ps) cs =
          leaf_later (elements_by at matched p_comma comma ps) (elements_by at matched p_comma (later_number comma) ps) (elements_later ps) comma (at t)
          (is_number p_comma t) token (next_text ps) cs
      elements_later (node_part p ∷ ps) cs =
          ap (tree_by (matched p) (elements_by at matched p_comma (later_number comma) ps)) (passed_later comma cs)
          ∙ tree_later (elements_by at matched p_comma comma ps) (elements_by at matched p_comma (later_number comma) ps) (elements_later ps)
          (matched p) (inner p) (passed comma cs)

  trees_later : (at : ℕ → Option ℕ) (size : ℕ) (p c : Node) → bounded_by at size p (later_node c) ≡ all_later (bounded_by at size p c)
  trees_later at zero p c = refl
  trees_later at (suc size) p c =
      let ps = without_trivia (parts_of p) in
      ap (λ cs. elements_by at (bounded_by at size) (last_comma (parts_of p)) (last_comma cs) ps cs) (children_later c)
      ∙ ap (λ comma. elements_by at (bounded_by at size) (last_comma (parts_of p)) comma ps (map later (parts_of c))) (comma_later (parts_of c))
      ∙ elements_later at (bounded_by at size) (trees_later at size) (last_comma (parts_of p)) (last_comma (parts_of c)) ps (parts_of c)

  pub bindings_later : (at : ℕ → Option ℕ) (p c : Node)
      → tree_bindings at p (record c { first = more + c.first }) ≡ option_map (map (bound_later more)) (tree_bindings at p c)
  unfolding tree_bindings
  bindings_later at p c = trees_later at (size_of p) p c

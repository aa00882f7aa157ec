-- The tokens of a tree by their numbers.
use Rattle.std.proofs.Common.{◌≡◌, ℕ, suc, ◌+◌, ◌<◌, List, [], ◌∷◌, ◌++◌, All, length, take, drop, refl, sym, ap, ◌∙◌, subst, arith}
use Rattle.std.proofs.lemmas.List.{drop_more, drop-drop}
use Rattle.std.proofs.lemmas.List.Elements.{All-head, All-tail}
use Rattle.std.proofs.lemmas.Option.{unwrap_or-slice_get}
use Rattle.ssr_syntax_kinds.specs.declared.kinds.SyntaxKind.TheVariants as k
use Rattle.ssr_syntax_tree.specs.Places.{Node, HasNode, HasToken, node_of, token_of, parts_in, parts_of}
use Rattle.ssr_syntax_tree.specs.Syntax.{Token, Forest, nothing, leaf, branch, Syntax, node_count, token_count, tokens_in, tokens_of}
use Rattle.ssr_syntax_tree.proofs.Lists.{take_between}
use Rattle.ssr_syntax_tree.proofs.Shared.{IsChild, children_known, length-tokens_in}

pub take_one : (x : Token) (xs : List Token) (n m : ℕ) → m ≡ suc n → take m (x ∷ xs) ≡ x ∷ take n xs
take_one x xs n m is = ap (λ k. take k (x ∷ xs)) is

pub take_two : (xs : List Token) (a b : ℕ) → take (a + b) xs ≡ take a xs ++ take b (drop a xs)
take_two xs a b = take_between xs a (a + b) (omega arith) ∙ ap (λ n. take a xs ++ take n (drop a xs)) (omega arith)

module _ (s : Syntax) where
  -- the tokens from a number on
  pub tokens_left : (n : ℕ) → HasToken s n → drop n (tokens_of s) ≡ token_of s n ∷ drop (n + 1) (tokens_of s)
  unfolding token_of
  tokens_left n has =
      let within : n < length (tokens_of s) = omega (arith, length-tokens_in s.children) in
      let none : Token = record { kind = k.WHITESPACE; text = [] } in
      drop_more (tokens_of s) n none within ∙ ap (λ token. token ∷ drop (n + 1) (tokens_of s)) (sym (unwrap_or-slice_get (tokens_of s) n none))

  -- those of siblings
  pub tokens_known : (q p m t : ℕ) (forest : Forest) → All (IsChild s q) (parts_in p m t forest) → take (token_count forest) (drop t (tokens_of s)) ≡ tokens_in forest
  tokens_known q p m t nothing known = refl
  tokens_known q p m t (leaf token next) known =
      let first = All-head (IsChild s q) _ (parts_in p m (1 + t) next) known in
      let behind : t + 1 ≡ 1 + t = omega arith in
      ap (take (1 + token_count next)) (tokens_left t first.0)
      ∙ take_one (token_of s t) (drop (t + 1) (tokens_of s)) (token_count next) (1 + token_count next) (omega arith)
      ∙ ap (λ n. token_of s t ∷ take (token_count next) (drop n (tokens_of s))) behind
      ∙ ap (λ x. x ∷ take (token_count next) (drop (1 + t) (tokens_of s))) first.1
      ∙ ap (λ rest. token ∷ rest) (tokens_known q p m (1 + t) next (All-tail (IsChild s q) _ (parts_in p m (1 + t) next) known))
  tokens_known q p m t (branch kind inner next) known =
      let behind = parts_in p (1 + m + node_count inner) (t + token_count inner) next in
      let first = All-head (IsChild s q) _ behind known in
      let own = subst (λ (node : Node). All (IsChild s m) (parts_of node)) first.1 (children_known s m first.0) in
      take_two (drop t (tokens_of s)) (token_count inner) (token_count next)
      ∙ ap (λ front. front ++ take (token_count next) (drop (token_count inner) (drop t (tokens_of s)))) (tokens_known m m (1 + m) t inner own)
      ∙ ap (λ rest. tokens_in inner ++ take (token_count next) rest) (drop-drop (token_count inner) t (tokens_of s))
      ∙ ap (λ rest. tokens_in inner ++ rest) (tokens_known q p (1 + m + node_count inner) (t + token_count inner) next (All-tail (IsChild s q) _ behind known))

  pub tokens_of_node : (n : ℕ) → HasNode s n → take (token_count (node_of s n).children) (drop (node_of s n).first (tokens_of s)) ≡ tokens_in (node_of s n).children
  tokens_of_node n has =
      let node = node_of s n in tokens_known n node.number (1 + node.number) node.first node.children (children_known s n has)

-- The texts of a label by the numbers of its tokens.
use Rattle.std.proofs.Common.{◌≡◌, ℕ, suc, ◌+◌, ◌-◌, ◌<◌, Bool, true, false, not, cond, List, ◌∷◌, drop, map, take, refl, ◌∙◌, ap, arith}
use Rattle.std.specs.List.{filter}
use Rattle.ssr_syntax_kinds.specs.Kinds.{is_trivia}
use Rattle.ssr_syntax_tree.specs.Places.{HasNode, HasToken, node_of, token_of}
use Rattle.ssr_syntax_tree.specs.Syntax.{Token, Syntax, token_count, tokens_of}
use Rattle.ide_ssr_matching.specs.Records.{solid_texts, texts_of}
use Rattle.ide_ssr_matching.specs.Private.Records.{texts_between}
use Rattle.ide_ssr_resolved_rule.proofs.Shared.{tokens_left, tokens_of_node}

abbrev solid : List Token → List Token
solid tokens = filter (λ token. not (is_trivia token.kind)) tokens

module _ (s : Syntax) where
  pub node_texts : (n first past : ℕ) → HasNode s n → first ≡ (node_of s n).first → past ≡ (node_of s n).first + token_count (node_of s n).children
      → texts_between s first past ≡ texts_of (node_of s n)
  node_texts n first past has first_is past_is =
      let node = node_of s n in
      let count : past - node.first ≡ token_count node.children = omega (arith, past_is) in
      ap (λ first. texts_between s first past) first_is
      ∙ ap (λ k. solid_texts (take k (drop node.first (tokens_of s)))) count
      ∙ ap solid_texts (tokens_of_node s n has)

  texts_by : (first past : ℕ) (b : Bool) → HasToken s first → first < past → is_trivia (token_of s first).kind ≡ b
      → texts_between s first past ≡ cond b (texts_between s (first + 1) past) ((token_of s first).text ∷ texts_between s (first + 1) past)
  texts_by first past b has some is =
      let token = token_of s first in
      let count : past - first ≡ suc (past - (first + 1)) = omega arith in
      ap (λ k. solid_texts (take k (drop first (tokens_of s)))) count
      ∙ ap (λ tokens. solid_texts (take (suc (past - (first + 1))) tokens)) (tokens_left s first has)
      ∙ ap (λ b. map (λ (token : Token). token.text) (cond (not b) (token ∷ solid_behind) solid_behind)) is
      ∙ by b
    where
      solid_behind : List Token
      solid_behind = solid (take (past - (first + 1)) (drop (first + 1) (tokens_of s)))

      by : (b : Bool)
          → map (λ (token : Token). token.text) (cond (not b) (token_of s first ∷ solid_behind) solid_behind)
          ≡ cond b (texts_between s (first + 1) past) ((token_of s first).text ∷ texts_between s (first + 1) past)
      by true = refl
      by false = refl

  pub text_next : (first past : ℕ) → HasToken s first → first < past → is_trivia (token_of s first).kind ≡ false
      → texts_between s first past ≡ (token_of s first).text ∷ texts_between s (first + 1) past
  text_next first past has some is = texts_by first past false has some is

  pub text_passed : (first past : ℕ) → HasToken s first → first < past → is_trivia (token_of s first).kind ≡ true
      → texts_between s first past ≡ texts_between s (first + 1) past
  text_passed first past has some is = texts_by first past true has some is

-- The first token of an element is the tree's token of that number.
use Rattle.std.proofs.Common.{◌≡◌, ℕ, ◌+◌, ◌<◌, List, [], ◌∷◌, ◌++◌, length, All, Option, Some, None, refl, sym, ◌∙◌, ap, subst, inl, inr, arith}
use Rattle.std.specs.Prelude.{slice_get}
use Rattle.std.specs.Option.{option_map}
use Rattle.std.proofs.lemmas.Bool.{cases_lt}
use Rattle.std.proofs.lemmas.List.Elements.{All-head, All-tail}
use Rattle.ssr_syntax_tree.specs.declared.number.Element.{Element}
use Rattle.ssr_syntax_tree.specs.declared.number.Element.TheVariants as element
use Rattle.ssr_syntax_tree.specs.Syntax.{Token, Forest, nothing, leaf, branch, Syntax, token_count, node_count, tokens_in}
use Rattle.ssr_syntax_tree.specs.Places.{Node, HasToken, HasElement, node_of, token_of, part_of, parts_in, parts_of}
use Rattle.ssr_syntax_tree.proofs.Lists.{slice_get-left}
use Rattle.ssr_syntax_tree.proofs.Shared.{IsChild, children_known, length-tokens_in}
use Rattle.ide_ssr_token_trees.specs.Elements.{first_text, first_token, tokens_at}

no_elements : (tokens : List Token) → length tokens ≡ 0 → tokens ≡ []
no_elements [] none = refl
no_elements (token ∷ rest) none = absurd (omega arith)

no_tokens : (forest : Forest) → token_count forest ≡ 0 → tokens_in forest ≡ []
no_tokens forest none = no_elements (tokens_in forest) (length-tokens_in forest ∙ none)

module _ (s : Syntax) where
  -- the first of these tokens is the tree's token of the number t
  abbrev IsFirst : ℕ → Forest → Type 0
  IsFirst t forest = HasToken s t × (slice_get (tokens_in forest) 0 ≡ Some (token_of s t))

  first_known : (q p m t : ℕ) (forest : Forest) → All (IsChild s q) (parts_in p m t forest) → 0 < token_count forest → IsFirst t forest
  first_known q p m t nothing known some = absurd (omega arith)
  first_known q p m t (leaf token next) known some =
      let here = All-head (IsChild s q) _ (parts_in p m (1 + t) next) known in
      (here.0, ap Some (sym here.1))
  first_known q p m t (branch kind below next) known some =
      elim (cases_lt 0 (token_count below)) [
        | inl inside ↦
            let child = All-head (IsChild s q) _ (parts_in p (1 + m + node_count below) (t + token_count below) next) known in
            let own : All (IsChild s m) (parts_in m (1 + m) t below) =
            subst (λ (node : Node). All (IsChild s m) (parts_of node)) child.1 (children_known s m child.0)
            in
            let first = first_known m m (1 + m) t below own inside in
            (first.0, slice_get-left (tokens_in below) (tokens_in next) 0 (token_of s t) first.1)
        | inr outside ↦
            let none : token_count below ≡ 0 = omega arith in
            let same : t + token_count below ≡ t = omega arith in
            let first = first_known q p (1 + m + node_count below) (t + token_count below) next
            (All-tail (IsChild s q) _ (parts_in p (1 + m + node_count below) (t + token_count below) next) known) (omega arith)
            in
            subst (λ t. HasToken s t × (slice_get (tokens_in below ++ tokens_in next) 0 ≡ Some (token_of s t))) same
            (first.0, ap (λ tokens. slice_get (tokens ++ tokens_in next) 0) (no_tokens below none) ∙ first.1)
      ]

  pub has_first : (x : Element) → HasElement s x → 0 < tokens_at (part_of s x) → HasToken s (first_token (part_of s x))
  has_first (element.Token t) has some = has
  has_first (element.Node n) has some =
      let node = node_of s n.0 in (first_known n.0 node.number (1 + node.number) node.first node.children (children_known s n.0 has) some).0

  pub text_first : (x : Element) (text : List ℕ) → HasElement s x → 0 < tokens_at (part_of s x)
      → text ≡ (token_of s (first_token (part_of s x))).text → Some text ≡ first_text (part_of s x)
  text_first (element.Token t) text has some is = ap Some is
  text_first (element.Node n) text has some is =
      let node = node_of s n.0 in
      ap Some is
      ∙ sym (ap (option_map (λ (token : Token). token.text)) (first_known n.0 node.number (1 + node.number) node.first node.children (children_known s n.0 has) some).1)

  pub text_none : (x : Element) → tokens_at (part_of s x) ≡ 0 → ◌≡◌ {A = Option (List ℕ)} None (first_text (part_of s x))
  text_none (element.Token t) none = absurd (omega arith)
  text_none (element.Node n) none =
      sym (ap (λ tokens. option_map (λ (token : Token). token.text) (slice_get tokens 0)) (no_tokens (node_of s n.0).children none))

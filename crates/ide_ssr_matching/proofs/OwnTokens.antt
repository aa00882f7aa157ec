-- Tokens of a node's own that are placeholders, child by child.
use Rattle.std.proofs.Common.{◌≡◌, ℕ, ◌||◌, Bool, true, false, is_some, List, [], ◌∷◌, Option, refl, sym, ◌∙◌, ap}
use Rattle.std.proofs.Math.Bool.{or-false}
use Rattle.ssr_syntax_tree.specs.Syntax.{Syntax}
use Rattle.ssr_syntax_tree.specs.Places.{Part, token_part, node_part, part_of, token_of}
use Rattle.ssr_syntax_tree.specs.declared.number.Element.{Element}
use Rattle.ssr_syntax_tree.specs.declared.number.Element.TheVariants as element
use Rattle.ssr_syntax_tree.specs.declared.number.TokenNo.{TokenNo}
use Rattle.ide_ssr_resolved_rule.specs.StandIns.{name_at}
use Rattle.ide_ssr_resolved_rule.specs.Resolved.{ResolvedRule}
use Rattle.ide_ssr_matching.specs.TokenTrees.{has_token_placeholder}

module _ (rule : ResolvedRule) where
  pub token_here : (part : Part) (rest : List Part) → has_token_placeholder rule (part ∷ []) ≡ true → has_token_placeholder rule (part ∷ rest) ≡ true
  token_here (token_part t token) rest is = here (is_some (name_at rule.names token)) is
    where
      here : (b : Bool) → (b || false) ≡ true → (b || has_token_placeholder rule rest) ≡ true
      here true is = refl
      here false is = let e : false ≡ true = is in cc
  token_here (node_part node) rest is = let e : false ≡ true = is in cc

  pub token_behind : (part : Part) (rest : List Part) → has_token_placeholder rule (part ∷ []) ≡ false
      → has_token_placeholder rule (part ∷ rest) ≡ has_token_placeholder rule rest
  token_behind (token_part t token) rest is = behind (is_some (name_at rule.names token)) is
    where
      behind : (b : Bool) → (b || false) ≡ false → (b || has_token_placeholder rule rest) ≡ has_token_placeholder rule rest
      behind true is = let e : true ≡ false = is in cc
      behind false is = refl
  token_behind (node_part node) rest is = refl

  pub token_told : (pattern : Syntax) (child : Element) (t : TokenNo) (o : Option ℕ) (b : Bool) → child ≡ element.Token t
      → o ≡ name_at rule.names (token_of pattern t.0) → b ≡ is_some o → b ≡ has_token_placeholder rule (part_of pattern child ∷ [])
  token_told pattern child t o b child_is told is =
      is ∙ ap is_some told ∙ sym (or-false (is_some (name_at rule.names (token_of pattern t.0))))
      ∙ ap (λ child. has_token_placeholder rule (part_of pattern child ∷ [])) (sym child_is)

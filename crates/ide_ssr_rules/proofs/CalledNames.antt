-- Names that are collected from token trees.
use Rattle.std.proofs.Common.{◌≡◌, ℕ, ◌&&◌, ◌||◌, Bool, true, false, List, [], ◌∷◌, ◌++◌, Some, None, refl, sym, ap, ◌∙◌, bytes_eq}
use Rattle.std.proofs.Math.Bool.{or-false, or_assoc}
use Rattle.std.proofs.lemmas.List.Folds.{list_any-append}
use Rattle.std.proofs.lemmas.Slice.Eq.{bytes_eq-Decides}
use Rattle.std.specs.Prelude.{if◌then◌else◌}
use Rattle.std.specs.Option.{option_map_or}
use Rattle.ssr_syntax_kinds.specs.Kinds.{is_ident}
use Rattle.ssr_syntax_tree.specs.Places.{Part, token_part, node_part}
use Rattle.ide_ssr_resolved_rule.specs.Names.{has}
use Rattle.ide_ssr_rules.specs.MacroCalls.{is_spelled}
use Rattle.ide_ssr_rules.specs.Private.MacroCalls.{HasAlso, ident_text, in_part}
use Rattle.ide_ssr_resolved_rule.specs.StandIns.{stand_in_of}

-- texts are equal in either order
eq_turned : (a b : List ℕ) → bytes_eq a b ≡ bytes_eq b a
eq_turned a b = by (bytes_eq a b) refl (bytes_eq b a) refl
  where
    by : (left : Bool) → bytes_eq a b ≡ left → (right : Bool) → bytes_eq b a ≡ right → left ≡ right
    by true is true other = refl
    by false is false other = refl
    by true is false other = sym (sym other ∙ (bytes_eq-Decides b a).1 (sym ((bytes_eq-Decides a b).0 is)))
    by false is true other = sym is ∙ (bytes_eq-Decides a b).1 (sym ((bytes_eq-Decides b a).0 other))

spelled_by : (text : List ℕ) (part : Part) → is_spelled text part ≡ option_map_or (λ own. bytes_eq own text) (ident_text part) false
spelled_by text (token_part t token) = by (is_ident token.kind)
  where
    by : (b : Bool) → (b && bytes_eq token.text text) ≡ option_map_or (λ own. bytes_eq own text) (if b then Some token.text else None) false
    by true = refl
    by false = refl
spelled_by text (node_part node) = refl

module _ (names : List (List ℕ)) (part : Part) where
  pub other_also : (text : List ℕ) → ident_text part ≡ Some text → ((name : List ℕ) → bytes_eq text (stand_in_of name) ≡ false) → HasAlso names (in_part part) names
  other_also text some none name =
      sym (or-false (has names name))
      ∙ ap (λ b. has names name || b)
      (sym (spelled_by (stand_in_of name) part ∙ ap (λ o. option_map_or (λ own. bytes_eq own (stand_in_of name)) o false) some ∙ none name))

  pub named_also : (new : List (List ℕ)) (text own : List ℕ) → ident_text part ≡ Some text → ((name : List ℕ) → bytes_eq text (stand_in_of name) ≡ bytes_eq own name)
      → new ≡ names ++ own ∷ [] → HasAlso names (in_part part) new
  named_also new text own some is pushed name =
      ap (λ ns. has ns name) pushed
      ∙ list_any-append (bytes_eq name) names (own ∷ [])
      ∙ ap (λ b. has names name || b)
      (or-false (bytes_eq name own) ∙ eq_turned name own
      ∙ sym (spelled_by (stand_in_of name) part ∙ ap (λ o. option_map_or (λ text. bytes_eq text (stand_in_of name)) o false) some ∙ is name))

-- one more is collected
pub also_next : (old new : List (List ℕ)) (here : List ℕ → Bool) (name : List ℕ) (rest : Bool) → HasAlso old here new
    → (has new name || rest) ≡ (has old name || (here name || rest))
also_next old new here name rest also = ap (λ b. b || rest) (also name) ∙ or_assoc (has old name) (here name) rest

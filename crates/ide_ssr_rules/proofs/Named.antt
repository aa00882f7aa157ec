-- Only identifiers are placeholders.
use Rattle.std.proofs.Common.{◌≡◌, ℕ, Bool, true, false, cond, List, [], ◌∷◌, refl, ◌∙◌, ap}
use Rattle.std.specs.List.{cons_option}
use Rattle.ssr_syntax_tree.specs.Syntax.{Token}
use Rattle.ssr_syntax_kinds.specs.Kinds.{is_ident}
use Rattle.ssr_syntax.specs.Identifiers.{idents}
use Rattle.ide_ssr_resolved_rule.specs.Patterns.{placeholders_among}
use Rattle.ide_ssr_resolved_rule.specs.StandIns.{name_at}
use Rattle.ide_ssr_resolved_rule.proofs.Shared.{not_named}

ident_or_not : (names : List (List ℕ)) (token : Token) (found : List Token) (rest : List ℕ) (b : Bool) → is_ident token.kind ≡ b
    → rest ≡ placeholders_among names found → cons_option (name_at names token) rest ≡ placeholders_among names (cond b (token ∷ found) found)
ident_or_not names token found rest true e h = ap (cons_option (name_at names token)) h
ident_or_not names token found rest false e h = ap (λ o. cons_option o rest) (not_named names token e) ∙ h

-- only identifiers are placeholders
pub over_idents : (names : List (List ℕ)) (tokens : List Token) → placeholders_among names tokens ≡ placeholders_among names (idents tokens)
over_idents names [] = refl
over_idents names (token ∷ tokens) =
    ident_or_not names token (idents tokens) (placeholders_among names tokens) (is_ident token.kind) refl (over_idents names tokens)

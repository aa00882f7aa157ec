-- Which texts and tokens are stand-ins.
use Rattle.std.proofs.Common.{◌≡◌, ℕ, List, None, refl, false, bytes_eq, codes}
use Rattle.std.proofs.lemmas.Bool.Decides.{same_from_decides}
use Rattle.std.specs.Bool.{Decides}
use Rattle.std.proofs.lemmas.Slice.Eq.{bytes_eq-Decides}
use Rattle.std.specs.Str.Pattern.{LacksTextAt}
use Rattle.ssr_syntax_kinds.specs.Kinds.{is_ident}
use Rattle.ssr_syntax_tree.specs.Syntax.{Token}
use Rattle.ide_ssr_resolved_rule.specs.StandIns.{stand_in_of, name_at}

pub no_stand_in : (text name : List ℕ) → LacksTextAt (codes "__placeholder_") text 0 → false ≡ bytes_eq text (stand_in_of name)
no_stand_in text name lacks =
    let never : Decides false (text ≡ stand_in_of name) = (λ wrong. cc, λ is. absurd (lacks name is)) in
    same_from_decides false (bytes_eq text (stand_in_of name)) never (bytes_eq-Decides text (stand_in_of name))

-- only identifiers are placeholders
pub not_named : (names : List (List ℕ)) (token : Token) → is_ident token.kind ≡ false → name_at names token ≡ None
unfolding name_at
not_named names token h = rw h refl

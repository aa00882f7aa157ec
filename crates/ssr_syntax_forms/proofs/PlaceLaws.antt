-- Places, and what is behind white space, comments and solid tokens.
use Rattle.std.proofs.Common.{◌≡◌, ℕ, zero, suc, ◌+◌, ◌-◌, true, false, if◌then◌else◌, List, [], ◌∷◌, length, refl, ap, sym, ◌∙◌, arith}
use Rattle.ssr_syntax_kinds.specs.declared.kinds.SyntaxKind.{SyntaxKind}
use Rattle.ssr_syntax_kinds.specs.Kinds.{is_trivia, same_kind}
use Rattle.ssr_syntax_forms.specs.Places.{leading, behind_trivia, behind_solid, behind_token, is_alone, Place, place_at}

pub leading-behind : (ks : List SyntaxKind) → leading ks + length (behind_trivia ks) ≡ length ks
leading-behind [] = refl
leading-behind (k ∷ ks) =
    elim (is_trivia k)
    as (λ b. (if b then 1 + leading ks else 0) + length (if b then behind_trivia ks else k ∷ ks) ≡ length (k ∷ ks))
    [ true ↦ omega (arith, leading-behind ks) | false ↦ omega arith ]

pub behind_none : (n : ℕ) (ks : List SyntaxKind) → n ≡ 0 → behind_solid n ks ≡ ks
behind_none n [] e = refl
behind_none zero (k ∷ ks) e = refl
behind_none (suc n) (k ∷ ks) e = absurd (omega arith)

-- what is behind the white space and comments tells how many those are
pub counted_place : (end : ℕ) (ks rest : List SyntaxKind) → rest ≡ behind_trivia ks
    → record { end = end; next = end + (length ks - length rest); kinds = rest } ≡ place_at end ks
counted_place end ks rest e =
    let place : ℕ → List SyntaxKind → Place = λ next kinds. record { end = end; next = next; kinds = kinds } in
    let count : length ks - length rest ≡ leading ks = omega (arith, ap length e, leading-behind ks) in
    ap (λ n. place (end + n) rest) count ∙ ap (place (end + leading ks)) e

-- behind a token that is one of the text as it is
pub alone_next : (kind first : SyntaxKind) (others : List SyntaxKind) (here there : Place) (end : ℕ) → here.kinds ≡ first ∷ others → same_kind first kind ≡ true → is_trivia first ≡ false
    → there ≡ place_at end others → end ≡ here.next + 1 → (is_alone kind 1 here.kinds ≡ true) × (there ≡ behind_token 1 here)
alone_next kind first others here there end is same solid place count =
    let behind : behind_solid 1 here.kinds ≡ others = ap (behind_solid 1) is ∙ (ap (λ b. behind_solid (if b then 1 else 0) others) solid ∙ behind_none 0 others refl) in (
      ap (is_alone kind 1) is ∙ rw same refl,
      place ∙ (ap (λ n. place_at n others) (omega (arith, count)) ∙ ap (place_at (1 + here.next)) (sym behind)),
    )

-- A token that is one of the text as it is.
use Rattle.std.proofs.Common.{◌≡◌, ℕ, ◌-◌, true, List, length, refl, ap, ◌∙◌, sym, arith}
use Rattle.std.proofs.lemmas.Bool.{le-leb}
use Rattle.std.proofs.lemmas.List.{append-nil}
use Rattle.std.specs.Prelude.{Result, Ok}
use Rattle.ssr_syntax_kinds.specs.declared.kinds.SyntaxKind.{SyntaxKind}
use Rattle.ssr_syntax_forms.specs.declared.tokens.Token.{Token}
use Rattle.ssr_syntax_forms.specs.declared.fault.Fault.{Fault}
use Rattle.ssr_syntax_forms.specs.Places.{Place, behind_token, is_alone}
use Rattle.ssr_syntax_forms.specs.Parser.{Written, State, state_of}
use Rattle.ssr_syntax_forms.specs.Private.Ahead.{taken_with}

-- what is written when it is taken
abbrev pub passed : Written → Place → Written
passed out place = record { rows = out.rows; joined = out.joined; place = place }

taken_one : (kind : SyntaxKind) (rest : List Token) (out : Written) → is_alone kind 1 out.place.kinds ≡ true
    → taken_with kind 0 rest out ≡ Ok (state_of (passed out (behind_token 1 out.place)) rest)
taken_one kind rest out alone = rw (le-leb 0 (length rest) (omega arith), alone, append-nil out.joined) refl

pub taken_alone : (kind : SyntaxKind) (size : ℕ) (rest : List Token) (out : Written) (place : Place) → size ≡ 1 → is_alone kind 1 out.place.kinds ≡ true → place ≡ behind_token 1 out.place
    → taken_with kind (size - 1) rest out ≡ Ok (state_of (passed out place) rest)
taken_alone kind size rest out place single alone behind =
    ap (λ n. taken_with kind (n - 1) rest out) single
    ∙ (taken_one kind rest out alone
    ∙ ap (λ p. let taken : Result State Fault = Ok (state_of (passed out p) rest) in taken) (sym behind))

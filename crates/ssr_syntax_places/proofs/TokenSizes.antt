-- How many tokens a token of a text is joined from is told by its kind.
use Rattle.std.proofs.Common.{◌≡◌, suc, Bool, true, false, if◌then◌else◌, List, [], ◌∷◌, drop, Some, None, refl, sym, ap, ◌∙◌}
use Rattle.std.specs.Prelude.{Option, ⊤}
use Rattle.ssr_syntax_kinds.specs.Kinds.{same_kind, is_trivia}
use Rattle.ssr_syntax_kinds.specs.declared.kinds.SyntaxKind.{SyntaxKind}
use Rattle.ssr_syntax_kinds.specs.declared.kinds.SyntaxKind.TheVariants as k
use Rattle.ssr_syntax_lex.specs.declared.tokens.RawToken.{RawToken}
use Rattle.ssr_syntax_forms.specs.declared.tokens.Token.{Token}
use Rattle.ssr_syntax_rows.specs.Solid.{with_eq, with_r_angle, twice, joined, lengthened, is_joint, joined_two, joined_three, solid_token, solid_tokens}
use Rattle.ssr_syntax_places.specs.PlainCore.{size_of_kind}
use Rattle.ssr_syntax_places.proofs.RawKinds.{IsSingle, AllSingle}

-- ** One token more.

abbrev IsLonger : SyntaxKind → Option SyntaxKind → Type 0
IsLonger kind None = ⊤
IsLonger kind (Some both) = size_of_kind both ≡ suc (size_of_kind kind)

eq_longer : (kind : SyntaxKind) → IsLonger kind (with_eq kind)
eq_longer k.EQ = refl
eq_longer k.BANG = refl
eq_longer k.L_ANGLE = refl
eq_longer k.R_ANGLE = refl
eq_longer k.PLUS = refl
eq_longer k.MINUS = refl
eq_longer k.STAR = refl
eq_longer k.SLASH = refl
eq_longer k.PERCENT = refl
eq_longer k.CARET = refl
eq_longer k.AMP = refl
eq_longer k.PIPE = refl
eq_longer k.DOT2 = refl
eq_longer k.SHL = refl
eq_longer k.SHR = refl
eq_longer _ = tt

r_angle_longer : (kind : SyntaxKind) → IsLonger kind (with_r_angle kind)
r_angle_longer k.MINUS = refl
r_angle_longer k.EQ = refl
r_angle_longer k.R_ANGLE = refl
r_angle_longer _ = tt

twice_longer : (kind : SyntaxKind) → IsLonger kind (twice kind)
twice_longer k.COLON = refl
twice_longer k.DOT = refl
twice_longer k.AMP = refl
twice_longer k.PIPE = refl
twice_longer k.L_ANGLE = refl
twice_longer _ = tt

perhaps_longer : (b : Bool) (kind : SyntaxKind) (o : Option SyntaxKind) → IsLonger kind o → IsLonger kind (if b then o else None)
perhaps_longer true kind o is = is
perhaps_longer false kind o is = tt

joined_longer : (next kind : SyntaxKind) → IsLonger kind (joined next kind)
joined_longer k.EQ kind = eq_longer kind
joined_longer k.R_ANGLE kind = r_angle_longer kind
joined_longer next kind = perhaps_longer (same_kind kind next) kind (twice kind) (twice_longer kind)

lengthened_longer : (kind : SyntaxKind) (joint : Bool) (ts : List RawToken) → IsLonger kind (lengthened kind joint ts)
lengthened_longer kind false ts = tt
lengthened_longer kind true [] = tt
lengthened_longer kind true (next ∷ ts) = joined_longer next.kind kind

-- ** Tokens of texts.

pub record IsSized (t : Token) : Type 0 where
  pub joined : t.size ≡ size_of_kind t.joined
  pub own : size_of_kind t.kind ≡ 1
  pub alone : t.size ≡ 1 → t.kind ≡ t.joined

abbrev pub AreSized : List Token → Type 0
AreSized [] = ⊤
AreSized (t ∷ ts) = IsSized t × AreSized ts

three_sized : (kind two : SyntaxKind) (o : Option SyntaxKind) → IsSingle kind → size_of_kind two ≡ 2 → IsLonger two o → IsSized (joined_three kind two o)
three_sized kind two None single size is = record { joined = sym size; own = single; alone = λ e. absurd (cc) }
three_sized kind two (Some three) single size is = record { joined = sym (is ∙ ap suc size); own = single; alone = λ e. absurd (cc) }

two_sized : (kind : SyntaxKind) (ts : List RawToken) (o : Option SyntaxKind) → IsSingle kind → IsLonger kind o → IsSized (joined_two kind ts o)
two_sized kind ts None single is = record { joined = sym single; own = single; alone = λ e. refl }
two_sized kind ts (Some two) single is =
    three_sized kind two (lengthened two (is_joint ts) (drop 1 ts)) single (is ∙ ap suc single) (lengthened_longer two (is_joint ts) (drop 1 ts))

pub all_sized : (raw : List RawToken) → AllSingle raw → AreSized (solid_tokens raw)
all_sized [] all = tt
all_sized (t ∷ ts) all =
    elim (is_trivia t.kind) as (λ b. AreSized (if b then solid_tokens ts else solid_token t ts ∷ solid_tokens ts)) [
      | true ↦ all_sized ts all.1
      | false ↦ (two_sized t.kind ts (lengthened t.kind t.joint ts) all.0 (lengthened_longer t.kind t.joint ts), all_sized ts all.1)
    ]

-- The solid tokens of a text are whole: what a token is joined from stands behind it, and is no brace that closes.
use Rattle.std.proofs.Common.{◌≡◌, ℕ, suc, ◌-◌, nat_le, Bool, true, false, not, ◌&&◌, if◌then◌else◌, List, [], ◌∷◌, length, take, Some, None, inl, inr, refl, sym, ap, subst, ◌∙◌, arith}
use Rattle.std.specs.Prelude.{Option}
use Rattle.std.proofs.lemmas.Bool.{and_from, and_parts, cases_Bool, le-leb, leb-true, not-true, or_cases, or_from}
use Rattle.ssr_syntax_kinds.specs.declared.kinds.SyntaxKind.{SyntaxKind}
use Rattle.ssr_syntax_kinds.specs.declared.kinds.SyntaxKind.TheVariants as k
use Rattle.ssr_syntax_kinds.specs.Kinds.{same_kind, is_trivia}
use Rattle.ssr_syntax_kinds.proofs.Shared.{same_kind-equal}
use Rattle.ssr_syntax_lex.specs.declared.tokens.RawToken.{RawToken}
use Rattle.ssr_syntax_forms.specs.declared.tokens.Token.{Token}
use Rattle.ssr_syntax_forms.specs.Kinds.{mem}
use Rattle.ssr_syntax_rows.specs.Solid.{with_eq, with_r_angle, twice, joined, lengthened, joined_two, joined_three, solid_token, solid_tokens}
use Rattle.ssr_syntax_rows.proofs.Shared.{are_joined, is_mark, mark_solid}
use Rattle.ssr_syntax_places.specs.Delimited.{braces, has_brace, are_whole}

-- ** No joined token is a brace, and none ends with one.

abbrev is_other : Option SyntaxKind → Bool
is_other None = true
is_other (Some kind) = not (mem kind braces)

eq_other : (kind : SyntaxKind) → is_other (with_eq kind) ≡ true
eq_other k.EQ = refl
eq_other k.BANG = refl
eq_other k.L_ANGLE = refl
eq_other k.R_ANGLE = refl
eq_other k.PLUS = refl
eq_other k.MINUS = refl
eq_other k.STAR = refl
eq_other k.SLASH = refl
eq_other k.PERCENT = refl
eq_other k.CARET = refl
eq_other k.AMP = refl
eq_other k.PIPE = refl
eq_other k.DOT2 = refl
eq_other k.SHL = refl
eq_other k.SHR = refl
eq_other _ = refl

angle_other : (kind : SyntaxKind) → is_other (with_r_angle kind) ≡ true
angle_other k.MINUS = refl
angle_other k.EQ = refl
angle_other k.R_ANGLE = refl
angle_other _ = refl

twice_other : (kind : SyntaxKind) → is_other (twice kind) ≡ true
twice_other k.COLON = refl
twice_other k.DOT = refl
twice_other k.AMP = refl
twice_other k.PIPE = refl
twice_other k.L_ANGLE = refl
twice_other _ = refl

perhaps_other : (b : Bool) (o : Option SyntaxKind) → is_other o ≡ true → is_other (if b then o else None) ≡ true
perhaps_other true o is = is
perhaps_other false o is = refl

joined_other : (next kind : SyntaxKind) → is_other (joined next kind) ≡ true
joined_other k.EQ kind = eq_other kind
joined_other k.R_ANGLE kind = angle_other kind
joined_other next kind = perhaps_other (same_kind kind next) (twice kind) (twice_other kind)

both_other : (next kind both : SyntaxKind) → joined next kind ≡ Some both → mem both braces ≡ false
both_other next kind both e = not-true (mem both braces) (ap is_other (sym e) ∙ joined_other next kind)

-- a kind that is neither `=` nor `>` and isn't written twice ends no joined token
if_none : (b : Bool) (o : Option SyntaxKind) → (b ≡ true → o ≡ None) → (if b then o else None) ≡ None
if_none true o none = none refl
if_none false o none = refl

l_curly_ends_none : (kind : SyntaxKind) → joined k.L_CURLY kind ≡ None
l_curly_ends_none kind = if_none (same_kind kind k.L_CURLY) (twice kind) (λ is. ap twice (same_kind-equal kind k.L_CURLY is))

r_curly_ends_none : (kind : SyntaxKind) → joined k.R_CURLY kind ≡ None
r_curly_ends_none kind = if_none (same_kind kind k.R_CURLY) (twice kind) (λ is. ap twice (same_kind-equal kind k.R_CURLY is))

brace_ends_none : (next kind : SyntaxKind) → mem next braces ≡ true → joined next kind ≡ None
brace_ends_none next kind is =
    elim (or_cases (same_kind next k.L_CURLY) (mem next (k.R_CURLY ∷ [])) is) [
      | inl opens ↦ ap (λ n. joined n kind) (same_kind-equal next k.L_CURLY opens) ∙ l_curly_ends_none kind
      | inr later ↦
          elim (or_cases (same_kind next k.R_CURLY) false later) [
            | inl shuts ↦ ap (λ n. joined n kind) (same_kind-equal next k.R_CURLY shuts) ∙ r_curly_ends_none kind
            | inr never ↦ absurd (cc)
          ]
    ]

next_other : (next kind both : SyntaxKind) → joined next kind ≡ Some both → mem next braces ≡ false
next_other next kind both e =
    elim (cases_Bool (mem next braces)) [
      | inl is ↦ absurd (cc (e, brace_ends_none next kind is))
      | inr other ↦ other
    ]

-- ** A token that isn't a brace is joined to none.

three_other : (kind two : SyntaxKind) (joint : Bool) (ts : List RawToken) (o : Option SyntaxKind) → mem two braces ≡ false
    → lengthened two joint ts ≡ o → mem (joined_three kind two o).joined braces ≡ false
three_other kind two joint ts None other e = other
three_other kind two true (next ∷ ts) (Some three) other e = both_other next.kind two three e
three_other kind two true [] (Some three) other e = absurd (cc)
three_other kind two false ts (Some three) other e = absurd (cc)

two_other : (kind : SyntaxKind) (joint : Bool) (ts : List RawToken) (o : Option SyntaxKind) → mem kind braces ≡ false
    → lengthened kind joint ts ≡ o → mem (joined_two kind ts o).joined braces ≡ false
two_other kind joint ts None other e = other
two_other kind true (next ∷ ts) (Some two) other e =
    three_other kind two next.joint ts (lengthened two next.joint ts) (both_other next.kind kind two e) refl
two_other kind true [] (Some two) other e = absurd (cc)
two_other kind false ts (Some two) other e = absurd (cc)

solid_other : (t : RawToken) (ts : List RawToken) → mem t.kind braces ≡ false → mem (solid_token t ts).joined braces ≡ false
solid_other t ts other = two_other t.kind t.joint ts (lengthened t.kind t.joint ts) other refl

-- ** What a token is joined from.

-- so many solid tokens are there, and none is a brace that closes
abbrev Covers : ℕ → List Token → Type 0
Covers n ts = (nat_le n (length ts) && not (has_brace (take n ts))) ≡ true

covers_none : (ts : List Token) → Covers 0 ts
covers_none ts = and_from (nat_le 0 (length ts)) true (le-leb 0 (length ts) (omega arith)) refl

covers_more : (n : ℕ) (t : Token) (ts : List Token) → mem t.joined braces ≡ false → Covers n ts → Covers (suc n) (t ∷ ts)
covers_more n t ts other covers =
    let halves = and_parts (nat_le n (length ts)) (not (has_brace (take n ts))) covers in
    let inside = leb-true n (length ts) halves.0 in
    and_from (nat_le (suc n) (length (t ∷ ts))) (not (has_brace (take (suc n) (t ∷ ts)))) (le-leb (suc n) (length (t ∷ ts)) (omega (arith, inside)))
    (ap not (or_from (mem t.joined braces) (has_brace (take n ts)) other (not-true (has_brace (take n ts)) halves.1)))

solid_first : (t : RawToken) (ts : List RawToken) → is_trivia t.kind ≡ false → solid_tokens (t ∷ ts) ≡ solid_token t ts ∷ solid_tokens ts
solid_first t ts solid = ap (λ b. if b then solid_tokens ts else solid_token t ts ∷ solid_tokens ts) solid

-- one more token is behind, to which that in front is joined
covers_next : (n : ℕ) (kind both : SyntaxKind) (next : RawToken) (ts : List RawToken) → joined next.kind kind ≡ Some both → Covers n (solid_tokens ts)
    → Covers (suc n) (solid_tokens (next ∷ ts))
covers_next n kind both next ts e covers =
    let parts = are_joined kind both true (next ∷ []) e in
    let same : parts.next ≡ next = cc (parts.are) in
    let solid = mark_solid next.kind (ap (λ t. is_mark t.kind) (sym same) ∙ parts.next_mark) in
    subst (Covers (suc n)) (sym (solid_first next ts solid))
    (covers_more n (solid_token next ts) (solid_tokens ts) (solid_other next ts (next_other next.kind kind both e)) covers)

three_covered : (kind two : SyntaxKind) (next : RawToken) (ts : List RawToken) (o : Option SyntaxKind) → joined next.kind kind ≡ Some two
    → lengthened two next.joint ts ≡ o → Covers ((joined_three kind two o).size - 1) (solid_tokens (next ∷ ts))
three_covered kind two next ts None e f = covers_next 0 kind two next ts e (covers_none (solid_tokens ts))
three_covered kind two next ts (Some three) e f = longer next.joint ts f
  where
    longer : (joint : Bool) (us : List RawToken) → lengthened two joint us ≡ Some three → Covers 2 (solid_tokens (next ∷ us))
    longer false us g = absurd (cc)
    longer true [] g = absurd (cc)
    longer true (third ∷ us) g =
        covers_next 1 kind two next (third ∷ us) e (covers_next 0 two three third us g (covers_none (solid_tokens us)))

two_covered : (kind : SyntaxKind) (joint : Bool) (ts : List RawToken) (o : Option SyntaxKind) → lengthened kind joint ts ≡ o
    → Covers ((joined_two kind ts o).size - 1) (solid_tokens ts)
two_covered kind joint ts None e = covers_none (solid_tokens ts)
two_covered kind true (next ∷ ts) (Some two) e = three_covered kind two next ts (lengthened two next.joint ts) e refl
two_covered kind true [] (Some two) e = absurd (cc)
two_covered kind false ts (Some two) e = absurd (cc)

pub whole_solid : (raw : List RawToken) → are_whole (solid_tokens raw) ≡ true
whole_solid [] = refl
whole_solid (t ∷ ts) =
    let u : Token = solid_token t ts in
    let covers : Covers (u.size - 1) (solid_tokens ts) = two_covered t.kind t.joint ts (lengthened t.kind t.joint ts) refl in
    elim (is_trivia t.kind) as (λ x. are_whole (if x then solid_tokens ts else u ∷ solid_tokens ts) ≡ true) [
      | true ↦ whole_solid ts
      | false ↦ and_from (nat_le (u.size - 1) (length (solid_tokens ts)) && not (has_brace (take (u.size - 1) (solid_tokens ts)))) (are_whole (solid_tokens ts))
          covers (whole_solid ts)
    ]

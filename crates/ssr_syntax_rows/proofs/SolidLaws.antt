-- Laws of solid tokens.
use Rattle.std.proofs.Common.{◌≡◌, Bool, true, false, not, ◌||◌, ◌&&◌, if◌then◌else◌, List, [], ◌∷◌, drop, Some, None, refl, sym, ◌∙◌, ap}
use Rattle.std.proofs.lemmas.Bool.{and_parts, not-true, or_parts}
use Rattle.std.specs.Prelude.{Option, slice_get}
use Rattle.ssr_syntax_kinds.specs.declared.kinds.SyntaxKind.{SyntaxKind}
use Rattle.ssr_syntax_kinds.specs.declared.kinds.SyntaxKind.TheVariants as k
use Rattle.ssr_syntax_kinds.specs.Kinds.{same_kind, is_trivia, is_ident}
use Rattle.ssr_syntax_lex.specs.declared.tokens.RawToken.{RawToken}
use Rattle.ssr_syntax_kinds.proofs.Shared.{same_kind-equal}
use Rattle.ssr_syntax_forms.specs.declared.tokens.Token.{Token}
use Rattle.ssr_syntax_rows.specs.Solid.{with_eq, with_r_angle, twice, joined, lengthened, is_joint, joined_two, joined_three, solid_token, solid_tokens}
use Rattle.ssr_syntax_rows.specs.Private.SolidKinds.{ends_joined}
use Rattle.ssr_syntax_rows.specs.SolidKinds.{with_next}
use Rattle.ssr_syntax_rows.proofs.Laid.{by_kind}
use Rattle.ssr_syntax_rows.proofs.Solidity.{AllSolid}

-- ** Joined kinds.

-- neither white space nor a comment, nor an identifier
abbrev pub is_mark : SyntaxKind → Bool
is_mark kind = not (is_trivia kind || is_ident kind)

-- a joined kind, if there is one, is such a kind, and so are those that it is joined from
abbrev pub joins : Option SyntaxKind → SyntaxKind → SyntaxKind → Bool
joins None next kind = true
joins (Some both) next kind = is_mark both && (is_mark kind && is_mark next)

eq_joins : (kind : SyntaxKind) → joins (with_eq kind) k.EQ kind ≡ true
eq_joins k.EQ = refl
eq_joins k.BANG = refl
eq_joins k.L_ANGLE = refl
eq_joins k.R_ANGLE = refl
eq_joins k.PLUS = refl
eq_joins k.MINUS = refl
eq_joins k.STAR = refl
eq_joins k.SLASH = refl
eq_joins k.PERCENT = refl
eq_joins k.CARET = refl
eq_joins k.AMP = refl
eq_joins k.PIPE = refl
eq_joins k.DOT2 = refl
eq_joins k.SHL = refl
eq_joins k.SHR = refl
eq_joins _ = refl

r_angle_joins : (kind : SyntaxKind) → joins (with_r_angle kind) k.R_ANGLE kind ≡ true
r_angle_joins k.MINUS = refl
r_angle_joins k.EQ = refl
r_angle_joins k.R_ANGLE = refl
r_angle_joins _ = refl

twice_joins : (kind : SyntaxKind) → joins (twice kind) kind kind ≡ true
twice_joins k.COLON = refl
twice_joins k.DOT = refl
twice_joins k.AMP = refl
twice_joins k.PIPE = refl
twice_joins k.L_ANGLE = refl
twice_joins _ = refl

perhaps_joins : (b : Bool) (next kind : SyntaxKind) → same_kind kind next ≡ b → joins (if b then twice kind else None) next kind ≡ true
perhaps_joins true next kind e = ap (λ other. joins (twice kind) other kind) (sym (same_kind-equal kind next e)) ∙ twice_joins kind
perhaps_joins false next kind e = refl

joined_joins : (next kind : SyntaxKind) → joins (joined next kind) next kind ≡ true
joined_joins k.EQ kind = eq_joins kind
joined_joins k.R_ANGLE kind = r_angle_joins kind
joined_joins next kind = perhaps_joins (same_kind kind next) next kind refl

unlike : (b : Bool) (next kind : SyntaxKind) → same_kind kind next ≡ b → twice next ≡ None → (if b then twice kind else None) ≡ None
unlike true next kind e none = ap twice (same_kind-equal kind next e) ∙ none
unlike false next kind e none = refl

pub never_joined : (next kind : SyntaxKind) → ends_joined next ≡ false → joined next kind ≡ None
never_joined k.EQ kind e = cc
never_joined k.R_ANGLE kind e = cc
never_joined k.COLON kind e = cc
never_joined k.DOT kind e = cc
never_joined k.AMP kind e = cc
never_joined k.PIPE kind e = cc
never_joined k.L_ANGLE kind e = cc
never_joined next kind e = unlike (same_kind kind next) next kind refl refl

-- white space and comments are no last part
pub trivia_ends_none : (kind : SyntaxKind) → is_trivia kind ≡ true → ends_joined kind ≡ false
trivia_ends_none k.WHITESPACE trivia = refl
trivia_ends_none k.COMMENT trivia = refl
trivia_ends_none _ trivia = absurd (cc)

-- nothing is joined with a token that is no last part
pub stands_alone : (kind : SyntaxKind) (kinds : List SyntaxKind) (next : SyntaxKind) → slice_get kinds 0 ≡ Some next → ends_joined next ≡ false
    → with_next kind kinds ≡ None
stands_alone kind [] next first e = refl
stands_alone kind (other ∷ kinds) next first e =
    let same : next ≡ other = cc in
    never_joined other kind (ap ends_joined (sym same) ∙ e)

-- what a token is joined from: one of the kind, and one directly behind it
pub record AreJoined (kind both : SyntaxKind) (ts : List RawToken) : Type 0 where
  pub next : RawToken
  pub others : List RawToken
  pub are : ts ≡ next ∷ others
  pub both_mark : is_mark both ≡ true
  pub first_mark : is_mark kind ≡ true
  pub next_mark : is_mark next.kind ≡ true

pub are_joined : (kind both : SyntaxKind) (joint : Bool) (ts : List RawToken) → lengthened kind joint ts ≡ Some both → AreJoined kind both ts
are_joined kind two false ts e = cc
are_joined kind two true [] e = cc
are_joined kind two true (next ∷ ts) e =
    let marks : joins (Some two) next.kind kind ≡ true = ap (λ o. joins o next.kind kind) (sym e) ∙ joined_joins next.kind kind in
    let first = and_parts (is_mark two) (is_mark kind && is_mark next.kind) marks in
    let second = and_parts (is_mark kind) (is_mark next.kind) first.1 in
    record { next = next; others = ts; are = refl; both_mark = first.0; first_mark = second.0; next_mark = second.1 }

-- ** Solid tokens are neither white space nor comments.

pub mark_solid : (kind : SyntaxKind) → is_mark kind ≡ true → is_trivia kind ≡ false
mark_solid kind h = (or_parts (is_trivia kind) (is_ident kind) (not-true (is_trivia kind || is_ident kind) h)).0

pub mark_no_ident : (kind : SyntaxKind) → is_mark kind ≡ true → is_ident kind ≡ false
mark_no_ident kind h = (or_parts (is_trivia kind) (is_ident kind) (not-true (is_trivia kind || is_ident kind) h)).1

abbrev IsSolidToken : Token → Type 0
IsSolidToken t = (is_trivia t.kind ≡ false) × (is_trivia t.joined ≡ false)

three_solid : (kind two : SyntaxKind) (ts : List RawToken) (joint : Bool) (o : Option SyntaxKind) → is_trivia kind ≡ false → is_mark two ≡ true
    → lengthened two joint ts ≡ o → IsSolidToken (joined_three kind two o)
three_solid kind two ts joint None e f g = (e, mark_solid two f)
three_solid kind two ts joint (Some three) e f g = (e, mark_solid three (are_joined two three joint ts g).both_mark)

two_solid : (kind : SyntaxKind) (joint : Bool) (ts : List RawToken) (o : Option SyntaxKind) → is_trivia kind ≡ false → lengthened kind joint ts ≡ o
    → IsSolidToken (joined_two kind ts o)
two_solid kind joint ts None e f = (e, e)
two_solid kind joint ts (Some two) e f =
    three_solid kind two (drop 1 ts) (is_joint ts) (lengthened two (is_joint ts) (drop 1 ts)) e (are_joined kind two joint ts f).both_mark refl

pub all_solid : (raw : List RawToken) → AllSolid (solid_tokens raw)
all_solid [] = tt
all_solid (t ∷ ts) =
    by_kind (λ b. AllSolid (if b then solid_tokens ts else solid_token t ts ∷ solid_tokens ts)) (record { kind = t.kind; text = [] })
    (λ e. all_solid ts)
    (λ e. let solid = two_solid t.kind t.joint ts (lengthened t.kind t.joint ts) e refl in (solid.0, solid.1, all_solid ts))

three_kind : (kind two : SyntaxKind) (o : Option SyntaxKind) → (joined_three kind two o).kind ≡ kind
three_kind kind two None = refl
three_kind kind two (Some three) = refl

two_kind : (kind : SyntaxKind) (ts : List RawToken) (o : Option SyntaxKind) → (joined_two kind ts o).kind ≡ kind
two_kind kind ts None = refl
two_kind kind ts (Some two) = three_kind kind two (lengthened two (is_joint ts) (drop 1 ts))

pub kind_of : (first : RawToken) (ts : List RawToken) → (solid_token first ts).kind ≡ first.kind
kind_of first ts = two_kind first.kind ts (lengthened first.kind first.joint ts)

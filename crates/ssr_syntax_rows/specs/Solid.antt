-- The tokens of a text, and the solid ones of them, those that are no trivia: what the grammar reads.
use Rattle.std.specs.Prelude.{ℕ, Bool, true, false, not, if◌then◌else◌, List, [], ◌∷◌, drop, map, Option, Some, None}
use Rattle.ssr_syntax_kinds.specs.Kinds.{same_kind, is_trivia}
use Rattle.ssr_syntax_kinds.specs.declared.kinds.SyntaxKind.{SyntaxKind}
use Rattle.ssr_syntax_kinds.specs.declared.kinds.SyntaxKind.TheVariants as k
use Rattle.ssr_syntax_lex.specs.declared.tokens.RawToken.{RawToken}
use Rattle.ssr_syntax_lex.specs.Tokens.{token_text}
use Rattle.ssr_syntax_tree.specs.Syntax as plain
use Rattle.ssr_syntax_forms.specs.declared.tokens.Token.{Token}

-- ** Joined tokens.

-- a token of the kind, and `=`
abbrev pub with_eq : SyntaxKind → Option SyntaxKind
with_eq k.EQ = Some k.EQ2
with_eq k.BANG = Some k.NEQ
with_eq k.L_ANGLE = Some k.LTEQ
with_eq k.R_ANGLE = Some k.GTEQ
with_eq k.PLUS = Some k.PLUSEQ
with_eq k.MINUS = Some k.MINUSEQ
with_eq k.STAR = Some k.STAREQ
with_eq k.SLASH = Some k.SLASHEQ
with_eq k.PERCENT = Some k.PERCENTEQ
with_eq k.CARET = Some k.CARETEQ
with_eq k.AMP = Some k.AMPEQ
with_eq k.PIPE = Some k.PIPEEQ
with_eq k.DOT2 = Some k.DOT2EQ
with_eq k.SHL = Some k.SHLEQ
with_eq k.SHR = Some k.SHREQ
with_eq _ = None

-- a token of the kind, and `>`
abbrev pub with_r_angle : SyntaxKind → Option SyntaxKind
with_r_angle k.MINUS = Some k.THIN_ARROW
with_r_angle k.EQ = Some k.FAT_ARROW
with_r_angle k.R_ANGLE = Some k.SHR
with_r_angle _ = None

-- two tokens of the kind
abbrev pub twice : SyntaxKind → Option SyntaxKind
twice k.COLON = Some k.COLON2
twice k.DOT = Some k.DOT2
twice k.AMP = Some k.AMP2
twice k.PIPE = Some k.PIPE2
twice k.L_ANGLE = Some k.SHL
twice _ = None

-- the kind of a token joined from one of `kind` and one of `next` directly behind it
abbrev pub joined : SyntaxKind → SyntaxKind → Option SyntaxKind
joined k.EQ kind = with_eq kind
joined k.R_ANGLE kind = with_r_angle kind
joined next kind = if same_kind kind next then twice kind else None

-- the kind of a token joined from one of `kind`, which is joint or isn't, and the first of those behind it
abbrev pub lengthened : SyntaxKind → Bool → List RawToken → Option SyntaxKind
lengthened kind false ts = None
lengthened kind true [] = None
lengthened kind true (next ∷ ts) = joined next.kind kind

abbrev pub is_joint : List RawToken → Bool
is_joint [] = false
is_joint (t ∷ ts) = t.joint

-- The token in front of others, with the longest token that is joined from it and from those. What three make is
-- what two make, lengthened by one.
abbrev pub joined_three : SyntaxKind → SyntaxKind → Option SyntaxKind → Token
joined_three kind two None = record { kind = kind; joined = two; size = 2 }
joined_three kind two (Some three) = record { kind = kind; joined = three; size = 3 }

abbrev pub joined_two : SyntaxKind → List RawToken → Option SyntaxKind → Token
joined_two kind ts None = record { kind = kind; joined = kind; size = 1 }
joined_two kind ts (Some two) = joined_three kind two (lengthened two (is_joint ts) (drop 1 ts))

abbrev pub solid_token : RawToken → List RawToken → Token
solid_token first ts = joined_two first.kind ts (lengthened first.kind first.joint ts)

-- ** The solid tokens of a text's: all but white space and comments.
abbrev pub solid_tokens : List RawToken → List Token
solid_tokens [] = []
solid_tokens (t ∷ ts) = if is_trivia t.kind then solid_tokens ts else solid_token t ts ∷ solid_tokens ts

-- no white space or comment stands in front
abbrev pub begins_solid : List RawToken → Bool
begins_solid [] = true
begins_solid (t ∷ ts) = not (is_trivia t.kind)

-- ** A text's tokens, with the bytes of each.
abbrev pub pieces : List ℕ → List RawToken → List plain.Token
pieces text raw = map (λ t. record { kind = t.kind; text = token_text text t }) raw

-- Private: the rank of the next token.
use Rattle.std.specs.Prelude.{ℕ, List}
use Rattle.ssr_syntax_kinds.specs.declared.kinds.SyntaxKind.{SyntaxKind}
use Rattle.ssr_syntax_kinds.specs.declared.kinds.SyntaxKind.TheVariants as k
use Rattle.ssr_syntax_forms.specs.declared.tokens.Token.{Token}
use Rattle.ssr_syntax_forms.specs.Forms.{next}

-- the rank of an operator; behind all ranks what is none
abbrev pub rank_of : SyntaxKind → ℕ
rank_of k.STAR = 0
rank_of k.SLASH = 0
rank_of k.PERCENT = 0
rank_of k.PLUS = 1
rank_of k.MINUS = 1
rank_of k.SHL = 2
rank_of k.SHR = 2
rank_of k.AMP = 3
rank_of k.CARET = 4
rank_of k.PIPE = 5
rank_of k.EQ2 = 6
rank_of k.NEQ = 6
rank_of k.L_ANGLE = 6
rank_of k.R_ANGLE = 6
rank_of k.LTEQ = 6
rank_of k.GTEQ = 6
rank_of k.AMP2 = 7
rank_of k.PIPE2 = 8
rank_of _ = 9

abbrev pub next_rank : List Token → ℕ
next_rank ts = rank_of (next ts)

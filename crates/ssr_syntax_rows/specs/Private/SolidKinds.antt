-- Private: which kinds may be joined with the token in front.
use Rattle.std.specs.Prelude.{Bool, true, false}
use Rattle.ssr_syntax_kinds.specs.declared.kinds.SyntaxKind.{SyntaxKind}
use Rattle.ssr_syntax_kinds.specs.declared.kinds.SyntaxKind.TheVariants as k

-- there are joined tokens whose last part is of this kind
abbrev pub ends_joined : SyntaxKind → Bool
ends_joined k.EQ = true
ends_joined k.R_ANGLE = true
ends_joined k.COLON = true
ends_joined k.DOT = true
ends_joined k.AMP = true
ends_joined k.PIPE = true
ends_joined k.L_ANGLE = true
ends_joined _ = false

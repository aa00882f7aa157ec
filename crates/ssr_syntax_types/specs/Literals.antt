-- The form of literals.
use Rattle.std.specs.Prelude.{List, [], ◌∷◌}
use Rattle.ssr_syntax_kinds.specs.declared.kinds.SyntaxKind.{SyntaxKind}
use Rattle.ssr_syntax_kinds.specs.declared.kinds.SyntaxKind.TheVariants as k
use Rattle.ssr_syntax_types.specs.declared.goals.Goal.{Goal}
use Rattle.ssr_syntax_forms.specs.Forms.{Form, seal, ◌then◌, any}

-- the tokens that are literals
unfoldable pub literals : List SyntaxKind
literals =
    k.INT_NUMBER ∷ k.FLOAT_NUMBER ∷ k.STRING ∷ k.BYTE_STRING ∷ k.C_STRING ∷ k.BYTE ∷ k.CHAR ∷ k.TRUE_KW ∷ k.FALSE_KW ∷ []

unfoldable pub literal : Form Goal
literal = any literals then seal k.LITERAL

-- What patterns begin with, and the operators of ranges.
use Rattle.std.specs.Prelude.{Bool, List, [], ◌∷◌, ◌++◌}
use Rattle.ssr_syntax_kinds.specs.declared.kinds.SyntaxKind.{SyntaxKind}
use Rattle.ssr_syntax_kinds.specs.declared.kinds.SyntaxKind.TheVariants as k
use Rattle.ssr_syntax_forms.specs.Kinds.{where_whole}
use Rattle.ssr_syntax_types.specs.Literals.{literals}
use Rattle.ssr_syntax_types.specs.Paths.{path_first}

-- the operators of ranges
unfoldable pub ranges : List SyntaxKind
ranges = k.DOT2 ∷ k.DOT2EQ ∷ []

-- what a literal in a pattern begins with
unfoldable pub literal_pat_first : List SyntaxKind
literal_pat_first = k.MINUS ∷ literals

-- what a bound of a range begins with
unfoldable pub bound_first : List SyntaxKind
bound_first = literal_pat_first ++ path_first

-- what other patterns begin with
unfoldable pub pat_marks : List SyntaxKind
pat_marks = k.AMP ∷ k.AMP2 ∷ k.DOT2 ∷ k.DOT2EQ ∷ k.UNDERSCORE ∷ k.L_PAREN ∷ k.L_BRACK ∷ k.REF_KW ∷ k.MUT_KW ∷ []

-- what a pattern begins with, but for a bar
unfoldable pub single_pat_first : List SyntaxKind
single_pat_first = bound_first ++ pat_marks

-- what a pattern begins with
unfoldable pub pat_first : List SyntaxKind
pat_first = k.PIPE ∷ single_pat_first

-- what a parameter begins with; with `true`, where all of Rust is read
unfoldable pub param_first : Bool → List SyntaxKind
param_first is_whole = single_pat_first ++ where_whole is_whole (k.POUND ∷ [])

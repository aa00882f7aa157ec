-- Between brackets: what may stand behind an expression so that no rule looks further.
use Rattle.std.specs.Prelude.{◌-◌, nat_le, Bool, true, false, not, ◌&&◌, ◌||◌, List, [], ◌∷◌, length, take}
use Rattle.ssr_syntax_forms.specs.Kinds.{mem}
use Rattle.ssr_syntax_kinds.specs.declared.kinds.SyntaxKind.{SyntaxKind}
use Rattle.ssr_syntax_kinds.specs.declared.kinds.SyntaxKind.TheVariants as k
use Rattle.ssr_syntax_forms.specs.declared.tokens.Token.{Token}
use Rattle.ssr_syntax_forms.specs.Forms.{END}
use Rattle.ssr_syntax_types.specs.declared.goals.Goal.{Goal}
use Rattle.ssr_syntax_types.specs.declared.goals.Goal.TheVariants.{File, Stmt, Arm, Item, UseTree, Items, Stmts}

-- what is asked for on the way from an expression: no file, item, statement or arm but in braces
abbrev pub is_within : Goal → Bool
is_within = elim [
  | File ↦ false
  | Stmt ↦ false
  | Arm ↦ false
  | Item _ ↦ false
  | UseTree ↦ false
  | Items ↦ false
  | Stmts ↦ false
  | _ ↦ true
]

-- what ends an expression between brackets: nothing, or one of these; no rule on the way from an expression looks for them
abbrev pub delimiters : List SyntaxKind
delimiters = END ∷ k.R_PAREN ∷ k.R_BRACK ∷ k.COMMA ∷ k.SEMICOLON ∷ []

abbrev pub braces : List SyntaxKind
braces = k.L_CURLY ∷ k.R_CURLY ∷ []

-- one of the tokens is a brace
abbrev pub has_brace : List Token → Bool
has_brace [] = false
has_brace (t ∷ ts) = mem t.joined braces || has_brace ts

-- all that each token is joined from is among the tokens, and no brace is
abbrev pub are_whole : List Token → Bool
are_whole [] = true
are_whole (t ∷ ts) = (nat_le (t.size - 1) (length ts) && not (has_brace (take (t.size - 1) ts))) && are_whole ts

-- The marks of a node's children as they are kept: a token is named by its number.
use Rattle.std.specs.Prelude.{◌≡◌}
use Rattle.ssr_syntax_tree.specs.Syntax.{Syntax}
use Rattle.ssr_syntax_tree.specs.Places.{HasToken, token_of}
use Rattle.ssr_syntax_tree.specs.declared.number.TokenNo.{TokenNo}
use Rattle.ssr_standing.specs.declared.marks.Mark.{Mark}
use Rattle.ssr_standing.specs.declared.marks.Mark.TheVariants as stored
use Rattle.ssr_standing.specs.Around as around

-- the mark that a stored one stands for
abbrev pub shown : Syntax → Mark → around.Mark
shown tree (stored.Token t) = around.token_mark (token_of tree t.0)
shown tree stored.Child = around.child_mark
shown tree (stored.Hole n) = around.hole_mark n

-- a token that is named is there
abbrev pub IsMarkOf : Syntax → Mark → Type 0
IsMarkOf tree mark = (t : TokenNo) → mark ≡ stored.Token t → HasToken tree t.0

-- Children without white space and comments.
use Rattle.std.specs.Prelude.{not, List, filter}
use Rattle.ssr_syntax_tree.specs.declared.number.Element.{Element}
use Rattle.ssr_syntax_tree.specs.Places.{part_of}
use Rattle.ssr_syntax_tree.specs.Syntax.{Syntax}
use Rattle.ide_ssr_token_trees.specs.Elements.{is_trivia_part}

abbrev pub without_trivia : Syntax → List Element → List Element
without_trivia tree children = filter (λ child. not (is_trivia_part (part_of tree child))) children

-- What the parser writes of a forest.
use Rattle.std.specs.Prelude.{length}
use Rattle.ssr_syntax_forms.specs.Parser.{Written, token_written, node_written}
use Rattle.ssr_syntax_forms.specs.Trees.{Forest, done, leaf, tree}

-- behind what is written: its joined tokens in order, and each of its nodes behind those below it
abbrev pub writes : Forest → Written → Written
writes done out = out
writes (leaf kind tokens x) out = writes x (token_written kind (length tokens) out)
writes (tree kind kids x) out = writes x (node_written kind (length out.rows) out.place.next (writes kids out))

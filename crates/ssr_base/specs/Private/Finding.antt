-- Private: how the macro call at a range is looked for.
use Rattle.std.specs.Prelude.{ℕ, ◌<◌, ◌≤◌}
use Rattle.ssr_syntax_tree.specs.Syntax.{Syntax}
use Rattle.ssr_syntax_tree.specs.Places.{HasNode, node_of, start_of}

-- the nodes up to before a number begin before a byte
abbrev pub NodesBefore : Syntax → ℕ → ℕ → Type 0
NodesBefore syntax offset count = (n : ℕ) → HasNode syntax n → n < count → start_of syntax (node_of syntax n) < offset

-- the nodes from a number on begin at a byte or behind it
abbrev pub NodesFrom : Syntax → ℕ → ℕ → Type 0
NodesFrom syntax offset count = (n : ℕ) → HasNode syntax n → count ≤ n → offset ≤ start_of syntax (node_of syntax n)

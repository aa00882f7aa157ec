-- Private: the table of a pattern's placeholders.
use Rattle.std.specs.Prelude.{ℕ, List, map, Option}
use Rattle.ssr_syntax_tree.specs.Places.{nodes_of}
use Rattle.ssr_syntax_tree.specs.Syntax.{Syntax}
use Rattle.ide_ssr_resolved_rule.specs.Placeholders.{placeholder_at}

-- which name's stand-in each node of a tree is
abbrev pub placeholders : List (List ℕ) → Syntax → List (Option ℕ)
placeholders names tree = map (placeholder_at names) (nodes_of tree)

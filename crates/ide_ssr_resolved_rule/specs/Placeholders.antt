-- Where placeholders stand in a tree.
use Rattle.std.specs.Prelude.{ℕ, List, map, Option, Some, None}
use Rattle.std.specs.Option.{option_and_then}
use Rattle.ssr_syntax_tree.specs.Places.{Node}
use Rattle.ssr_syntax_tree.specs.Syntax.{Token, Forest, nothing, leaf, branch, Syntax, tokens_of}
use Rattle.ide_ssr_resolved_rule.specs.StandIns.{name_at}

-- the only token of siblings, reached through single children
abbrev pub only_token : Forest → Option Token
only_token nothing = None
only_token (leaf token nothing) = Some token
only_token (leaf token next) = None
only_token (branch kind below nothing) = only_token below
only_token (branch kind below next) = None

-- which name's stand-in a node is: through single children it is only an identifier that spells it
unfoldable pub placeholder_at : List (List ℕ) → Node → Option ℕ
placeholder_at names node = option_and_then (name_at names) (only_token node.children)

-- which name's stand-in each token of a tree is
abbrev pub token_placeholders : List (List ℕ) → Syntax → List (Option ℕ)
token_placeholders names tree = map (name_at names) (tokens_of tree)

-- How a path is put together. It is a segment, or a path, `::` and a segment: the path in front is its qualifier. A path
-- and a segment are told here by what stands below their nodes.
use Rattle.std.specs.Prelude.{ℕ, Bool, true, false, List, [], ◌∷◌, ◌++◌, Option, Some, None, if◌then◌else◌}
use Rattle.std.specs.Option.{option_map, option_map_or, option_and_then}
use Rattle.ssr_syntax_kinds.specs.declared.kinds.SyntaxKind.{SyntaxKind}
use Rattle.ssr_syntax_kinds.specs.declared.kinds.SyntaxKind.TheVariants as k
use Rattle.ssr_syntax_kinds.specs.Kinds.{same_kind}
use Rattle.ssr_syntax_tree.specs.Places.{Node, Part, token_part, node_part}
use Rattle.ssr_syntax_tree.specs.Syntax.{Forest, nothing, leaf, branch, tokens_in, spelled}
pub use Rattle.ssr_syntax_tree.specs.ClearPaths.{is_arguments}

-- what is below the first node of a kind among siblings
abbrev pub below_first : SyntaxKind → Forest → Option Forest
below_first kind nothing = None
below_first kind (leaf token next) = below_first kind next
below_first kind (branch own below next) = if same_kind own kind then Some below else below_first kind next

-- the first node of a kind among the children of a node
abbrev pub first_of_kind : SyntaxKind → List Part → Option Node
first_of_kind kind [] = None
first_of_kind kind (token_part t token ∷ rest) = first_of_kind kind rest
first_of_kind kind (node_part node ∷ rest) = if same_kind node.kind kind then Some node else first_of_kind kind rest

abbrev pub qualifier : Forest → Option Forest
qualifier path = below_first k.PATH path

abbrev pub last_segment : Forest → Option Forest
last_segment path = below_first k.PATH_SEGMENT path

-- the segments of a path, from the left
abbrev pub segments : Forest → List Forest
segments nothing = []
segments (leaf token next) = segments next
segments (branch kind below next) =
    (if same_kind kind k.PATH then segments below else if same_kind kind k.PATH_SEGMENT then below ∷ [] else []) ++ segments next

-- the segments of a path in front of the last one, from the left
unfoldable pub qualifying : Forest → List Forest
qualifying path = option_map_or segments (qualifier path) []

-- the name of the last segment; a type in angle brackets is none
unfoldable pub last_name : Forest → Option (List ℕ)
last_name path =
    option_map (λ name. spelled (tokens_in name)) (option_and_then (below_first k.NAME_REF) (last_segment path))

-- a segment without its generic arguments, or without those in parentheses and the return type behind them
abbrev pub before_arguments : Forest → Forest
before_arguments nothing = nothing
before_arguments (leaf token next) = leaf token (before_arguments next)
before_arguments (branch kind below next) = if is_arguments kind then nothing else branch kind below (before_arguments next)

-- a segment from its arguments on
abbrev pub from_arguments : Forest → Forest
from_arguments nothing = nothing
from_arguments (leaf token next) = from_arguments next
from_arguments (branch kind below next) = if is_arguments kind then branch kind below next else from_arguments next

-- the arguments of a path are those of its last segment
abbrev pub path_arguments : Forest → Forest
path_arguments path = option_map_or from_arguments (last_segment path) nothing

-- a path without the arguments of its last segment
abbrev pub without_arguments : Forest → Forest
without_arguments nothing = nothing
without_arguments (leaf token next) = leaf token (without_arguments next)
without_arguments (branch kind below next) =
    if same_kind kind k.PATH_SEGMENT then branch kind (before_arguments below) next else branch kind below (without_arguments next)

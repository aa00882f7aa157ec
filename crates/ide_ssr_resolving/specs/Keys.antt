-- The key of a path: the texts under which a provider is asked for it, one a segment.
use Rattle.std.specs.Prelude.{ℕ, Bool, false, not, List, [], ◌∷◌, ◌++◌, drop, map, codes, if◌then◌else◌}
use Rattle.std.specs.List.{filter, flat_map, join_by}
use Rattle.std.specs.Option.{option_map_or}
use Rattle.ssr_syntax_kinds.specs.declared.kinds.SyntaxKind.TheVariants as k
use Rattle.ssr_syntax_kinds.specs.Kinds.{same_kind, is_trivia}
use Rattle.ssr_syntax_tree.specs.Syntax.{Token, Forest, tokens_in}
use Rattle.ide_ssr_resolved_rule.specs.Paths.{qualifying, last_segment, before_arguments}

abbrev pub begins_with_colons : List Token → Bool
begins_with_colons [] = false
begins_with_colons (token ∷ tokens) = same_kind token.kind k.COLON2

-- A segment's tokens are one piece of a path. `::` in front of it, as the first segment can have it, is no token of it, but
-- an empty piece.
abbrev pub pieces : List Token → List (List Token)
pieces tokens = if begins_with_colons tokens then [] ∷ drop 1 tokens ∷ [] else tokens ∷ []

-- the pieces of a path: its last segment counts without its arguments
unfoldable pub pieces_of : Forest → List (List Token)
pieces_of path =
    flat_map (λ segment. pieces (tokens_in segment)) (qualifying path)
    ++ option_map_or (λ last. pieces (tokens_in (before_arguments last))) (last_segment path) []

-- the texts of tokens but for trivia, with one space between each two
unfoldable pub spaced : List Token → List ℕ
spaced tokens = join_by (λ text. text) (codes " ") (map (λ token. token.text) (filter (λ token. not (is_trivia token.kind)) tokens))

unfoldable pub key_of : Forest → List (List ℕ)
key_of path = map spaced (pieces_of path)

-- What stands in a tree around the places of its text that are replaced.
use Rattle.std.specs.Prelude.{ℕ, ◌+◌, ◌==◌, ◌&&◌, nat_lt, nat_le, nat_eq, Bool, true, false, List, [], ◌∷◌, ◌++◌, Option, Some, None, flat_map, slice_get, if◌then◌else◌}
use Rattle.std.specs.Option.{option_map_or}
use Rattle.std.specs.Cmp.Lexicographic.{pointwise}
use Rattle.ssr_syntax_kinds.specs.declared.kinds.SyntaxKind.{SyntaxKind}
use Rattle.ssr_syntax_kinds.specs.declared.kinds.SyntaxKind.TheVariants as k
use Rattle.ssr_syntax_kinds.specs.Kinds.{is_trivia, same_kind}
use Rattle.ssr_syntax_tree.specs.Syntax.{Token, Syntax, same_token}
use Rattle.ssr_syntax_tree.specs.Places.{Node, Part, token_part, node_part, nodes_of, parts_of, offset_of, start_of, end_of}
use Rattle.ssr_base_trees.specs.Origins.{Span}

-- a mark of an outline: a node, whose children come next; of these a token, a node whose own mark comes later, or a hole, which has
-- the number of its place
pub data Mark : Type 0 where
  node_mark : SyntaxKind → Mark
  token_mark : Token → Mark
  child_mark : Mark
  hole_mark : ℕ → Mark

-- how many places come before the first one that ends behind a byte
abbrev pub passed : List Span → ℕ → ℕ
passed [] byte = 0
passed (place ∷ places) byte = if nat_lt byte place.end then 0 else passed places byte + 1

-- a place has the bytes from one up to before another
abbrev pub has : ℕ → ℕ → Span → Bool
has start end place = nat_le place.start start && nat_le end place.end

-- the number of the place in which bytes lie: only the first place that ends behind their start can have them
abbrev pub hole_at : List Span → ℕ → ℕ → Option ℕ
hole_at places start end =
    if option_map_or (has start end) (slice_get places (passed places start)) false then Some (passed places start) else None

-- the number of the place in which a part of a tree lies as a whole
abbrev pub hole_of : List Span → Syntax → Part → Option ℕ
hole_of places tree (token_part t token) = hole_at places (offset_of tree t) (offset_of tree (1 + t))
hole_of places tree (node_part node) = hole_at places (start_of tree node) (end_of tree node)

-- white space and comments
abbrev pub is_trivia_part : Part → Bool
is_trivia_part (token_part t token) = is_trivia token.kind
is_trivia_part (node_part node) = false

-- a part that lies in no place
abbrev pub kept : Part → Mark
kept (token_part t token) = token_mark token
kept (node_part node) = child_mark

-- the number of a place, if there is one, is this
abbrev pub is_number : ℕ → Option ℕ → Bool
is_number n before = option_map_or (nat_eq n) before false

-- The mark of a part that lies in this place, behind one that lies in another, if they do. Siblings in one place are holes of their
-- own, or, where they are joined, one hole.
abbrev pub marks_of : Bool → Option ℕ → Option ℕ → Part → List Mark
marks_of joined before None part = kept part ∷ []
marks_of joined before (Some n) part = if joined && is_number n before then [] else hole_mark n ∷ []

-- the marks of siblings behind one that lies in a place, if it does; white space and comments have none
abbrev pub marks_behind : List Span → Syntax → Bool → Option ℕ → List Part → List Mark
marks_behind places tree joined before [] = []
marks_behind places tree joined before (part ∷ rest) =
    if is_trivia_part part
    then marks_behind places tree joined before rest
    else marks_of joined before (hole_of places tree part) part ++ marks_behind places tree joined (hole_of places tree part) rest

-- a macro's brackets hold tokens, of which many may stand for one
abbrev pub holds_tokens : SyntaxKind → Bool
holds_tokens kind = same_kind kind k.TOKEN_TREE

-- a node that lies in no place, and its children
abbrev pub outlined : List Span → Syntax → Node → List Mark
outlined places tree node =
    option_map_or (λ _. [])
    (hole_of places tree (node_part node))
    (node_mark node.kind ∷ marks_behind places tree (holds_tokens node.kind) None (parts_of node))

-- The outline of a tree around places: its nodes that lie in none of them, in order, each with its children.
unfoldable pub around : Syntax → List Span → List Mark
around tree places = flat_map (outlined places tree) (nodes_of tree)

-- whether two marks are the same
abbrev pub same_mark : Mark → Mark → Bool
same_mark (node_mark a) (node_mark b) = same_kind a b
same_mark (token_mark a) (token_mark b) = same_token a b
same_mark child_mark child_mark = true
same_mark (hole_mark m) (hole_mark n) = m == n
same_mark a b = false

-- Whether two trees agree around their places: the outlines are the same.
abbrev pub agree : Syntax → List Span → Syntax → List Span → Bool
agree old olds new news = pointwise same_mark (around old olds) (around new news)

-- The arguments of a call, one child of their list after the other.
use Rattle.std.specs.Prelude.{◌≡◌, ℕ, ◌+◌, Bool, true, false, ◌&&◌, List, [], ◌∷◌, length}
use Rattle.ssr_syntax_kinds.specs.declared.kinds.SyntaxKind.TheVariants as k
use Rattle.ssr_syntax_tree.specs.Syntax.{Syntax}
use Rattle.ssr_syntax_tree.specs.Places.{node_of, token_of}
use Rattle.ssr_syntax_tree.specs.declared.number.Element.{Element}
use Rattle.ssr_syntax_tree.specs.declared.number.Element.TheVariants as element
use Rattle.ssr_syntax_tree.specs.declared.number.TokenNo.{TokenNo}
use Rattle.ssr_syntax_forms.specs.Trees.{Forest, done, leaf, tree, spell}
use Rattle.ssr_syntax_places.specs.Core.{Holes, arguments, is_leaf}
use Rattle.ssr_syntax_places.specs.PlainCore.{forest_in, tokens_like}
use Rattle.ssr_syntax_shorts.specs.declared.arguments.Turn.{Turn}
use Rattle.ssr_syntax_shorts.specs.declared.arguments.Turn.TheVariants as turns
use Rattle.ssr_syntax_shorts.specs.Names.{place_of, AreNames}

-- these siblings may come where it is this turn
abbrev pub accepts : Holes → Turn → ℕ → Forest → Bool
accepts holes turns.Opening at (leaf a us args) = is_leaf holes at (k.L_PAREN ∷ []) a us && arguments holes (at + length us) args
accepts holes turns.Argument at z = arguments holes at z
accepts holes turns.Behind at (leaf b vs done) = is_leaf holes at (k.R_PAREN ∷ []) b vs
accepts holes turns.Behind at (leaf b vs args) = is_leaf holes at (k.COMMA ∷ []) b vs && arguments holes (at + length vs) args
accepts holes turns.Closed at done = true
accepts holes _ at _ = false

-- where a child stands, how many tokens it has, and the siblings with it in front
abbrev pub place_at : Syntax → Element → ℕ
place_at s (element.Token t) = place_of s t.0
place_at s (element.Node n) = place_of s (node_of s n.0).first

abbrev pub count_at : Syntax → Element → ℕ
count_at s (element.Token t) = length (tokens_like (token_of s t.0).kind)
count_at s (element.Node n) = length (spell (forest_in (node_of s n.0).children))

abbrev pub in_front_of : Syntax → Element → Forest → Forest
in_front_of s (element.Token t) rest = leaf (token_of s t.0).kind (tokens_like (token_of s t.0).kind) rest
in_front_of s (element.Node n) rest = tree (node_of s n.0).kind (forest_in (node_of s n.0).children) rest

-- behind a child it is the next turn
abbrev pub IsTurn : Syntax → List TokenNo → Turn → Element → Turn → Type 0
IsTurn s names turn child next =
    (holes : Holes) → AreNames s names holes → (rest : Forest) → accepts holes next (place_at s child + count_at s child) rest ≡ true
    → accepts holes turn (place_at s child) (in_front_of s child rest) ≡ true

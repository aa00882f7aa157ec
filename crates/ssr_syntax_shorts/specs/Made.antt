-- Texts that are put together from parts, in which a piece that is no node stands in parentheses.
use Rattle.std.specs.Prelude.{◌≡◌, ℕ, ◌+◌, ◌&&◌, not, Bool, true, false, if◌then◌else◌, List, [], ◌∷◌, ◌++◌, codes, flat_map, length, Ok}
use Rattle.ssr_syntax_kinds.specs.declared.fragment.Fragment.TheVariants as fragments
use Rattle.ssr_syntax_kinds.specs.declared.reach.Reach.{Reach}
use Rattle.ssr_syntax_tree.specs.Syntax.{Syntax}
use Rattle.ssr_syntax.specs.Reading.{fragment_reading_of, trimmed_front}
use Rattle.ssr_syntax_places.specs.Spans.{has_node_at}
use Rattle.ssr_syntax_shorts.specs.declared.parts.Part.{Part}
use Rattle.ssr_syntax_shorts.specs.declared.parts.Part.TheVariants as parts

-- the text of a part
abbrev pub text_of : Part → List ℕ
text_of (parts.Words text) = text.now
text_of (parts.Piece text) = text.now
text_of (parts.Made made) = made.now

-- whether it is a piece
abbrev pub is_piece : Part → Bool
is_piece (parts.Words text) = false
is_piece (parts.Piece text) = true
is_piece (parts.Made made) = true

-- the parts behind one another
abbrev pub plain_of : List Part → List ℕ
plain_of ps = flat_map text_of ps

-- a text in parentheses, if it is loose
abbrev pub unless_tight : Bool → List ℕ → List ℕ
unless_tight loose text = if loose then codes "(" ++ (text ++ codes ")") else text

-- the part at a place of what was read is a piece and no node
abbrev pub is_loose : Syntax → ℕ → Part → Bool
is_loose syntax at p = is_piece p && not (has_node_at syntax 0 at (at + length (text_of p)))

-- the parts from a place on, each piece that is no node in parentheses
abbrev pub put_together : Syntax → ℕ → List Part → List ℕ
put_together syntax at [] = []
put_together syntax at (p ∷ ps) = unless_tight (is_loose syntax at p) (text_of p) ++ put_together syntax (at + length (text_of p)) ps

-- The parts behind one another are read as an expression, without white space in front. The text is that, with each piece that is no node
-- of it in parentheses.
pub record ArePutTogether (reach : Reach) (ps : List Part) (text : List ℕ) : Type 0 where
  pub syntax : Syntax
  pub front : trimmed_front (plain_of ps) ≡ 0
  pub reads : fragment_reading_of reach fragments.Expr (plain_of ps) ≡ Ok syntax
  pub text_is : text ≡ put_together syntax 0 ps

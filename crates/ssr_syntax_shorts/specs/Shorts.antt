-- Texts kept short: one name stands in the place of what stands in some of their parentheses.
use Rattle.std.specs.Prelude.{◌≡◌, ◌≢◌, ℕ, ◌+◌, ◌-◌, ◌<◌, ◌≤◌, ◌==◌, nat_lt, Bool, true, false, if◌then◌else◌, ⊤, List, [], ◌∷◌, ◌++◌, length, map, max, Ok}
use Rattle.std.specs.Str.{IsUtf8}
use Rattle.ssr_syntax_kinds.specs.declared.fragment.Fragment.TheVariants as fragments
use Rattle.ssr_syntax_kinds.specs.declared.reach.Reach.{Reach}
use Rattle.ssr_syntax_tree.specs.Syntax.{Syntax, depth_of}
use Rattle.ssr_syntax.specs.Reading.{fragment_reading_of, trimmed, trimmed_front, FitsFragmentOf}
use Rattle.ssr_syntax_places.specs.Insides.{with_inside}
use Rattle.ssr_syntax_places.specs.Spans.{has_node_at}
use Rattle.ssr_syntax_shorts.specs.declared.stand_ins.Name.{Name}

-- ** What a short text is.

-- what a name stands for: a text that is read alone as an expression, and its tree
pub record Inside : Type 0 where
  pub text : List ℕ
  pub syntax : Syntax

-- what stands in front of a name up to the parenthesis that opens it, and what the name stands for
pub record Stretch : Type 0 where
  pub front : List ℕ
  pub inside : Inside

-- a short text, its names, and how deep the trees are at most of what these stand for
pub record ShortText : Type 0 where
  pub text : List ℕ
  pub names : List Name
  pub depth : ℕ

-- the name `x`, and `(` in front of it
abbrev pub the_name : List ℕ
the_name = 120 ∷ []

abbrev pub opening : ℕ
opening = 40

-- the text begins with `)`
abbrev pub closes : List ℕ → Bool
closes [] = false
closes (c ∷ cs) = c == 41

-- the short text, and the long one
abbrev pub short_text : List Stretch → List ℕ → List ℕ
short_text [] last = last
short_text (s ∷ ss) last = with_inside s.front opening the_name (short_text ss last)

abbrev pub long_text : List Stretch → List ℕ → List ℕ
long_text [] last = last
long_text (s ∷ ss) last = with_inside s.front opening s.inside.text (long_text ss last)

-- where the names stand in the short text, of which so many bytes stand in front, and the lengths of what they stand for
abbrev pub names_from : ℕ → List Stretch → List Name
names_from at [] = []
names_from at (s ∷ ss) =
    record { at = at + (length s.front + 1); bytes = length s.inside.text } ∷ names_from (at + ((length s.front + 1) + 1)) ss

-- The inside is a text without white space around it that is an expression, with its tree.
pub record IsInside (reach : Reach) (depth : ℕ) (inside : Inside) : Type 0 where
  pub utf8 : IsUtf8 inside.text
  pub alone : trimmed inside.text ≡ inside.text
  pub some : 0 < length inside.text
  pub fits : FitsFragmentOf reach fragments.Expr inside.text inside.syntax
  pub deep : depth_of inside.syntax ≤ depth

-- each name stands in parentheses, for an inside
abbrev pub AreStretches : Reach → ℕ → List Stretch → List ℕ → Type 0
AreStretches reach depth [] last = ⊤
AreStretches reach depth (s ∷ ss) last =
    IsUtf8 s.front × (closes (short_text ss last) ≡ true) × IsInside reach depth s.inside × AreStretches reach depth ss last

-- A short text stands for a long one: that is the short one with each name replaced by what it stands for.
pub record IsShort (reach : Reach) (short : ShortText) (long : List ℕ) : Type 0 where
  pub stretches : List Stretch
  pub last : List ℕ
  pub text_is : short.text ≡ short_text stretches last
  pub names_are : short.names ≡ names_from 0 stretches
  pub long_is : long ≡ long_text stretches last
  pub are : AreStretches reach short.depth stretches last
  pub utf8 : IsUtf8 last

-- ** How one is made.

-- a text as it is
abbrev pub as_it_is : List ℕ → ShortText
as_it_is text = record { text = text; names = []; depth = 0 }

-- a name so many bytes further on
abbrev pub moved : ℕ → Name → Name
moved n name = record { at = n + name.at; bytes = name.bytes }

-- one behind another
abbrev pub joined : ShortText → ShortText → ShortText
joined a b = record {
  text = a.text ++ b.text;
  names = a.names ++ map (moved (length a.text)) b.names;
  depth = max a.depth b.depth;
}

-- a name in parentheses, which stands for so many bytes with a tree of at most this depth
abbrev pub in_parentheses : ℕ → ℕ → ShortText
in_parentheses bytes depth = record {
  text = opening ∷ (the_name ++ (41 ∷ []));
  names = record { at = 1; bytes = bytes } ∷ [];
  depth = depth;
}

-- ** What is read of one.

-- the place of the long text at a place of the short one
abbrev pub long_place : List Name → ℕ → ℕ
long_place [] n = n
long_place (name ∷ names) n = if nat_lt name.at n then (name.bytes - 1) + long_place names n else n

-- the place is neither where a name begins nor where it ends
abbrev pub IsOutside : List Name → ℕ → Type 0
IsOutside [] n = ⊤
IsOutside (name ∷ names) n = (n ≢ name.at) × (n ≢ name.at + 1) × IsOutside names n

-- the tree of a short text, its names, and the length of the long text, the tree of which is at most so deep
pub record ShortRead : Type 0 where
  pub tree : Syntax
  pub names : List Name
  pub depth : ℕ
  pub bytes : ℕ

-- The long text is read as an expression. Bytes of the short text that don't begin or end where a name does are a node
-- exactly if the same bytes of the long one are.
pub record IsReadOf (reach : Reach) (short : ShortRead) (long : List ℕ) : Type 0 where
  pub syntax : Syntax
  pub utf8 : IsUtf8 long
  pub alone : trimmed long ≡ long
  pub front : trimmed_front long ≡ 0
  pub some : 0 < length long
  pub reads : fragment_reading_of reach fragments.Expr long ≡ Ok syntax
  pub deep : depth_of syntax ≤ short.depth
  pub counted : short.bytes ≡ length long
  pub nodes : (from to : ℕ) → from < to → IsOutside short.names from → IsOutside short.names to
      → has_node_at short.tree 0 from to ≡ has_node_at syntax 0 (long_place short.names from) (long_place short.names to)

-- Short texts that are put together from those of parts.
use Rattle.std.specs.Prelude.{◌≡◌, ℕ, ◌+◌, ⊤, List, [], ◌∷◌, ◌++◌, length, map}
use Rattle.ssr_syntax_kinds.specs.declared.reach.Reach.{Reach}
use Rattle.ssr_syntax_shorts.specs.Made.{plain_of, text_of}
use Rattle.ssr_syntax_shorts.specs.Shorts.{ShortText, IsOutside, IsShort, joined, long_place}
use Rattle.ssr_syntax_shorts.specs.declared.joining.Placed.{Placed}
use Rattle.ssr_syntax_shorts.specs.declared.parts.Part.{Part}
use Rattle.ssr_syntax_shorts.specs.declared.stand_ins.Name.{Name}

-- something that is short for this text was pushed
pub record IsPushed (reach : Reach) (text : List ℕ) (old new : ShortText) : Type 0 where
  pub more : ShortText
  pub is : IsShort reach more text
  pub becomes : new ≡ joined old more

-- a place of a short text where two of its halves meet, and the place where those of the long text do
pub record IsSeam (reach : Reach) (short : ShortText) (long : List ℕ) (at_short at_long : ℕ) : Type 0 where
  pub front : ShortText
  pub behind : ShortText
  pub long_front : List ℕ
  pub long_behind : List ℕ
  pub short_is : short ≡ joined front behind
  pub long_is : long ≡ long_front ++ long_behind
  pub is_front : IsShort reach front long_front
  pub is_behind : IsShort reach behind long_behind
  pub short_at : at_short ≡ length front.text
  pub long_at : at_long ≡ length long_front

-- a place of a short text that is outside of all names, and the same place of the long text
pub record IsAt (names : List Name) (at_short at_long : ℕ) : Type 0 where
  pub outside : IsOutside names at_short
  pub place : long_place names at_short ≡ at_long

-- each part begins and ends at its places; the first begins at this place of the long text
abbrev pub ArePlaced : (ℕ → ℕ → Type 0) → ℕ → List Placed → Type 0
ArePlaced At at [] = ⊤
ArePlaced At at (p ∷ ps) =
    At p.from at × At p.to (at + length (text_of p.part)) × ArePlaced At (at + length (text_of p.part)) ps

-- the parts alone
abbrev pub parts_of : List Placed → List Part
parts_of ps = map (λ (p : Placed). p.part) ps

-- the short text of all parts, in which each has its places
pub record AreJoined (reach : Reach) (ps : List Part) (short : ShortText) (placed : List Placed) : Type 0 where
  pub is : IsShort reach short (plain_of ps)
  pub parts_are : parts_of placed ≡ ps
  pub places : ArePlaced (IsSeam reach short (plain_of ps)) 0 placed

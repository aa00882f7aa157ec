-- Texts with several insides, each behind a character that opens it and in front of one that closes it.
use Rattle.std.specs.Prelude.{◌≡◌, ℕ, ◌+◌, Bool, true, false, ⊤, List, [], ◌∷◌, ◌++◌, length, Some}
use Rattle.std.specs.Str.{IsUtf8}
use Rattle.ssr_syntax_lex.specs.Seams.{has_token_at, is_seam}
use Rattle.ssr_syntax_lex.specs.Tokens.{tokens}
use Rattle.ssr_syntax_lex.specs.declared.tokens.RawToken.{RawToken}
use Rattle.ssr_syntax_tree.specs.Syntax as plain
use Rattle.ssr_syntax_forms.specs.declared.tokens.Token.{Token}
use Rattle.ssr_syntax_rows.specs.Solid.{solid_tokens, pieces}
use Rattle.ssr_syntax_places.specs.Core.{Hole, Holes, are_spelled, is_single}
use Rattle.ssr_syntax_places.specs.Insides.{with_inside, IsLexed}

-- what stands in front, the character that opens the inside, the inside, and the tokens of both
pub record Part : Type 0 where
  pub front : List ℕ
  pub opening : ℕ
  pub inside : List ℕ
  pub before : List RawToken
  pub within : List RawToken

-- the text of some parts and what stands behind them
abbrev pub woven : List Part → List ℕ → List ℕ
woven [] last = last
woven (p ∷ ps) last = with_inside p.front p.opening p.inside (woven ps last)

abbrev pub begins_seam : List ℕ → Bool
begins_seam [] = false
begins_seam (c ∷ cs) = is_seam c

-- each part is lexed by itself, and behind each inside stands a bracket, a comma or a `;`
abbrev pub AreWoven : List Part → List ℕ → Type 0
AreWoven [] last = ⊤
AreWoven (p ∷ ps) last =
    IsUtf8 p.front × (is_seam p.opening ≡ true) × IsLexed (p.front ++ p.opening ∷ []) p.before × IsLexed p.inside p.within
    × (begins_seam (woven ps last) ≡ true) × AreWoven ps last

-- the solid tokens of the parts, and those behind them
abbrev pub solid_parts : List Part → List Token → List Token
solid_parts [] after = after
solid_parts (p ∷ ps) after = solid_tokens p.before ++ (solid_tokens p.within ++ solid_parts ps after)

abbrev pub pieces_parts : List Part → List plain.Token → List plain.Token
pieces_parts [] after = after
pieces_parts (p ∷ ps) after = pieces (p.front ++ p.opening ∷ []) p.before ++ (pieces p.inside p.within ++ pieces_parts ps after)

-- Parts of which each inside is one name, and the same parts with other insides: each name stands for an expression with
-- the tokens of the other inside, and no other token stands for anything. `at` is the number of the first token.
abbrev pub StandFor : Holes → ℕ → List Part → List Part → List Token → Type 0
StandFor holes at [] [] after = are_spelled holes at after ≡ true
StandFor holes at [] (q ∷ qs) after = ⊥
StandFor holes at (p ∷ ps) [] after = ⊥
StandFor holes at (p ∷ ps) (q ∷ qs) after =
    (hole : Hole)
    × (solid_tokens p.before ≡ solid_tokens q.before)
    × (are_spelled holes at (solid_tokens p.before) ≡ true)
    × (is_single (solid_tokens p.within) ≡ true)
    × (holes (at + length (solid_tokens p.before)) ≡ Some hole)
    × (hole.tokens ≡ solid_tokens q.within)
    × StandFor holes ((at + length (solid_tokens p.before)) + 1) ps qs after

-- ** Cuts.

-- the texts of a part
pub record Cut : Type 0 where
  pub front : List ℕ
  pub opening : ℕ
  pub inside : List ℕ

abbrev pub cut_text : List Cut → List ℕ → List ℕ
cut_text [] last = last
cut_text (c ∷ cs) last = with_inside c.front c.opening c.inside (cut_text cs last)

abbrev pub cuts_of : List Part → List Cut
cuts_of [] = []
cuts_of (p ∷ ps) = record { front = p.front; opening = p.opening; inside = p.inside } ∷ cuts_of ps

-- Each inside of a text stands between two brackets, commas or `;`, and both are tokens of the text. `at` bytes stand in front.
abbrev pub AreCuts : ℕ → List RawToken → List Cut → List ℕ → Type 0
AreCuts at raw [] last = ⊤
AreCuts at raw (c ∷ cs) last =
    IsUtf8 c.front × IsUtf8 c.inside × (is_seam c.opening ≡ true) × (begins_seam (cut_text cs last) ≡ true)
    × (has_token_at (at + length c.front) raw ≡ true)
    × (has_token_at (at + ((length c.front + 1) + length c.inside)) raw ≡ true)
    × AreCuts (at + ((length c.front + 1) + length c.inside)) raw cs last

-- the parts of a text that is cut there
pub record AreCut (cs : List Cut) (last : List ℕ) : Type 0 where
  pub parts : List Part
  pub after : List RawToken
  pub texts : cuts_of parts ≡ cs
  pub are : AreWoven parts last
  pub lexes : tokens last ≡ Some after

-- the same parts with other insides, each lexed by itself
abbrev pub AreReplaced : List Part → List Part → Type 0
AreReplaced [] [] = ⊤
AreReplaced [] (q ∷ qs) = ⊥
AreReplaced (p ∷ ps) [] = ⊥
AreReplaced (p ∷ ps) (q ∷ qs) =
    (p.front ≡ q.front) × (p.opening ≡ q.opening) × (p.before ≡ q.before) × IsLexed q.inside q.within × AreReplaced ps qs

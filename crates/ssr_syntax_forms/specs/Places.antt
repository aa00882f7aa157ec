-- Where the parser is in a text: which token of the grammar comes next, what its number is among all tokens of the tree,
-- and which of the text's tokens are left.
use Rattle.std.specs.Prelude.{ℕ, zero, suc, ◌+◌, ◌==◌, ◌&&◌, if◌then◌else◌, Bool, false, List, [], ◌∷◌}
use Rattle.ssr_syntax_kinds.specs.declared.kinds.SyntaxKind.{SyntaxKind}
use Rattle.ssr_syntax_kinds.specs.Kinds.{is_trivia, same_kind}

-- how many of the kinds in front are white space and comments
abbrev pub leading : List SyntaxKind → ℕ
leading [] = 0
leading (k ∷ ks) = if is_trivia k then 1 + leading ks else 0

-- what is behind them
abbrev pub behind_trivia : List SyntaxKind → List SyntaxKind
behind_trivia [] = []
behind_trivia (k ∷ ks) = if is_trivia k then behind_trivia ks else k ∷ ks

-- what is behind so many solid tokens, which are neither white space nor comments
abbrev pub behind_solid : ℕ → List SyntaxKind → List SyntaxKind
behind_solid n [] = []
behind_solid zero (k ∷ ks) = k ∷ ks
behind_solid (suc n) (k ∷ ks) = behind_solid (if is_trivia k then suc n else n) ks

-- Between two tokens of the grammar: the number past the one in front, 0 where there is none; the number of the one behind,
-- that of all tokens where there is none; and the kinds of the text's tokens from that one on. The numbers are those of the
-- tree, where white space and comments are tokens too.
pub record Place : Type 0 where
  pub end : ℕ
  pub next : ℕ
  pub kinds : List SyntaxKind

-- in front of tokens of these kinds, with so many tokens of the tree to the left
abbrev pub place_at : ℕ → List SyntaxKind → Place
place_at end ks = record { end = end; next = end + leading ks; kinds = behind_trivia ks }

-- behind the next token of the grammar, which is joined from so many solid ones of the text
abbrev pub behind_token : ℕ → Place → Place
behind_token size p = place_at (1 + p.next) (behind_solid size p.kinds)

-- The next token of the grammar is one of the text as it is: of this kind, and no other is joined to it.
abbrev pub is_alone : SyntaxKind → ℕ → List SyntaxKind → Bool
is_alone kind size [] = false
is_alone kind size (k ∷ ks) = same_kind k kind && size == 1

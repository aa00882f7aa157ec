-- What the tree of a short text has to be for the long text to be told by it.
use Rattle.std.specs.Prelude.{◌≡◌, ℕ, ◌+◌, ◌-◌, ◌≤◌, nat_lt, if◌then◌else◌, ◌&&◌, not, true, false, List, map, All, count_by, Some}
use Rattle.ssr_syntax_kinds.specs.Kinds.{is_trivia, same_kind}
use Rattle.ssr_syntax_kinds.specs.declared.kinds.SyntaxKind.{SyntaxKind}
use Rattle.ssr_syntax_kinds.specs.declared.kinds.SyntaxKind.TheVariants as k
use Rattle.ssr_syntax_lex.specs.Seams.{has_token_at}
use Rattle.ssr_syntax_lex.specs.Tokens.{tokens}
use Rattle.ssr_syntax_lex.specs.declared.tokens.RawToken.{RawToken}
use Rattle.ssr_syntax_tree.specs.Syntax.{Syntax, most_deep}
use Rattle.ssr_syntax_tree.specs.Places.{HasNode, depth_at, node_of, token_of}
use Rattle.ssr_syntax_tree.specs.declared.number.TokenNo.{TokenNo}
use Rattle.ssr_syntax_places.specs.Core.{Holes}
use Rattle.ssr_syntax_places.specs.PlainCore.{is_core_tree}
use Rattle.ssr_syntax_shorts.specs.Names.{place_of, AreNames}
use Rattle.ssr_syntax_shorts.specs.Shorts.{ShortText, ShortRead}
use Rattle.ssr_syntax_shorts.specs.declared.stand_ins.Name.{Name}

-- the characters beside a name are tokens of the text
abbrev pub IsCut : List RawToken → Name → Type 0
IsCut raw name = (has_token_at (name.at - 1) raw ≡ true) × (has_token_at (name.at + 1) raw ≡ true)

-- how many tokens begin in front of a byte, without white space and comments
abbrev pub solid_before : ℕ → List RawToken → ℕ
solid_before byte raw = count_by (λ t. not (is_trivia t.kind) && nat_lt t.range.start byte) raw

-- the token is neither white space nor a comment
abbrev pub IsSolidAt : Syntax → TokenNo → Type 0
IsSolidAt syntax t = is_trivia (token_of syntax t.0).kind ≡ false

-- the names are tokens of a tree, with the numbers that they have among the raw tokens
pub record AreTokens (syntax : Syntax) (raw : List RawToken) (names : List Name) (numbers : List TokenNo) : Type 0 where
  pub cuts : All (IsCut raw) names
  pub solid : All (IsSolidAt syntax) numbers
  pub same : map (λ (t : TokenNo). place_of syntax t.0) numbers ≡ map (λ name. solid_before name.at raw) names

-- how deep a tree is at most that stands in the place of a node of this kind, where each path stands for one so deep
abbrev pub depth_below : ℕ → SyntaxKind → ℕ
depth_below depth kind = if same_kind kind k.PATH_EXPR then depth else 0

-- No node is deeper than `most`, and with trees so deep in the places of paths none is either.
abbrev pub IsFilledWithin : ℕ → Syntax → ℕ → Type 0
IsFilledWithin depth syntax most = (n : ℕ) → HasNode syntax n → depth_at syntax n + depth_below depth (node_of syntax n).kind ≤ most

-- The tree is core, with names in parentheses that are tokens, and the long text's tree isn't too deep.
pub record IsTold (short : ShortText) (read : ShortRead) : Type 0 where
  pub names_are : read.names ≡ short.names
  pub raw : List RawToken
  pub lexes : tokens short.text ≡ Some raw
  pub numbers : List TokenNo
  pub are : AreTokens read.tree raw short.names numbers
  pub is_core : (holes : Holes) → AreNames read.tree numbers holes → is_core_tree holes false 12 read.tree ≡ true
  pub deep : IsFilledWithin short.depth read.tree read.depth
  pub shallow : read.depth ≤ most_deep

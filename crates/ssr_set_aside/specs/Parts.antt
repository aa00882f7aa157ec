-- The parts of a text that are set aside.
use Rattle.std.specs.Prelude.{ℕ, ◌≡◌, ◌≢◌, ◌+◌, ◌<◌, ◌++◌, IsTrue, not, List, [], ◌∷◌, length, drop, filter, Some, Ok, slice_get, slice_range}
use Rattle.ssr_syntax_kinds.specs.Kinds.{is_trivia}
use Rattle.ssr_syntax_kinds.specs.declared.reach.Reach.TheVariants.{Whole}
use Rattle.ssr_syntax_lex.specs.declared.tokens.RawToken.{RawToken}
use Rattle.ssr_syntax_lex.specs.Tokens as lexer
use Rattle.ssr_syntax_tree.specs.Syntax.{Syntax}
use Rattle.ssr_syntax.specs.Reading.{file_reading_of}
use Rattle.ssr_base_trees.specs.Changes.{Change}
use Rattle.ssr_base_trees.specs.Origins.{Span}
use Rattle.ssr_drafts.specs.declared.form.Form.{Form}
use Rattle.ssr_drafts.specs.declared.units.UnitKind.{UnitKind}
use Rattle.ssr_drafts.specs.Forms.{word_of}
use Rattle.ssr_drafts.specs.Units.{front_of, back_of}
use Rattle.ssr_set_aside.specs.Fronts.{bare, blanked}
use Rattle.ssr_set_aside.specs.Fronts as fronts
use Rattle.ssr_set_aside.specs.Forms.{is_of}

-- the tokens that are neither white space nor comments
abbrev pub solid : List RawToken → List RawToken
solid tokens = filter (λ token. not (is_trivia token.kind)) tokens

-- a word, and blanks for the further bytes of a text
abbrev pub filled : List ℕ → List ℕ → List ℕ
filled word old = word ++ blanked (drop (length word) old)

-- a change leaves blanks for what stands in front of all tokens
pub record IsFront (text : List ℕ) (c : Change) : Type 0 where
  pub start : c.start ≡ 0
  pub end : c.end ≡ length (fronts.front text)
  pub blank : c.text ≡ blanked (fronts.front text)

-- a change of the token at a place, as one of a form: of the whole token, and it leaves the form's word and blanks
pub record IsToken (text : List ℕ) (tokens : List RawToken) (place : ℕ) (form : Form) (c : Change) : Type 0 where
  pub token : RawToken
  pub stands : slice_get tokens place ≡ Some token
  pub may_go : IsTrue (is_of form tokens place)
  pub start : c.start ≡ token.range.start
  pub end : c.end ≡ token.range.end
  pub filled : c.text ≡ filled (word_of form) (lexer.token_text text token)

-- the bytes from the beginning of the token at one place to the end of the last token in front of another place
pub record AreBytes (tokens : List RawToken) (from to : ℕ) (bytes : Span) : Type 0 where
  pub first : RawToken
  pub begins : slice_get tokens from ≡ Some first
  pub start : bytes.start ≡ first.range.start
  pub before : ℕ
  pub follows : before + 1 ≡ to
  pub last : RawToken
  pub ends : slice_get tokens before ≡ Some last
  pub end : bytes.end ≡ last.range.end

-- a text is no file of the whole reach
abbrev pub IsUnread : List ℕ → Type 0
IsUnread text = (syntax : Syntax) → file_reading_of Whole text ≢ Ok syntax

-- a text as a unit of a kind, alone in a file
abbrev pub alone : UnitKind → List ℕ → List ℕ
alone kind text = front_of kind ++ (text ++ back_of kind)

-- a unit, from one token up to before another, isn't read as it stands
pub record IsUnit (text : List ℕ) (tokens : List RawToken) (kind : UnitKind) (from to : ℕ) : Type 0 where
  pub some : from < to
  pub bytes : Span
  pub are_bytes : AreBytes tokens from to bytes
  pub unread : IsUnread (alone kind (slice_range text bytes.start bytes.end))

-- units that aren't read, one behind the other, from one token up to before another: between two of them are white space and comments
pub data AreUnits (text : List ℕ) (tokens : List RawToken) : ℕ → ℕ → Type 0 where
  no_unit : (at : ℕ) → AreUnits text tokens at at
  unit : (kind : UnitKind) (from middle to : ℕ) → IsUnit text tokens kind from middle → AreUnits text tokens middle to → AreUnits text tokens from to

-- a change leaves blanks for these bytes, which are those of such units
pub record IsRun (text : List ℕ) (tokens : List RawToken) (bytes : Span) (c : Change) : Type 0 where
  pub from : ℕ
  pub to : ℕ
  pub units : AreUnits text tokens from to
  pub are_bytes : AreBytes tokens from to bytes
  pub start : c.start ≡ bytes.start
  pub end : c.end ≡ bytes.end
  pub blank : c.text ≡ blanked (slice_range text bytes.start bytes.end)

-- Each change is one of the front, of a token, or of units that aren't read. The bytes of the last are those that aren't searched.
-- `plain` is the text that the tokens are of.
pub data AreOfTokens (text plain : List ℕ) (tokens : List RawToken) : List Change → List Span → Type 0 where
  no_part : AreOfTokens text plain tokens [] []
  of_front : (c : Change) (cs : List Change) (spans : List Span) → IsFront text c → AreOfTokens text plain tokens cs spans
      → AreOfTokens text plain tokens (c ∷ cs) spans
  of_token : (c : Change) (cs : List Change) (spans : List Span) (place : ℕ) (form : Form) → IsToken plain tokens place form c
      → AreOfTokens text plain tokens cs spans → AreOfTokens text plain tokens (c ∷ cs) spans
  of_units : (c : Change) (cs : List Change) (span : Span) (spans : List Span) → IsRun plain tokens span c → AreOfTokens text plain tokens cs spans
      → AreOfTokens text plain tokens (c ∷ cs) (span ∷ spans)

-- tokens are those of a text with blanks for its front, without white space and comments
pub record AreTokens (text : List ℕ) (tokens : List RawToken) : Type 0 where
  pub raw : List RawToken
  pub lexed : lexer.tokens (bare text) ≡ Some raw
  pub are_solid : tokens ≡ solid raw

-- what is set aside of a text, and what isn't searched: nothing, or parts by its tokens
pub data AreParts (text : List ℕ) : List Change → List Span → Type 0 where
  no_parts : AreParts text [] []
  parts : (tokens : List RawToken) (cs : List Change) (spans : List Span) → AreTokens text tokens
      → AreOfTokens text (bare text) tokens cs spans → AreParts text cs spans

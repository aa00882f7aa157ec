-- The reading of what a macro call stands for: tokens that are handed in, each with its text and whether it is joint.
use Rattle.std.specs.Prelude.{◌≡◌, ℕ, ◌+◌, ◌^◌, ◌<◌, ◌≤◌, if◌then◌else◌, List, [], ◌∷◌, length, flat_map, string_bytes, Result, Ok, Err}
use Rattle.ssr_syntax_kinds.specs.declared.kinds.SyntaxKind.{SyntaxKind}
use Rattle.ssr_syntax_lex.specs.declared.tokens.RawToken.{RawToken}
use Rattle.ssr_syntax_kinds.specs.Kinds.{is_trivia}
use Rattle.ssr_syntax_lex.specs.Tokens.{range_of}
use Rattle.ssr_syntax_tree.specs.Syntax as plain
use Rattle.ssr_syntax_tree.specs.Syntax.{Syntax, depth_of, source_of, most_deep}
use Rattle.ssr_syntax_types.specs.declared.goals.Goal.{Goal}
use Rattle.ssr_syntax_types.specs.declared.goals.Goal.TheVariants as goals
use Rattle.ssr_syntax_types.specs.declared.goals.ExprPlace.TheVariants.{Anywhere}
use Rattle.ssr_syntax.specs.declared.expansions.ExpToken.{ExpToken}
use Rattle.ssr_syntax.specs.declared.expansions.ExpansionKind.{ExpansionKind}
use Rattle.ssr_syntax.specs.declared.expansions.ExpansionKind.TheVariants as expansions
use Rattle.ssr_syntax.specs.declared.syntax_error.SyntaxError.{SyntaxError}
use Rattle.ssr_syntax.specs.declared.syntax_error.SyntaxError.TheVariants as errors
use Rattle.ssr_syntax_rows.specs.Lossless.{IsTrimmed}
use Rattle.ssr_syntax_kinds.specs.declared.reach.Reach.{Reach}
use Rattle.ssr_syntax_kinds.specs.declared.reach.Reach.TheVariants.{Stated}
use Rattle.ssr_syntax.specs.Reading.{tree_reading, lexed_reading, short_reading, FitsTokens}

-- the text that tokens spell
abbrev pub expansion_text : List ExpToken → List ℕ
expansion_text tokens = flat_map (λ t. string_bytes t.text) tokens

-- what is done with an answer; a refusal stays
abbrev pub unless_refused : {A B : Type 0} → (A → Result B SyntaxError) → Result A SyntaxError → Result B SyntaxError
unless_refused go_on (Ok answer) = go_on answer
unless_refused go_on (Err e) = Err e

-- the kind of one token; several, none, white space and a comment are refused
abbrev pub kind_of_one : List RawToken → Result SyntaxKind SyntaxError
kind_of_one [] = Err errors.NoTree
kind_of_one (t ∷ []) = if is_trivia t.kind then Err errors.NoTree else Ok t.kind
kind_of_one (t ∷ (u ∷ ts)) = Err errors.NoTree

-- the kind of the one token that a text is
abbrev pub lone_kind : List ℕ → Result SyntaxKind SyntaxError
lone_kind text = lexed_reading kind_of_one text

-- a token of this kind that begins at the byte `start`
abbrev pub raw_token : ℕ → ExpToken → SyntaxKind → RawToken
raw_token start t kind = record { kind = kind; range = range_of start (length (string_bytes t.text)); joint = t.joint }

-- the raw tokens that are handed in, of which the first begins at the byte `start`, or why the first text that is no token is
-- refused
abbrev pub raw_from : ℕ → List ExpToken → Result (List RawToken) SyntaxError
raw_from start [] = Ok []
raw_from start (t ∷ ts) =
    unless_refused
    (λ kind. unless_refused (λ raw. Ok (raw_token start t kind ∷ raw)) (raw_from (start + length (string_bytes t.text)) ts))
    (lone_kind (string_bytes t.text))

abbrev pub goal_of_expansion : ExpansionKind → Goal
goal_of_expansion expansions.Expr = goals.Expr Anywhere
goal_of_expansion expansions.Items = goals.Items
goal_of_expansion expansions.Stmts = goals.Stmts

unfoldable pub expansion_reading_of : Reach → ExpansionKind → List ExpToken → Result Syntax SyntaxError
expansion_reading_of reach kind tokens =
    short_reading
    (unless_refused (tree_reading reach (goal_of_expansion kind) (expansion_text tokens)) (raw_from 0 tokens))
    (expansion_text tokens)

unfoldable pub expansion_reading : ExpansionKind → List ExpToken → Result Syntax SyntaxError
expansion_reading kind tokens = expansion_reading_of Stated kind tokens

-- ** What fits tokens: no order of reading is in it.

abbrev pub FitsExpansionOf : Reach → ExpansionKind → List ExpToken → Syntax → Type 0
FitsExpansionOf reach kind tokens syntax =
    (raw : List RawToken) × (raw_from 0 tokens ≡ Ok raw) × FitsTokens reach (goal_of_expansion kind) (expansion_text tokens) raw syntax

abbrev pub FitsExpansion : ExpansionKind → List ExpToken → Syntax → Type 0
FitsExpansion kind tokens syntax = FitsExpansionOf Stated kind tokens syntax

-- what is known of the trees of tokens
pub record IsTreeOfExpansionOf (reach : Reach) (kind : ExpansionKind) (tokens : List ExpToken) (syntax : Syntax) : Type 0 where
  pub short : length (expansion_text tokens) < 2 ^ 32
  pub fits : FitsExpansionOf reach kind tokens syntax
  pub spells : source_of syntax ≡ expansion_text tokens
  pub shallow : depth_of syntax ≤ most_deep
  pub trimmed_nodes : IsTrimmed (plain.branch syntax.kind syntax.children plain.nothing)

abbrev pub IsTreeOfExpansion : ExpansionKind → List ExpToken → Syntax → Type 0
IsTreeOfExpansion kind tokens syntax = IsTreeOfExpansionOf Stated kind tokens syntax

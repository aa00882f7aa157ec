-- The reading of a list of tokens and of a text, and what fits a text. What names no reach is of the stated language.
use Rattle.std.specs.Prelude.{◌≡◌, ◌≢◌, ℕ, ◌+◌, ◌-◌, ◌^◌, ◌<◌, ◌≤◌, nat_lt, true, false, ◌&&◌, if◌then◌else◌, List, [], ◌∷◌, length, reverse, Some, None, Result, Ok, Err}
use Rattle.std.specs.Borrow.{Bor}
use Rattle.std.specs.Str.{IsUtf8, trim, trim_start}
use Rattle.ssr_syntax_kinds.specs.declared.kinds.SyntaxKind.{SyntaxKind}
use Rattle.ssr_syntax_lex.specs.declared.tokens.RawToken.{RawToken}
use Rattle.ssr_syntax_lex.specs.Tokens.{tokens}
use Rattle.ssr_syntax_tree.specs.Syntax as plain
use Rattle.ssr_syntax_tree.specs.Syntax.{Syntax, depth_of, source_of, most_deep}
use Rattle.ssr_syntax_types.specs.declared.goals.Goal.TheVariants as goals
use Rattle.ssr_syntax_types.specs.declared.goals.ExprPlace.TheVariants.{Anywhere}
use Rattle.ssr_syntax_types.specs.declared.goals.ItemPlace.TheVariants.{InModule}
use Rattle.ssr_syntax_types.specs.declared.goals.PatPlace.TheVariants.{TopLevel}
use Rattle.ssr_syntax_kinds.specs.declared.fragment.Fragment.{Fragment}
use Rattle.ssr_syntax_kinds.specs.declared.fragment.Fragment.TheVariants as fragments
use Rattle.ssr_syntax.specs.declared.syntax_error.SyntaxError.{SyntaxError}
use Rattle.ssr_syntax.specs.declared.syntax_error.SyntaxError.TheVariants as errors
use Rattle.ssr_syntax_forms.specs.declared.tokens.Token.{Token}
use Rattle.ssr_syntax_types.specs.declared.goals.Goal.{Goal}
use Rattle.ssr_syntax_forms.specs.declared.fault.Fault.{Fault}
use Rattle.ssr_syntax_forms.specs.Trees.{Forest, done, leaf, tree}
use Rattle.ssr_syntax_forms.specs.Fitting.{Fits}
use Rattle.ssr_syntax_forms.specs.Forms.{SoFar, ◌>>=◌}
use Rattle.ssr_syntax_forms.specs.Levels.{read_goal}
use Rattle.ssr_syntax_forms.specs.declared.fault.Fault.TheVariants as faults
use Rattle.ssr_syntax_kinds.specs.declared.reach.Reach.{Reach}
use Rattle.ssr_syntax_kinds.specs.declared.reach.Reach.TheVariants.{Stated}
use Rattle.ssr_syntax.specs.Grammar.{grammar_of}
use Rattle.ssr_syntax_rows.specs.Solid.{solid_tokens, pieces, begins_solid}
use Rattle.ssr_syntax_rows.specs.Lossless.{whole_tree, IsTrimmed}
use Rattle.ssr_syntax_rows.specs.MacroRules.{misnames_macros}

-- A tree is read where no more nodes than these stand above one another: the root, and 1,024 below it.
abbrev pub most_high : ℕ
most_high = 1 + most_deep

-- How many levels of goals are read. Each level but the first stands below a node.
abbrev pub most_levels : ℕ
most_levels = 1 + most_high

-- a tree, if no token is left
abbrev pub whole : SoFar → Result Forest Fault
whole r = elim r.rest [ [] ↦ Ok r.made | t ∷ ts ↦ Err faults.NoTree ]

unfoldable pub reading : Reach → Goal → List Token → Result Forest Fault
reading reach goal tokens = read_goal (grammar_of reach) most_levels goal tokens >>= whole

-- ** The reading of a text.

abbrev pub error_of : Fault → SyntaxError
error_of faults.NoTree = errors.NoTree
error_of faults.TooDeep = errors.TooDeep
error_of faults.Memory = errors.Memory

abbrev pub unless_misnamed : Syntax → Result Syntax SyntaxError
unless_misnamed syntax = if misnames_macros syntax then Err errors.NoTree else Ok syntax

abbrev pub unless_too_deep : Syntax → Result Syntax SyntaxError
unless_too_deep syntax = if nat_lt most_deep (depth_of syntax) then Err errors.TooDeep else unless_misnamed syntax

-- one tree, with all tokens of the text
abbrev pub one_tree : Forest → List plain.Token → Result Syntax SyntaxError
one_tree done ts = Err errors.NoTree
one_tree (leaf kind us next) ts = Err errors.NoTree
one_tree (tree kind kids done) ts = unless_too_deep (whole_tree kind kids ts)
one_tree (tree kind kids (leaf k us next)) ts = Err errors.NoTree
one_tree (tree kind kids (tree k below next)) ts = Err errors.NoTree

abbrev pub tree_reading : Reach → Goal → List ℕ → List RawToken → Result Syntax SyntaxError
tree_reading reach goal text raw =
    elim (reading reach goal (solid_tokens raw)) [ Ok z ↦ one_tree z (pieces text raw) | Err e ↦ Err (error_of e) ]

-- what is read of a text by its tokens; nothing where it has none
abbrev pub lexed_reading : {A : Type 0} → (List RawToken → Result A SyntaxError) → List ℕ → Result A SyntaxError
lexed_reading read text = elim (tokens text) [ None ↦ Err errors.Lex | Some raw ↦ read raw ]

-- what is read of a text shorter than 2^32 bytes; any other one is refused
abbrev pub short_reading : Result Syntax SyntaxError → List ℕ → Result Syntax SyntaxError
short_reading read text = if nat_lt (length text) (2 ^ 32) then read else Err errors.TooLong

-- a file: white space and comments around it are children of its root
unfoldable pub file_reading_of : Reach → List ℕ → Result Syntax SyntaxError
file_reading_of reach text = short_reading (lexed_reading (tree_reading reach goals.File text) text) text

unfoldable pub file_reading : List ℕ → Result Syntax SyntaxError
file_reading text = file_reading_of Stated text

-- a text without the white space around it, and how many bytes of it stood in front
abbrev pub trimmed : List ℕ → List ℕ
trimmed text = trim text

abbrev pub trimmed_front : List ℕ → ℕ
trimmed_front text = length text - length (trim_start text)

abbrev pub goal_of : Fragment → Goal
goal_of fragments.Expr = goals.Expr Anywhere
goal_of fragments.Ty = goals.Ty
goal_of fragments.Item = goals.Item InModule
goal_of fragments.Pat = goals.Pat TopLevel
goal_of fragments.Stmt = goals.Stmt

-- a fragment, around which no comment stands
abbrev pub fragment_of : Reach → Fragment → List ℕ → Result Syntax SyntaxError
fragment_of reach fragment text =
    lexed_reading
    (λ raw. if begins_solid raw && begins_solid (reverse raw) then tree_reading reach (goal_of fragment) text raw else Err errors.NoTree)
    text

unfoldable pub fragment_reading_of : Reach → Fragment → List ℕ → Result Syntax SyntaxError
fragment_reading_of reach fragment text = short_reading (fragment_of reach fragment (trimmed text)) text

unfoldable pub fragment_reading : Fragment → List ℕ → Result Syntax SyntaxError
fragment_reading fragment text = fragment_reading_of Stated fragment text

-- ** Texts that are lexed to be read as fragments.

-- why a text has no tokens; want of memory says that the text isn't too long, and nothing else
abbrev pub IsLexFault : List ℕ → SyntaxError → Type 0
IsLexFault text errors.Lex = (length text < 2 ^ 32) × (tokens text ≡ None)
IsLexFault text errors.TooLong = 2 ^ 32 ≤ length text
IsLexFault text errors.Memory = length text < 2 ^ 32
IsLexFault text errors.NoTree = ⊥
IsLexFault text errors.TooDeep = ⊥

-- a text that is kept with the tokens that it has without the white space around it, or why it has none
abbrev pub IsLexedTrimmed : List ℕ → Result (List ℕ) SyntaxError → Type 0
IsLexedTrimmed text (Ok lexed) =
    (lexed ≡ text) × (length (trimmed text) < 2 ^ 32) × ((raw : List RawToken) × (tokens (trimmed text) ≡ Some raw))
IsLexedTrimmed text (Err e) = IsLexFault (trimmed text) e

-- a token, told by its kind and its text
abbrev pub as_token : SyntaxKind × Bor (List ℕ) → plain.Token
as_token token = record { kind = token.0; text = token.1.now }

-- ** What the calls answer.

-- an error is the reading's; want of memory says that the text isn't too long, and nothing else
abbrev pub Refuses : SyntaxError → Result Syntax SyntaxError → List ℕ → Type 0
Refuses e read text = (e ≡ errors.Memory → length text < 2 ^ 32) × (e ≢ errors.Memory → read ≡ Err e)

-- the answer is the reading's
abbrev pub Answers : Result Syntax SyntaxError → Result Syntax SyntaxError → List ℕ → Type 0
Answers (Ok syntax) read text = read ≡ Ok syntax
Answers (Err e) read text = Refuses e read text

abbrev pub AnswersTrimmed : Result (Syntax × ℕ) SyntaxError → Result Syntax SyntaxError → List ℕ → Type 0
AnswersTrimmed (Ok answer) read text = (read ≡ Ok answer.0) × (answer.1 ≡ trimmed_front text)
AnswersTrimmed (Err e) read text = Refuses e read text

-- ** What fits a text: no order of reading is in it.

-- the tree has all tokens of the text, and is one of the goal without white space and comments; the word of each
-- MACRO_RULES is right
abbrev pub FitsTokens : Reach → Goal → List ℕ → List RawToken → Syntax → Type 0
FitsTokens reach goal text raw syntax =
    (kind : SyntaxKind) × (kids : Forest)
    × Fits (grammar_of reach) (grammar_of reach goal) done (tree kind kids done) (solid_tokens raw) []
    × (syntax ≡ whole_tree kind kids (pieces text raw))
    × (misnames_macros syntax ≡ false)

abbrev pub FitsFileOf : Reach → List ℕ → Syntax → Type 0
FitsFileOf reach text syntax = (raw : List RawToken) × (tokens text ≡ Some raw) × FitsTokens reach goals.File text raw syntax

abbrev pub FitsFile : List ℕ → Syntax → Type 0
FitsFile text syntax = FitsFileOf Stated text syntax

abbrev pub FitsFragmentOf : Reach → Fragment → List ℕ → Syntax → Type 0
FitsFragmentOf reach fragment text syntax =
    (raw : List RawToken)
    × (tokens (trimmed text) ≡ Some raw)
    × ((begins_solid raw && begins_solid (reverse raw)) ≡ true)
    × FitsTokens reach (goal_of fragment) (trimmed text) raw syntax

abbrev pub FitsFragment : Fragment → List ℕ → Syntax → Type 0
FitsFragment fragment text syntax = FitsFragmentOf Stated fragment text syntax

-- what is known of the trees of texts
pub record IsTreeOfFileOf (reach : Reach) (text : List ℕ) (syntax : Syntax) : Type 0 where
  pub short : length text < 2 ^ 32
  pub fits : FitsFileOf reach text syntax
  pub spells : source_of syntax ≡ text
  pub shallow : depth_of syntax ≤ most_deep
  pub trimmed_nodes : IsTrimmed syntax.children

abbrev pub IsTreeOfFile : List ℕ → Syntax → Type 0
IsTreeOfFile text syntax = IsTreeOfFileOf Stated text syntax

pub record IsTreeOfFragmentOf (reach : Reach) (fragment : Fragment) (text : List ℕ) (syntax : Syntax) : Type 0 where
  pub short : length text < 2 ^ 32
  pub fits : FitsFragmentOf reach fragment text syntax
  pub spells : source_of syntax ≡ trimmed text
  pub shallow : depth_of syntax ≤ most_deep
  pub trimmed_nodes : IsTrimmed (plain.branch syntax.kind syntax.children plain.nothing)

abbrev pub IsTreeOfFragment : Fragment → List ℕ → Syntax → Type 0
IsTreeOfFragment fragment text syntax = IsTreeOfFragmentOf Stated fragment text syntax

-- a tree is the reading in a reach of the text that it spells
pub record IsReadOf (reach : Reach) (syntax : Syntax) : Type 0 where
  pub text : IsUtf8 (source_of syntax)
  pub reading : file_reading_of reach (source_of syntax) ≡ Ok syntax

-- a tree is the reading of the text that it spells
pub record IsRead (syntax : Syntax) : Type 0 where
  pub text : IsUtf8 (source_of syntax)
  pub reading : file_reading (source_of syntax) ≡ Ok syntax

-- The answer is this tree, or the tree is too deep and that is told. Want of memory says nothing.
abbrev pub IsThatOrTooDeep : {R : Type 0} → (R → Syntax) → Syntax → Result R SyntaxError → Type 0
IsThatOrTooDeep now syntax (Ok v) = now v ≡ syntax
IsThatOrTooDeep now syntax (Err e) = e ≢ errors.Memory → (e ≡ errors.TooDeep) × (most_deep < depth_of syntax)

-- Long texts that are read as short ones are, in which names stand for insides of the long ones.
use Rattle.std.specs.Prelude.{◌≡◌, ℕ, ◌+◌, ◌<◌, ◌==◌, nat_lt, true, false, ◌&&◌, if◌then◌else◌, ⊤, List, [], ◌∷◌, length, max, reverse, Option, Some, None, Result, Ok, Err}
use Rattle.ssr_syntax_kinds.specs.declared.kinds.SyntaxKind.{SyntaxKind}
use Rattle.ssr_syntax_kinds.specs.declared.kinds.SyntaxKind.TheVariants as k
use Rattle.ssr_syntax_kinds.specs.Kinds.{same_kind}
use Rattle.ssr_syntax_kinds.specs.declared.reach.Reach.{Reach}
use Rattle.ssr_syntax_kinds.specs.declared.fragment.Fragment.TheVariants as fragments
use Rattle.ssr_syntax_lex.specs.Tokens.{tokens}
use Rattle.ssr_syntax_lex.specs.declared.tokens.RawToken.{RawToken}
use Rattle.ssr_syntax_tree.specs.Syntax.{Syntax, depth_of, most_deep}
use Rattle.ssr_syntax_forms.specs.Fitting.{Fits}
use Rattle.ssr_syntax_forms.specs.Trees.{Forest, done, leaf, tree, height, spell}
use Rattle.ssr_syntax_types.specs.declared.goals.Goal.TheVariants.{Expr}
use Rattle.ssr_syntax_types.specs.declared.goals.ExprPlace.TheVariants.{Anywhere}
use Rattle.ssr_syntax_rows.specs.Lossless.{whole_tree}
use Rattle.ssr_syntax_rows.specs.MacroRules.{misnames_macros}
use Rattle.ssr_syntax_rows.specs.Solid.{begins_solid, pieces, solid_tokens}
use Rattle.ssr_syntax.specs.Grammar.{grammar_of}
use Rattle.ssr_syntax.specs.Reading.{fragment_reading_of, trimmed, FitsFragmentOf}
use Rattle.ssr_syntax.specs.declared.syntax_error.SyntaxError.{SyntaxError}
use Rattle.ssr_syntax.specs.declared.syntax_error.SyntaxError.TheVariants as errors
use Rattle.ssr_syntax_places.specs.Core.{Hole, Holes, IsFilling, AreFillings, core, filled, is_single}
use Rattle.ssr_syntax_places.specs.Standing.{node}
use Rattle.ssr_syntax_places.specs.Woven.{Part, AreWoven, StandFor}

-- ** The forest behind a tree.

-- The tokens of a text are an expression with these children, and no comment stands around it.
pub record IsBehind (reach : Reach) (text : List ℕ) (raw : List RawToken) (kind : SyntaxKind) (kids : Forest) : Type 0 where
  pub lexes : tokens (trimmed text) ≡ Some raw
  pub outside : (begins_solid raw && begins_solid (reverse raw)) ≡ true
  pub fits : Fits (grammar_of reach) (grammar_of reach (Expr Anywhere)) done (node kind kids) (solid_tokens raw) []

-- the tree of a text, and the forest behind it
pub record HasForest (reach : Reach) (text : List ℕ) (syntax : Syntax) : Type 0 where
  pub raw : List RawToken
  pub kind : SyntaxKind
  pub kids : Forest
  pub behind : IsBehind reach text raw kind kids
  pub whole : syntax ≡ whole_tree kind kids (pieces (trimmed text) raw)

-- ** Insides.

-- What stands for a name has the tree of the tokens of this text, some and no others, which is an expression by itself. The
-- words of its macros are right.
pub record IsInside (reach : Reach) (hole : Hole) (text : List ℕ) (raw : List RawToken) : Type 0 where
  pub kind : SyntaxKind
  pub kids : Forest
  pub tree : hole.tree ≡ node kind kids
  pub fits : Fits (grammar_of reach) (grammar_of reach (Expr Anywhere)) done hole.tree (solid_tokens raw) []
  pub some : 0 < length (solid_tokens raw)
  pub named : misnames_macros (whole_tree kind kids (pieces text raw)) ≡ false

-- A text that is read alone as an expression is what a name may stand for.
pub record IsReadAlone (reach : Reach) (text : List ℕ) (syntax : Syntax) : Type 0 where
  pub hole : Hole
  pub raw : List RawToken
  pub lexes : tokens text ≡ Some raw
  pub tokens_are : hole.tokens ≡ solid_tokens raw
  pub filling : IsFilling reach hole
  pub inside : IsInside reach hole text raw
  pub whole : syntax ≡ whole_tree inside.kind inside.kids (pieces text raw)

-- The same parts with other insides. In the short text each is a name alone, and in the long one what the name stands for.
-- `at` is the number of the first token.
abbrev pub AreInsides : Reach → Holes → ℕ → List Part → List Part → Type 0
AreInsides reach holes at [] [] = ⊤
AreInsides reach holes at [] (q ∷ qs) = ⊥
AreInsides reach holes at (p ∷ ps) [] = ⊥
AreInsides reach holes at (p ∷ ps) (q ∷ qs) =
    (hole : Hole)
    × (p.front ≡ q.front)
    × (p.opening ≡ q.opening)
    × (length p.within ≡ 1)
    × (holes (at + length (solid_tokens p.before)) ≡ Some hole)
    × IsInside reach hole q.inside q.within
    × AreInsides reach holes ((at + length (solid_tokens p.before)) + 1) ps qs

-- A short text and a long one: the same parts, in the short one with names in the place of insides of the long one.
pub record ArePaired (reach : Reach) (holes : Holes) (short long : List Part) (last : List ℕ) (after : List RawToken) : Type 0 where
  pub fillings : AreFillings reach holes
  pub short_is : AreWoven short last
  pub long_is : AreWoven long last
  pub lexes : tokens last ≡ Some after
  pub stand : StandFor holes 0 short long (solid_tokens after)
  pub insides : AreInsides reach holes 0 short long

-- ** Names by what they stand for.

-- a name in a short text, alone between its brackets, and the inside of a long one that it stands for
pub record IsNamed (reach : Reach) (p q : Part) (hole : Hole) : Type 0 where
  pub front : p.front ≡ q.front
  pub opening : p.opening ≡ q.opening
  pub one : length p.within ≡ 1
  pub single : is_single (solid_tokens p.within) ≡ true
  pub tokens_are : hole.tokens ≡ solid_tokens q.within
  pub filling : IsFilling reach hole
  pub inside : IsInside reach hole q.inside q.within

abbrev pub AreNamed : Reach → List Part → List Part → List Hole → Type 0
AreNamed reach [] [] [] = ⊤
AreNamed reach (p ∷ ps) (q ∷ qs) (hole ∷ holes) = IsNamed reach p q hole × AreNamed reach ps qs holes
AreNamed reach _ _ _ = ⊥

-- what the names stand for, in order; `at` is the number of the first token
abbrev pub holes_in : ℕ → List Part → List Hole → Holes
holes_in at [] holes number = None
holes_in at (p ∷ ps) [] number = None
holes_in at (p ∷ ps) (hole ∷ holes) number =
    let place : ℕ = at + length (solid_tokens p.before) in
    if number == place then Some hole else holes_in (place + 1) ps holes number

-- ** What is read.

-- the tree, if it isn't too deep
abbrev pub unless_deep : Syntax → Result Syntax SyntaxError
unless_deep syntax = if nat_lt most_deep (depth_of syntax) then Err errors.TooDeep else Ok syntax

-- The whole tree of this forest and of the pieces of a text is what fits the text.
pub record IsWholeOf (reach : Reach) (text : List ℕ) (forest : Forest) (syntax : Syntax) : Type 0 where
  pub raw : List RawToken
  pub kind : SyntaxKind
  pub kids : Forest
  pub lexes : tokens (trimmed text) ≡ Some raw
  pub tree : forest ≡ node kind kids
  pub whole : syntax ≡ whole_tree kind kids (pieces (trimmed text) raw)
  pub fits : FitsFragmentOf reach fragments.Expr text syntax

-- The short text is read to a core tree, and the long one to the whole tree of the filled template, if that isn't too deep. The
-- template is the forest behind the short text's tree.
pub record IsReadFilled (reach : Reach) (holes : Holes) (name text : List ℕ) (short : Syntax) : Type 0 where
  pub raw : List RawToken
  pub kind : SyntaxKind
  pub kids : Forest
  pub template : IsBehind reach name raw kind kids
  pub short_is : short ≡ whole_tree kind kids (pieces (trimmed name) raw)
  pub is_core : core holes false 12 0 kind kids ≡ true
  pub long : Syntax
  pub whole : IsWholeOf reach text (filled holes 0 (node kind kids)) long
  pub read : fragment_reading_of reach fragments.Expr text ≡ unless_deep long

-- ** How deep it is.

abbrev pub path_height : Option Hole → Forest → ℕ
path_height None kids = 1 + height kids
path_height (Some hole) kids = height hole.tree

-- how many nodes stand above one another in the filled template, of which the first token has the number `at`
abbrev pub filled_height : Holes → ℕ → Forest → ℕ
filled_height holes at done = 0
filled_height holes at (leaf kind us x) = filled_height holes (at + length us) x
filled_height holes at (tree kind kids x) =
    max (if same_kind kind k.PATH_EXPR then path_height (holes at) kids else 1 + filled_height holes at kids)
    (filled_height holes (at + length (spell kids)) x)

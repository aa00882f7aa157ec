-- Templates: core expressions, in which some names stand for other expressions.
use Rattle.std.specs.Prelude.{◌≡◌, ℕ, ◌+◌, ◌≤◌, nat_le, nat_lt, Bool, true, false, not, ◌&&◌, ◌||◌, if◌then◌else◌, List, [], ◌∷◌, ◌++◌, length, Option, Some, None}
use Rattle.ssr_syntax_kinds.specs.Kinds.{same_kind}
use Rattle.ssr_syntax_kinds.specs.declared.reach.Reach.{Reach}
use Rattle.ssr_syntax_kinds.specs.declared.kinds.SyntaxKind.{SyntaxKind}
use Rattle.ssr_syntax_kinds.specs.declared.kinds.SyntaxKind.TheVariants as k
use Rattle.ssr_syntax_forms.specs.declared.tokens.Token.{Token}
use Rattle.ssr_syntax_forms.specs.Kinds.{mem}
use Rattle.ssr_syntax_forms.specs.Forms.{next}
use Rattle.ssr_syntax_forms.specs.Trees.{Forest, done, leaf, tree, join, spell}
use Rattle.ssr_syntax_types.specs.Literals.{literals}
use Rattle.ssr_syntax_types.specs.Paths.{path_names}
use Rattle.ssr_syntax_types.specs.Types.{ampersands}
use Rattle.ssr_syntax_exprs.specs.Expressions.{operators, prefix_operators, ranks}
use Rattle.ssr_syntax.specs.Operands.{row_in}
use Rattle.ssr_syntax_places.specs.Standing.{node, is_token, closing_marks, Stands, StandsBefore}

-- ** What names stand for.

-- an expression: at most this precedence, whether it may be called, and its tree and tokens
pub record Hole : Type 0 where
  pub precedence : ℕ
  pub callable : Bool
  pub tree : Forest
  pub tokens : List Token

abbrev pub hole_of : ℕ → Bool → Forest → List Token → Hole
hole_of n may_be_called z us = record { precedence = n; callable = may_be_called; tree = z; tokens = us }

-- what the token of this number of a template stands for, if it stands for anything
abbrev pub Holes : Type 0
Holes = ℕ → Option Hole

-- An expression stands before a bracket, and if it is an operand, wherever an operand does that binds as tightly.
pub record IsFilling (reach : Reach) (hole : Hole) : Type 0 where
  pub inside : (closing : List Token) → is_token closing_marks closing ≡ true → StandsBefore reach closing hole.tree hole.tokens
  pub operand : hole.precedence ≤ 12 → Stands reach hole.precedence hole.callable hole.tree hole.tokens

abbrev pub AreFillings : Reach → Holes → Type 0
AreFillings reach holes = (number : ℕ) (hole : Hole) → holes number ≡ Some hole → IsFilling reach hole

-- ** The filled template, of which the first token has the number `at`.

abbrev pub token_filled : Option Hole → Token → List Token
token_filled None t = t ∷ []
token_filled (Some hole) t = hole.tokens

abbrev pub tokens_filled : Holes → ℕ → List Token → List Token
tokens_filled holes at [] = []
tokens_filled holes at (t ∷ ts) = token_filled (holes at) t ++ tokens_filled holes (at + 1) ts

abbrev pub path_filled : Option Hole → Forest → Forest
path_filled None kids = node k.PATH_EXPR kids
path_filled (Some hole) kids = hole.tree

abbrev pub filled : Holes → ℕ → Forest → Forest
filled holes at done = done
filled holes at (leaf kind us x) = leaf kind us (filled holes (at + length us) x)
filled holes at (tree kind kids x) =
    join (if same_kind kind k.PATH_EXPR then path_filled (holes at) kids else node kind (filled holes at kids))
    (filled holes (at + length (spell kids)) x)

-- one node
abbrev pub node_filled : Holes → ℕ → SyntaxKind → Forest → Forest
node_filled holes at kind kids = if same_kind kind k.PATH_EXPR then path_filled (holes at) kids else node kind (filled holes at kids)

-- ** Tokens of a template.

abbrev pub is_no_hole : Option Hole → Bool
is_no_hole None = true
is_no_hole (Some hole) = false

-- none of the tokens stands for anything
abbrev pub are_spelled : Holes → ℕ → List Token → Bool
are_spelled holes at [] = true
are_spelled holes at (t ∷ ts) = is_no_hole (holes at) && are_spelled holes (at + 1) ts

-- the leaf is a token of one of these kinds, and stands for itself
abbrev pub is_leaf : Holes → ℕ → List SyntaxKind → SyntaxKind → List Token → Bool
is_leaf holes at ks kind us = (is_token ks us && same_kind kind (next us)) && are_spelled holes at us

-- the same of `&`, also where it is the first one of `&&`
abbrev pub is_ampersand : Holes → ℕ → SyntaxKind → List Token → Bool
is_ampersand holes at kind [] = false
is_ampersand holes at kind (t ∷ []) =
    (mem t.joined ampersands && (mem t.kind ampersands && same_kind kind t.kind)) && are_spelled holes at (t ∷ [])
is_ampersand holes at kind (t ∷ u ∷ us) = false

abbrev pub is_single : List Token → Bool
is_single [] = false
is_single (t ∷ []) = true
is_single (t ∷ u ∷ us) = false

-- ** Core expressions: literals, paths of names, parentheses, `?`, indices, calls, fields, operators in front and between.

-- a name that stands for an expression, however loosely that binds
abbrev pub is_held : Holes → ℕ → SyntaxKind → Forest → Bool
is_held holes at kind kids = same_kind kind k.PATH_EXPR && (is_single (spell kids) && not (is_no_hole (holes at)))

-- a path of names, or a name that stands for what binds tightly enough
abbrev pub binds_enough : Option Hole → Bool → ℕ → Bool → List Token → Bool
binds_enough None callable n is_names us = is_names
binds_enough (Some hole) callable n is_names us = is_single us && (nat_le hole.precedence n && (hole.callable || not callable))

-- a segment of a path that is a name, which stands for itself
abbrev pub is_segment : Holes → ℕ → SyntaxKind → Forest → Bool
is_segment holes at kind (tree r (leaf a us done) done) =
    same_kind kind k.PATH_SEGMENT && (same_kind r k.NAME_REF && is_leaf holes at path_names a us)
is_segment holes at kind _ = false

-- what is below a path of names
abbrev pub is_path : Holes → ℕ → Forest → Bool
is_path holes at (tree s kids done) = is_segment holes at s kids
is_path holes at (tree p path (leaf a us (tree s kids done))) =
    same_kind p k.PATH && is_path holes at path
    && (is_leaf holes (at + length (spell path)) (k.COLON2 ∷ []) a us && is_segment holes ((at + length (spell path)) + length us) s kids)
is_path holes at _ = false

-- the name of a field or a method
abbrev pub is_name_ref : Holes → ℕ → List SyntaxKind → SyntaxKind → Forest → Bool
is_name_ref holes at ks kind (leaf a us done) = same_kind kind k.NAME_REF && is_leaf holes at ks a us
is_name_ref holes at ks kind _ = false

-- a field that has a name isn't called
abbrev pub member_names : Bool → List SyntaxKind
member_names true = k.INT_NUMBER ∷ []
member_names false = k.INT_NUMBER ∷ k.IDENT ∷ []

abbrev mutual
  -- A node of this kind with these children is core, of at most the precedence n, and may be called if that is asked for.
  -- `at` is the number of its first token.
  pub core : Holes → Bool → ℕ → ℕ → SyntaxKind → Forest → Bool
  core holes callable n at kind (leaf a us done) = same_kind kind k.LITERAL && is_leaf holes at literals a us
  core holes callable n at kind (tree p path done) =
      same_kind kind k.PATH_EXPR && binds_enough (holes at) callable n (same_kind p k.PATH && is_path holes at path) (spell path)
  core holes callable n at kind (leaf a us (tree m xs done)) =
      nat_le 2 n && core holes callable 2 (at + length us) m xs
      && (same_kind kind k.PREFIX_EXPR && is_leaf holes at prefix_operators a us || same_kind kind k.REF_EXPR && is_ampersand holes at a us)
  core holes callable n at kind (leaf a us (leaf b vs (tree m xs done))) =
      nat_le 2 n && core holes callable 2 ((at + length us) + length vs) m xs
      && (same_kind kind k.REF_EXPR && (is_ampersand holes at a us && is_leaf holes (at + length us) (k.MUT_KW ∷ []) b vs))
  core holes callable n at kind (leaf a us (tree m xs (leaf b vs done))) =
      (is_held holes (at + length us) m xs || core holes false 12 (at + length us) m xs)
      && (same_kind kind k.PAREN_EXPR
      && (is_leaf holes at (k.L_PAREN ∷ []) a us && is_leaf holes ((at + length us) + length (spell xs)) (k.R_PAREN ∷ []) b vs))
  core holes callable n at kind (tree m xs (leaf a us done)) =
      nat_le 1 n && core holes false 1 at m xs && (same_kind kind k.TRY_EXPR && is_leaf holes (at + length (spell xs)) (k.QUESTION ∷ []) a us)
  core holes callable n at kind (tree m xs (leaf a us (tree j ys done))) =
      let behind : ℕ = at + length (spell xs) in
      if same_kind kind k.BIN_EXPR then
      (nat_lt (row_in ranks a) (length ranks) && nat_le (4 + row_in ranks a) n) && is_leaf holes behind (operators (row_in ranks a)) a us
      && (core holes false (4 + row_in ranks a) at m xs && core holes callable (3 + row_in ranks a) (behind + length us) j ys)
      else
      nat_le 1 n && core holes false 1 at m xs
      && (same_kind kind k.FIELD_EXPR && (is_leaf holes behind (k.DOT ∷ []) a us && is_name_ref holes (behind + length us) (member_names callable) j ys))
  core holes callable n at kind (tree m xs (leaf a us (tree j ys (leaf b vs done)))) =
      let behind : ℕ = (at + length (spell xs)) + length us in
      nat_le 1 n && core holes false 1 at m xs && (is_held holes behind j ys || core holes false 12 behind j ys)
      && (same_kind kind k.INDEX_EXPR
      && (is_leaf holes (at + length (spell xs)) (k.L_BRACK ∷ []) a us && is_leaf holes (behind + length (spell ys)) (k.R_BRACK ∷ []) b vs))
  core holes callable n at kind (tree m xs (tree j (leaf a us args) done)) =
      let behind : ℕ = at + length (spell xs) in
      nat_le 1 n && core holes true 1 at m xs && arguments holes (behind + length us) args
      && (same_kind kind k.CALL_EXPR && (same_kind j k.ARG_LIST && is_leaf holes behind (k.L_PAREN ∷ []) a us))
  core holes callable n at kind (tree m xs (leaf a us (tree j ys (tree i (leaf b vs args) done)))) =
      let dot : ℕ = at + length (spell xs) in
      let behind : ℕ = (dot + length us) + length (spell ys) in
      nat_le 1 n && core holes false 1 at m xs && arguments holes (behind + length vs) args
      && (same_kind kind k.METHOD_CALL_EXPR
      && ((is_leaf holes dot (k.DOT ∷ []) a us && is_name_ref holes (dot + length us) (k.IDENT ∷ []) j ys)
      && (same_kind i k.ARG_LIST && is_leaf holes behind (k.L_PAREN ∷ []) b vs)))
  core holes callable n at kind _ = false

  -- what stands behind the parenthesis that opens a call: expressions with commas between them, and the one that closes it
  pub arguments : Holes → ℕ → Forest → Bool
  arguments holes at (leaf b vs done) = is_leaf holes at (k.R_PAREN ∷ []) b vs
  arguments holes at (tree m xs (leaf b vs done)) =
      (is_held holes at m xs || core holes false 12 at m xs) && is_leaf holes (at + length (spell xs)) (k.R_PAREN ∷ []) b vs
  arguments holes at (tree m xs (leaf b vs args)) =
      (is_held holes at m xs || core holes false 12 at m xs) && is_leaf holes (at + length (spell xs)) (k.COMMA ∷ []) b vs
      && arguments holes ((at + length (spell xs)) + length vs) args
  arguments holes at _ = false

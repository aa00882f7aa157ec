-- Expressions that stand wherever their precedence allows, whatever follows them.
use Rattle.std.specs.Prelude.{◌≡◌, ◌-◌, ℕ, zero, suc, nat_eq, Bool, true, false, not, ◌&&◌, ◌||◌, List, [], ◌∷◌, ◌++◌, length}
use Rattle.ssr_syntax_kinds.specs.Kinds.{same_kind}
use Rattle.ssr_syntax_kinds.specs.Reach.{is_whole}
use Rattle.ssr_syntax_kinds.specs.declared.reach.Reach.{Reach}
use Rattle.ssr_syntax_kinds.specs.declared.kinds.SyntaxKind.{SyntaxKind}
use Rattle.ssr_syntax_kinds.specs.declared.kinds.SyntaxKind.TheVariants as k
use Rattle.ssr_syntax_forms.specs.declared.tokens.Token.{Token}
use Rattle.ssr_syntax_forms.specs.Kinds.{mem}
use Rattle.ssr_syntax_forms.specs.Fitting.{Fits}
use Rattle.ssr_syntax_forms.specs.Forms.{Form, next, of_reach, passes}
use Rattle.ssr_syntax_forms.specs.Trees.{Forest, done, leaf, tree, join}
use Rattle.ssr_syntax_types.specs.declared.goals.Goal.{Goal}
use Rattle.ssr_syntax_types.specs.declared.goals.Goal.TheVariants.{Expr}
use Rattle.ssr_syntax_types.specs.declared.goals.ExprPlace.TheVariants.{Anywhere}
use Rattle.ssr_syntax_types.specs.Paths.{path_names}
use Rattle.ssr_syntax_exprs.specs.Atoms.{async_closure_ahead, operand_first}
use Rattle.ssr_syntax_exprs.specs.Expressions.{atom, postfix_expr, unary, operand, raw_ahead}
use Rattle.ssr_syntax.specs.Grammar.{grammar_of}

-- ** Words for trees.

abbrev pub node : SyntaxKind → Forest → Forest
node kind kids = tree kind kids done

-- the tokens are one of the grammar, of one of these kinds, with all that it is joined from
abbrev pub is_token : List SyntaxKind → List Token → Bool
is_token ks [] = false
is_token ks (t ∷ us) = mem t.joined ks && nat_eq (t.size - 1) (length us)

-- that token as a tree
abbrev pub token_leaf : List Token → Forest
token_leaf [] = done
token_leaf (t ∷ us) = leaf t.joined (t ∷ us) done

-- the segment of a path that is a name alone
abbrev pub segment : List Token → Forest
segment name = node k.PATH_SEGMENT (node k.NAME_REF (token_leaf name))

-- names with `::` between them
pub data IsPath : Forest → List Token → Type 0 where
  one : (name : List Token) → is_token path_names name ≡ true → IsPath (node k.PATH (segment name)) name
  longer : {z : Forest} {us : List Token} (colons name : List Token)
      → IsPath z us → is_token (k.COLON2 ∷ []) colons ≡ true → is_token path_names name ≡ true
      → IsPath (node k.PATH (join (join z (token_leaf colons)) (segment name))) (us ++ (colons ++ name))

-- ** Precedence, as `precedence` counts it: 0 stands for itself, 1 is gone on with, 2 has an operator in front, 3 is a cast,
-- and behind those come the ranks of operators between operands.

-- the form of all expressions that bind at least as tightly; there are nine ranks
unfoldable pub level : ℕ → Form Goal
level zero = atom Anywhere
level (suc zero) = postfix_expr Anywhere
level (suc (suc zero)) = unary Anywhere
level (suc (suc (suc ranks))) = operand Anywhere ranks

-- ** What stands.

-- No `::` follows, which would go on with a path, nor a word that would make `raw` an operator. A field isn't called.
abbrev pub may_follow : Bool → List Token → Bool
may_follow callable rest =
    not (mem (next rest) (k.COLON2 ∷ k.CONST_KW ∷ k.MUT_KW ∷ [])) && (callable || not (same_kind (next rest) k.L_PAREN))

-- an operand begins here, and neither an `async` closure nor the operator `raw`
abbrev pub begins_operand : Bool → List Token → Bool
begins_operand is_whole ts = mem (next ts) (operand_first is_whole) && not (passes async_closure_ahead ts || passes raw_ahead ts)

-- The tree z of the tokens us is an expression of at most the precedence n, whatever follows that may follow.
pub record Stands (reach : Reach) (n : ℕ) (callable : Bool) (z : Forest) (us : List Token) : Type 0 where
  pub fits : (rest : List Token) → may_follow callable rest ≡ true → Fits (grammar_of reach) (of_reach (is_whole reach) (level n)) done z us rest
  pub begins : (rest : List Token) → may_follow callable rest ≡ true → begins_operand (is_whole reach) (us ++ rest) ≡ true

-- any expression, whatever follows that may follow
abbrev pub StandsAnywhere : Reach → Forest → List Token → Type 0
StandsAnywhere reach z us =
    (rest : List Token) → may_follow false rest ≡ true → Fits (grammar_of reach) (grammar_of reach (Expr Anywhere)) done z us rest

-- what ends an expression in parentheses, in square brackets or among arguments
abbrev pub closing_marks : List SyntaxKind
closing_marks = k.R_PAREN ∷ k.R_BRACK ∷ k.COMMA ∷ []

-- an expression before this token, which ends it, whatever follows
abbrev pub StandsBefore : Reach → List Token → Forest → List Token → Type 0
StandsBefore reach closing z us =
    (rest : List Token) → Fits (grammar_of reach) (grammar_of reach (Expr Anywhere)) done z us (closing ++ rest)

-- ** Expressions with commas between them, before this bracket; one may stand behind the last.
pub data AreArguments (reach : Reach) (closing : List Token) : Forest → List Token → Type 0 where
  no_more : AreArguments reach closing done []
  last : {z : Forest} {us : List Token} → StandsBefore reach closing z us → AreArguments reach closing z us
  more : {z y : Forest} {us vs : List Token} (comma : List Token)
      → is_token (k.COMMA ∷ []) comma ≡ true → StandsBefore reach comma z us → AreArguments reach closing y vs
      → AreArguments reach closing (join (join z (token_leaf comma)) y) (us ++ (comma ++ vs))

-- the tokens from one bracket to another, and what stands between them
abbrev pub between : List Token → List Token → List Token → List Token
between opening us closing = opening ++ (us ++ closing)

abbrev pub bracketed : SyntaxKind → List Token → Forest → List Token → Forest
bracketed kind opening z closing = node kind (join (join (token_leaf opening) z) (token_leaf closing))

-- an expression, a dot and a name or a number behind it
abbrev pub with_name : Forest → List Token → List Token → Forest
with_name x dot name = join (join x (token_leaf dot)) (node k.NAME_REF (token_leaf name))

-- Whatever fits before a parenthesis stands in parentheses wherever an expression does.
use Rattle.std.proofs.Common.{◌≡◌, Bool, true, false, List, [], ◌∷◌, ◌++◌, refl}
use Rattle.ssr_syntax_kinds.specs.declared.kinds.SyntaxKind.TheVariants as k
use Rattle.ssr_syntax_kinds.specs.Reach.{is_whole}
use Rattle.ssr_syntax_kinds.specs.declared.reach.Reach.{Reach}
use Rattle.ssr_syntax_forms.specs.declared.tokens.Token.{Token}
use Rattle.ssr_syntax_forms.specs.Kinds.{where_whole}
use Rattle.ssr_syntax_forms.specs.Trees.{Forest, done, join}
use Rattle.ssr_syntax_forms.specs.Forms.{at, a, mark, child, seal, choose}
use Rattle.ssr_syntax_forms.proofs.Shared.{every}
use Rattle.ssr_syntax_types.specs.declared.goals.Goal.TheVariants.{Expr}
use Rattle.ssr_syntax_types.specs.declared.goals.ExprPlace.TheVariants.{Anywhere}
use Rattle.ssr_syntax_types.specs.Literals.{literal, literals}
use Rattle.ssr_syntax_types.specs.Paths.{path_first}
use Rattle.ssr_syntax_exprs.specs.Atoms.{path_expr, expr_in_parentheses, paren_or_tuple_expr, unit_expr, paren_expr, tuple_expr, operand_first, braceless_first, operand_marks, stated_marks, leaving_first}
use Rattle.ssr_syntax_exprs.specs.Blocks.{block_words, stated_block_words}
use Rattle.ssr_syntax_exprs.specs.Expressions.{atom}
use Rattle.ssr_syntax.specs.Grammar.{grammar}
use Rattle.ssr_syntax_places.specs.Standing.{node, is_token, token_leaf, level, Stands, StandsBefore, between, bracketed}
use Rattle.ssr_syntax_places.proofs.InReach.{FitsIn, token_in, child_in, mark_in, seal_in, then_in, then_still, first_in, second_in}
use Rattle.ssr_syntax_places.proofs.Following.{begins_plainly, begins_with}

parenthesized : (b : Bool) (z : Forest) (opening us closing rest : List Token) → is_token (k.L_PAREN ∷ []) opening ≡ true
    → is_token (k.R_PAREN ∷ []) closing ≡ true → FitsIn b grammar (grammar (Expr Anywhere)) done z us (closing ++ rest)
    → FitsIn b grammar expr_in_parentheses done (bracketed k.PAREN_EXPR opening z closing) (between opening us closing) rest
unfolding expr_in_parentheses paren_or_tuple_expr paren_expr
parenthesized b z opening us closing rest opens closes f =
    let front : Forest = token_leaf opening in
    let made : Forest = join (join front z) (token_leaf closing) in
    then_in b grammar (a k.L_PAREN) (choose (at (k.R_PAREN ∷ [])) unit_expr paren_or_tuple_expr) done front (node k.PAREN_EXPR made) opening (us ++ closing) rest
    (token_in b grammar (k.L_PAREN ∷ []) done opening ((us ++ closing) ++ rest) opens)
    (second_in b grammar (at (k.R_PAREN ∷ [])) unit_expr paren_or_tuple_expr front (node k.PAREN_EXPR made) (us ++ closing) rest
    (then_in b grammar (child (Expr Anywhere)) (choose (at (k.R_PAREN ∷ [])) paren_expr tuple_expr) front (join front z) (node k.PAREN_EXPR made) us closing rest
    (child_in b grammar (Expr Anywhere) front z us (closing ++ rest) f)
    (first_in b grammar (at (k.R_PAREN ∷ [])) paren_expr tuple_expr (join front z) (node k.PAREN_EXPR made) closing rest
    (then_still b grammar (a k.R_PAREN) (seal k.PAREN_EXPR) (join front z) made (node k.PAREN_EXPR made) closing rest
    (token_in b grammar (k.R_PAREN ∷ []) (join front z) closing rest closes) (seal_in b grammar k.PAREN_EXPR made rest)))))

is_atom : (b : Bool) (z : Forest) (us rest : List Token) → FitsIn b grammar expr_in_parentheses done z us rest → FitsIn b grammar (level 0) done z us rest
unfolding level atom
is_atom b z us rest f =
    second_in b grammar (at path_first) (mark (path_expr Anywhere)) _ done z us rest
    (second_in b grammar (at literals) (mark literal) _ done z us rest
    (first_in b grammar (at (k.L_PAREN ∷ [])) (mark expr_in_parentheses) _ done z us rest
    (mark_in b grammar expr_in_parentheses done z us rest f)))

parentheses_begin : (b : Bool) → every (begins_plainly b) (k.L_PAREN ∷ []) ≡ true
unfolding literals operand_first braceless_first path_first block_words stated_block_words operand_marks stated_marks where_whole leaving_first
parentheses_begin true = refl
parentheses_begin false = refl

pub paren_stands : (reach : Reach) (z : Forest) (opening us closing : List Token) → is_token (k.L_PAREN ∷ []) opening ≡ true
    → is_token (k.R_PAREN ∷ []) closing ≡ true → StandsBefore reach closing z us
    → Stands reach 0 true (bracketed k.PAREN_EXPR opening z closing) (between opening us closing)
paren_stands reach z opening us closing opens closes inside = record {
  fits = λ rest may. is_atom (is_whole reach) (bracketed k.PAREN_EXPR opening z closing) (between opening us closing) rest
      (parenthesized (is_whole reach) z opening us closing rest opens closes (inside rest));
  begins = λ rest may. begins_with (is_whole reach) (k.L_PAREN ∷ []) opening (us ++ closing) rest (parentheses_begin (is_whole reach)) opens;
}

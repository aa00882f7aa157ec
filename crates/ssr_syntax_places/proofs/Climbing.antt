-- What stands where an expression must bind tightly stands where it may bind loosely.
use Rattle.std.proofs.Common.{◌≡◌, ℕ, zero, suc, ◌+◌, ◌-◌, ◌≤◌, Bool, true, false, List, [], ◌∷◌, ◌++◌, subst, arith}
use Rattle.ssr_syntax_kinds.specs.declared.kinds.SyntaxKind.{SyntaxKind}
use Rattle.ssr_syntax_kinds.specs.declared.kinds.SyntaxKind.TheVariants as k
use Rattle.ssr_syntax_kinds.specs.Reach.{is_whole}
use Rattle.ssr_syntax_kinds.specs.declared.reach.Reach.{Reach}
use Rattle.ssr_syntax_forms.specs.declared.tokens.Token.{Token}
use Rattle.ssr_syntax_forms.specs.Trees.{Forest, done}
use Rattle.ssr_syntax_forms.specs.Forms.{Form, at, mark, ◌then◌, nothing, optional, also_decide}
use Rattle.ssr_syntax_forms.proofs.Shared.{every}
use Rattle.ssr_syntax_types.specs.declared.goals.Goal.{Goal}
use Rattle.ssr_syntax_types.specs.declared.goals.ExprPlace.TheVariants.{Anywhere}
use Rattle.ssr_syntax_types.specs.Types.{ampersands}
use Rattle.ssr_syntax_types.specs.PatternSets.{ranges}
use Rattle.ssr_syntax_exprs.specs.Atoms.{async_closure_ahead, leaving_expr, leaving_first}
use Rattle.ssr_syntax_exprs.specs.Expressions.{prefix_operators, postfix_first, atom, postfix, postfixes, postfix_expr, ref_expr, prefix_expr, attr_expr, leaving_operand, async_operand, leaving_or_postfix, attributed_or_postfix, unary, cast_expr, casts, operators, operation, operations, climb, operand, all_ranks, assignments, range, range_or_assignment, assignment, leading_range, ranked, leaving_or_ranked, expr}
use Rattle.ssr_syntax.specs.Grammar.{grammar}
use Rattle.ssr_syntax_places.specs.Standing.{is_token, level, begins_operand, Stands, StandsAnywhere, StandsBefore}
use Rattle.ssr_syntax_places.proofs.InReach.{FitsIn, then_still, second_in, nothing_in, either_in, also_in, also_decide_in, stop_in, no_turn_more_in}
use Rattle.ssr_syntax_places.proofs.Following.{follows_any, no_closure, token_alone_follows, goes_behind}

-- ** From one form of expressions to the next.

from_postfix : (b : Bool) (z : Forest) (us rest : List Token) → begins_operand b (us ++ rest) ≡ true
    → FitsIn b grammar (postfix_expr Anywhere) done z us rest → FitsIn b grammar (unary Anywhere) done z us rest
unfolding unary attributed_or_postfix leaving_or_postfix
from_postfix b z us rest begins f =
    second_in b grammar (at ampersands) (mark (ref_expr Anywhere)) _ done z us rest
    (second_in b grammar (at prefix_operators) (mark (prefix_expr Anywhere)) (attributed_or_postfix Anywhere) done z us rest
    (also_in b grammar (k.POUND ∷ []) (mark (attr_expr Anywhere)) (leaving_or_postfix Anywhere) done z us rest
    (also_in b grammar leaving_first leaving_operand (also_decide async_closure_ahead async_operand (postfix_expr Anywhere)) done z us rest
    (also_decide_in b grammar async_closure_ahead async_operand (postfix_expr Anywhere) done z us rest (no_closure b (us ++ rest) begins) f))))

climbed : (b : Bool) (n : ℕ) (z : Forest) (us rest : List Token) → begins_operand b (us ++ rest) ≡ true
    → FitsIn b grammar (level n) done z us rest → FitsIn b grammar (level (suc n)) done z us rest
unfolding level postfix_expr postfixes operand climb casts operations
climbed b zero z us rest begins f =
    then_still b grammar (atom Anywhere) postfixes done z z us rest f (stop_in b grammar (at postfix_first) postfix z rest)
climbed b (suc zero) z us rest begins f = from_postfix b z us rest begins f
climbed b (suc (suc zero)) z us rest begins f =
    then_still b grammar (unary Anywhere) casts done z z us rest f (stop_in b grammar (at (k.AS_KW ∷ [])) cast_expr z rest)
climbed b (suc (suc (suc r))) z us rest begins f =
    no_turn_more_in b grammar (unary Anywhere) (climb Anywhere r) (at (operators r)) (operation Anywhere r) done z us rest f

climbs : (b : Bool) (steps n m : ℕ) (z : Forest) (us rest : List Token) → m ≡ n + steps → begins_operand b (us ++ rest) ≡ true
    → FitsIn b grammar (level n) done z us rest → FitsIn b grammar (level m) done z us rest
climbs b zero n m z us rest e begins f =
    let same : n ≡ m = omega (arith, e) in subst (λ r. FitsIn b grammar (level r) done z us rest) same f
climbs b (suc steps) n m z us rest e begins f =
    climbs b steps (suc n) m z us rest (omega (arith, e)) begins (climbed b n z us rest begins f)

pub stands_looser : (reach : Reach) (n m : ℕ) (callable : Bool) (z : Forest) (us : List Token) → n ≤ m → Stands reach n callable z us
    → Stands reach m callable z us
stands_looser reach n m callable z us le stands = record {
  fits = λ rest may. climbs (is_whole reach) (m - n) n m z us rest (omega (arith, le)) (stands.begins rest may) (stands.fits rest may);
  begins = stands.begins;
}

-- what may be called need not be
pub stands_uncalled : (reach : Reach) (n : ℕ) (callable : Bool) (z : Forest) (us : List Token) → Stands reach n callable z us → Stands reach n false z us
stands_uncalled reach n callable z us stands = record {
  fits = λ rest may. stands.fits rest (follows_any callable rest may);
  begins = λ rest may. stands.begins rest (follows_any callable rest may);
}

-- ** As any expression.

from_operand : (b : Bool) (z : Forest) (us rest : List Token) → FitsIn b grammar (operand Anywhere all_ranks) done z us rest
    → FitsIn b grammar (expr Anywhere) done z us rest
unfolding expr leaving_or_ranked ranked range_or_assignment
from_operand b z us rest f =
    let behind : Form Goal = optional ranges (range Anywhere) then optional assignments (assignment Anywhere) in
    let ranked_fits : FitsIn b grammar (ranked Anywhere) done z us rest =
    second_in b grammar (at ranges) (leading_range Anywhere) (operand Anywhere all_ranks then behind) done z us rest
    (then_still b grammar (operand Anywhere all_ranks) behind done z z us rest f
    (then_still b grammar (optional ranges (range Anywhere)) (optional assignments (assignment Anywhere)) z z z [] rest
    (second_in b grammar (at ranges) (range Anywhere) nothing z z [] rest (nothing_in b grammar z rest))
    (second_in b grammar (at assignments) (assignment Anywhere) nothing z z [] rest (nothing_in b grammar z rest)))) in
    either_in b grammar (ranked Anywhere) leaving_or_ranked done z us rest ranked_fits
    (second_in b grammar (at leaving_first) leaving_expr (ranked Anywhere) done z us rest ranked_fits)

from_level : (b : Bool) (z : Forest) (us rest : List Token) → FitsIn b grammar (level 12) done z us rest → FitsIn b grammar (expr Anywhere) done z us rest
unfolding level
from_level b z us rest f = from_operand b z us rest f

pub stands_anywhere : (reach : Reach) (n : ℕ) (callable : Bool) (z : Forest) (us : List Token) → n ≤ 12 → Stands reach n callable z us
    → StandsAnywhere reach z us
unfolding grammar
stands_anywhere reach n callable z us le stands rest may =
    from_level (is_whole reach) z us rest ((stands_looser reach n 12 callable z us le stands).fits rest (follows_any callable rest may))

pub stands_before : (reach : Reach) (ks : List SyntaxKind) (closing : List Token) (z : Forest) (us : List Token) → every goes_behind ks ≡ true
    → is_token ks closing ≡ true → StandsAnywhere reach z us → StandsBefore reach closing z us
stands_before reach ks closing z us all is stands rest = stands (closing ++ rest) (token_alone_follows false ks closing rest all is)

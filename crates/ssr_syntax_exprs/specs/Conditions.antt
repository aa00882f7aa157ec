-- Forms of conditions, which may begin with LET_EXPR, or have it behind `&&`.
use Rattle.std.specs.Prelude.{Bool, [], ◌∷◌}
use Rattle.ssr_syntax_kinds.specs.declared.kinds.SyntaxKind.TheVariants as k
use Rattle.ssr_syntax_types.specs.declared.goals.Goal.{Goal}
use Rattle.ssr_syntax_types.specs.declared.goals.Goal.TheVariants.{Operand, Pat}
use Rattle.ssr_syntax_types.specs.declared.goals.ExprPlace.{ExprPlace}
use Rattle.ssr_syntax_types.specs.declared.goals.ExprPlace.TheVariants.{Anywhere, BeforeBlock}
use Rattle.ssr_syntax_types.specs.declared.goals.PatPlace.TheVariants.{TopLevel}
use Rattle.ssr_syntax_forms.specs.Forms.{Form, Test, ◌then◌, child, mark, seal, choose, decide, wide, a, at, repeated, as_long_as_by}
use Rattle.ssr_syntax_types.specs.PatternSets.{ranges}
use Rattle.ssr_syntax_exprs.specs.Atoms.{leaving_expr, leaving_first, operand_first}
use Rattle.ssr_syntax_exprs.specs.Expressions.{and_rank, leading_range, operand, operation, operations, or_rank, range_or_assignment}

abbrev pub and_let_ahead : Test
and_let_ahead = ((k.AMP2 ∷ []) ∷ (k.LET_KW ∷ []) ∷ []) ∷ []

abbrev pub and_operand_ahead : Bool → Test
and_operand_ahead is_whole = ((k.AMP2 ∷ []) ∷ operand_first is_whole ∷ []) ∷ []

unfoldable pub let_expr : ExprPlace → Form Goal
let_expr place = a k.LET_KW then child (Pat TopLevel) then a k.EQ then child (Operand place and_rank) then seal k.LET_EXPR

unfoldable pub let_operand : ExprPlace → Form Goal
let_operand place = mark (let_expr place) then seal k.BIN_EXPR

unfoldable pub tighter_operand : ExprPlace → Form Goal
tighter_operand place = child (Operand place and_rank) then seal k.BIN_EXPR

unfoldable pub let_or_operand : ExprPlace → Form Goal
let_or_operand place = choose (at (k.LET_KW ∷ [])) (let_operand place) (tighter_operand place)

unfoldable pub and_let : ExprPlace → Form Goal
and_let place = a k.AMP2 then let_or_operand place

unfoldable pub lets : ExprPlace → Form Goal
lets place = repeated (k.AMP2 ∷ []) (and_let place)

unfoldable pub let_chain : ExprPlace → Form Goal
let_chain place = mark (let_expr place) then lets place

unfoldable pub looser : ExprPlace → Form Goal
looser place = operations place or_rank then range_or_assignment place

unfoldable pub first_let : ExprPlace → Form Goal
first_let place = a k.AMP2 then let_operand place

unfoldable pub lets_behind : ExprPlace → Form Goal
lets_behind place = first_let place then lets place

unfoldable pub conjunction_end : ExprPlace → Form Goal
conjunction_end place = decide and_let_ahead (lets_behind place) (looser place)

unfoldable pub conjunction : ExprPlace → Form Goal
conjunction place =
    operand place and_rank then as_long_as_by and_operand_ahead (operation place and_rank) then conjunction_end place

unfoldable pub condition_of : ExprPlace → Form Goal
condition_of place =
    choose (at (k.LET_KW ∷ [])) (let_chain place)
    (choose (at ranges) (leading_range place)
    (conjunction place))

unfoldable pub leaving_or_condition : Form Goal
leaving_or_condition = choose (at leaving_first) leaving_expr (condition_of Anywhere)

unfoldable pub condition : ExprPlace → Form Goal
condition Anywhere = wide (condition_of Anywhere) leaving_or_condition
condition BeforeBlock = condition_of BeforeBlock

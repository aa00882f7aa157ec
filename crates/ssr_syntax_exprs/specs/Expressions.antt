-- Forms of expressions by how tightly they bind.
use Rattle.std.specs.Prelude.{ℕ, zero, suc, Bool, true, false, List, [], ◌∷◌, ◌++◌, length}
use Rattle.ssr_syntax_kinds.specs.declared.kinds.SyntaxKind.{SyntaxKind}
use Rattle.ssr_syntax_kinds.specs.declared.kinds.SyntaxKind.TheVariants as k
use Rattle.ssr_syntax_types.specs.declared.goals.Goal.{Goal}
use Rattle.ssr_syntax_types.specs.declared.goals.Goal.TheVariants.{Expr, Operand, Unary, Ty, GenericArgs}
use Rattle.ssr_syntax_types.specs.declared.goals.ExprPlace.{ExprPlace}
use Rattle.ssr_syntax_types.specs.declared.goals.ExprPlace.TheVariants.{Anywhere, BeforeBlock}
use Rattle.ssr_syntax_forms.specs.Forms.{Form, Test, ◌then◌, child, mark, seal, choose, decide, look, also, also_decide, wide, look_by, a, any, part, at, optional, optional_by, repeated, comma_list_by}
use Rattle.ssr_syntax_types.specs.Literals.{literal, literals}
use Rattle.ssr_syntax_types.specs.Paths.{colon_angle, name_ref, number_ref, path_first}
use Rattle.ssr_syntax_types.specs.Types.{ampersands, pointer_words}
use Rattle.ssr_syntax_types.specs.TokenTrees.{some_attrs}
use Rattle.ssr_syntax_types.specs.PatternSets.{ranges}
use Rattle.ssr_syntax_exprs.specs.Blocks.{block_like}
use Rattle.ssr_syntax_exprs.specs.Atoms.{array_expr, async_block, async_closure, async_closure_ahead, braceless_first, continue_expr, expr_first, expr_in_parentheses, leaving_expr, leaving_first, operand_first, path_expr, underscore_expr}

abbrev pub prefix_operators : List SyntaxKind
prefix_operators = k.MINUS ∷ k.BANG ∷ k.STAR ∷ []

-- what goes on with an expression begins with one of these
abbrev pub postfix_first : List SyntaxKind
postfix_first = k.L_PAREN ∷ k.L_BRACK ∷ k.QUESTION ∷ k.DOT ∷ []

-- the operators of assignments
unfoldable pub assignments : List SyntaxKind
assignments =
    k.EQ ∷ k.PLUSEQ ∷ k.MINUSEQ ∷ k.STAREQ ∷ k.SLASHEQ ∷ k.PERCENTEQ ∷ k.CARETEQ ∷ k.AMPEQ ∷ k.PIPEEQ ∷ k.SHLEQ ∷
    k.SHREQ ∷ []

-- ** What stands for itself.

unfoldable pub block_or_mark : Form Goal
block_or_mark = also (k.ASYNC_KW ∷ []) (mark async_block) (also (k.UNDERSCORE ∷ []) (mark underscore_expr) block_like)

unfoldable pub atom : ExprPlace → Form Goal
atom place =
    choose (at path_first) (mark (path_expr place))
    (choose (at literals) (mark literal)
    (choose (at (k.L_PAREN ∷ [])) (mark expr_in_parentheses)
    (choose (at (k.L_BRACK ∷ [])) (mark array_expr)
    (choose (at (k.CONTINUE_KW ∷ [])) (mark continue_expr)
    block_or_mark))))

-- ** What goes on with an expression, which is all since the mark.

unfoldable pub arg_list : Form Goal
arg_list = a k.L_PAREN then comma_list_by expr_first (child (Expr Anywhere)) then a k.R_PAREN then seal k.ARG_LIST

unfoldable pub call_expr : Form Goal
call_expr = mark arg_list then seal k.CALL_EXPR

unfoldable pub index_expr : Form Goal
index_expr = a k.L_BRACK then child (Expr Anywhere) then a k.R_BRACK then seal k.INDEX_EXPR

unfoldable pub try_expr : Form Goal
try_expr = a k.QUESTION then seal k.TRY_EXPR

-- a call of a field's value needs parentheses around the field
unfoldable pub field_expr : Form Goal
field_expr = look false (at (k.L_PAREN ∷ [])) then seal k.FIELD_EXPR

unfoldable pub method_call_expr : Form Goal
method_call_expr = mark arg_list then seal k.METHOD_CALL_EXPR

-- generic arguments begin with `::`
unfoldable pub generic_method_call_expr : Form Goal
generic_method_call_expr = child GenericArgs then method_call_expr

unfoldable pub generic_method_call_or_field : Form Goal
generic_method_call_or_field = decide colon_angle generic_method_call_expr field_expr

unfoldable pub named_member : Form Goal
named_member = mark name_ref then (choose (at (k.L_PAREN ∷ [])) method_call_expr generic_method_call_or_field)

unfoldable pub numbered_member : Form Goal
numbered_member = mark number_ref then seal k.FIELD_EXPR

unfoldable pub field_or_method : Form Goal
field_or_method = choose (at (k.INT_NUMBER ∷ [])) numbered_member named_member

unfoldable pub await_expr : Form Goal
await_expr = a k.AWAIT_KW then seal k.AWAIT_EXPR

unfoldable pub member : Form Goal
member = a k.DOT then also (k.AWAIT_KW ∷ []) await_expr field_or_method

unfoldable pub postfix : Form Goal
postfix =
    choose (at (k.L_PAREN ∷ [])) call_expr
    (choose (at (k.L_BRACK ∷ [])) index_expr
    (choose (at (k.QUESTION ∷ [])) try_expr
    member))

unfoldable pub postfixes : Form Goal
postfixes = repeated postfix_first postfix

unfoldable pub postfix_expr : ExprPlace → Form Goal
postfix_expr place = atom place then postfixes

-- ** Operators in front.

abbrev pub raw_ahead : Test
raw_ahead = ((k.IDENT ∷ []) ∷ pointer_words ∷ []) ∷ []

-- an identifier elsewhere: of which one it is, the tree's text is asked
unfoldable pub raw_word : Form Goal
raw_word = a k.IDENT then seal k.RAW_KW

unfoldable pub raw_words : Form Goal
raw_words = mark raw_word then any pointer_words

unfoldable pub ref_words : Form Goal
ref_words = also_decide raw_ahead raw_words (optional (k.MUT_KW ∷ []) (a k.MUT_KW))

-- of `&&`, the first one alone
unfoldable pub ref_expr : ExprPlace → Form Goal
ref_expr place = part ampersands then ref_words then child (Unary place) then seal k.REF_EXPR

unfoldable pub prefix_expr : ExprPlace → Form Goal
prefix_expr place = any prefix_operators then child (Unary place) then seal k.PREFIX_EXPR

-- an operand behind attributes, of all of Rust
unfoldable pub attr_expr : ExprPlace → Form Goal
attr_expr place = some_attrs then look false (at (k.POUND ∷ [])) then child (Unary place) then seal k.ATTR_EXPR

-- what goes on with any expression: an operator, an assignment, a range or a cast
unfoldable pub operator_first : List SyntaxKind
operator_first =
    k.STAR ∷ k.SLASH ∷ k.PERCENT ∷ k.PLUS ∷ k.MINUS ∷ k.SHL ∷ k.SHR ∷ k.AMP ∷ k.CARET ∷ k.PIPE ∷ k.EQ2 ∷ k.NEQ ∷ k.L_ANGLE ∷
    k.R_ANGLE ∷ k.LTEQ ∷ k.GTEQ ∷ k.AMP2 ∷ k.PIPE2 ∷ k.DOT2 ∷ k.DOT2EQ ∷ k.AS_KW ∷ assignments

-- a closure, `return` or `break` as an operand: what follows belongs to it, as far as it can
unfoldable pub leaving_operand : Form Goal
leaving_operand = leaving_expr then look false (at operator_first)

unfoldable pub async_operand : Form Goal
async_operand = mark async_closure then look false (at operator_first)

-- before a block stands none
unfoldable pub leaving_or_postfix : ExprPlace → Form Goal
leaving_or_postfix Anywhere =
    also leaving_first leaving_operand (also_decide async_closure_ahead async_operand (postfix_expr Anywhere))
leaving_or_postfix BeforeBlock = postfix_expr BeforeBlock

unfoldable pub attributed_or_postfix : ExprPlace → Form Goal
attributed_or_postfix place = also (k.POUND ∷ []) (mark (attr_expr place)) (leaving_or_postfix place)

unfoldable pub unary : ExprPlace → Form Goal
unary place =
    choose (at ampersands) (mark (ref_expr place))
    (choose (at prefix_operators) (mark (prefix_expr place))
    (attributed_or_postfix place))

-- ** Casts.

unfoldable pub cast_expr : Form Goal
cast_expr = a k.AS_KW then child Ty then seal k.CAST_EXPR

unfoldable pub casts : Form Goal
casts = repeated (k.AS_KW ∷ []) cast_expr

-- ** Operators between two operands.

-- those that bind as tightly as one another in a row, the tightest first
abbrev pub ranks : List (List SyntaxKind)
ranks =
    (k.STAR ∷ k.SLASH ∷ k.PERCENT ∷ [])
    ∷ (k.PLUS ∷ k.MINUS ∷ [])
    ∷ (k.SHL ∷ k.SHR ∷ [])
    ∷ (k.AMP ∷ [])
    ∷ (k.CARET ∷ [])
    ∷ (k.PIPE ∷ [])
    ∷ (k.EQ2 ∷ k.NEQ ∷ k.L_ANGLE ∷ k.R_ANGLE ∷ k.LTEQ ∷ k.GTEQ ∷ [])
    ∷ (k.AMP2 ∷ [])
    ∷ (k.PIPE2 ∷ [])
    ∷ []

abbrev pub all_ranks : ℕ
all_ranks = length ranks

-- the row of `&&`, and so how many ranks bind tighter
abbrev pub and_rank : ℕ
and_rank = 7

-- that of `||`
abbrev pub or_rank : ℕ
or_rank = 8

-- the row of that number, if there is one
abbrev pub row : ℕ → List (List SyntaxKind) → List SyntaxKind
row r [] = []
row zero (ks ∷ rows) = ks
row (suc r) (ks ∷ rows) = row r rows

unfoldable pub operators : ℕ → List SyntaxKind
operators r = row r ranks

-- no more ranks than there are rows
abbrev pub at_most : ℕ → List (List SyntaxKind) → ℕ
at_most r [] = zero
at_most zero (ks ∷ rows) = zero
at_most (suc r) (ks ∷ rows) = suc (at_most r rows)

-- an operator of the rank and its right operand, which binds tighter; all since the mark is the left operand
unfoldable pub operation : ExprPlace → ℕ → Form Goal
operation place rank = any (operators rank) then child (Operand place rank) then seal k.BIN_EXPR

unfoldable pub operations : ExprPlace → ℕ → Form Goal
operations place rank = repeated (operators rank) (operation place rank)

-- what goes on behind an operand without casts and operators: casts, and then operators of so many ranks, the tightest
unfoldable pub climb : ExprPlace → ℕ → Form Goal
climb place zero = casts
climb place (suc r) = climb place r then operations place r

unfoldable pub operand : ExprPlace → ℕ → Form Goal
operand place rank = unary place then climb place rank

-- ** Ranges.

-- what the right operand of a range begins with: before a block it is no brace
unfoldable pub ends_first : ExprPlace → Bool → List SyntaxKind
ends_first Anywhere is_whole = operand_first is_whole
ends_first BeforeBlock is_whole = braceless_first is_whole

unfoldable pub range_end : ExprPlace → Form Goal
range_end place = look_by true (ends_first place) then child (Operand place all_ranks)

unfoldable pub to_range : ExprPlace → Form Goal
to_range place = a k.DOT2 then optional_by (ends_first place) (range_end place) then seal k.RANGE_EXPR

unfoldable pub to_inclusive_range : ExprPlace → Form Goal
to_inclusive_range place = a k.DOT2EQ then range_end place then seal k.RANGE_EXPR

unfoldable pub range : ExprPlace → Form Goal
range place = choose (at (k.DOT2 ∷ [])) (to_range place) (to_inclusive_range place)

-- ** Assignments.

unfoldable pub assignment : ExprPlace → Form Goal
assignment place = any assignments then child (Expr place) then seal k.BIN_EXPR

-- behind the operand in front, which is all since the mark
unfoldable pub range_or_assignment : ExprPlace → Form Goal
range_or_assignment place = optional ranges (range place) then optional assignments (assignment place)

-- a range without a left operand, and what is assigned to it
unfoldable pub leading_range : ExprPlace → Form Goal
leading_range place = range place then optional assignments (assignment place)

unfoldable pub ranked : ExprPlace → Form Goal
ranked place = choose (at ranges) (leading_range place) (operand place all_ranks then range_or_assignment place)

-- before a block stands no `return`, `break` or closure
unfoldable pub leaving_or_ranked : Form Goal
leaving_or_ranked = choose (at leaving_first) leaving_expr (ranked Anywhere)

-- in all of Rust what leaves is an operand
unfoldable pub expr : ExprPlace → Form Goal
expr Anywhere = wide (ranked Anywhere) leaving_or_ranked
expr BeforeBlock = ranked BeforeBlock

-- Forms of expressions that stand for themselves, and of those that leave.
use Rattle.std.specs.Prelude.{Bool, true, false, List, [], ◌∷◌, ◌++◌}
use Rattle.ssr_syntax_kinds.specs.declared.kinds.SyntaxKind.{SyntaxKind}
use Rattle.ssr_syntax_kinds.specs.declared.kinds.SyntaxKind.TheVariants as k
use Rattle.ssr_syntax_types.specs.declared.goals.Goal.{Goal}
use Rattle.ssr_syntax_types.specs.declared.goals.Goal.TheVariants.{Expr, Ty, TokenTree, Pat, StmtList}
use Rattle.ssr_syntax_types.specs.declared.goals.ExprPlace.{ExprPlace}
use Rattle.ssr_syntax_types.specs.declared.goals.ExprPlace.TheVariants.{Anywhere, BeforeBlock}
use Rattle.ssr_syntax_types.specs.declared.goals.PatPlace.TheVariants.{NoBar}
use Rattle.ssr_syntax_types.specs.declared.goals.PathPlace.TheVariants.{InExpr}
use Rattle.ssr_syntax_forms.specs.Kinds.{where_whole}
use Rattle.ssr_syntax_forms.specs.Forms.{Form, Test, ◌then◌, child, mark, seal, nothing, choose, decide, also_decide, look, check, wide, none_is, a, part, at, optional, optional_by, repeated_by, comma_by, comma_list_by}
use Rattle.ssr_syntax_types.specs.Literals.{literals}
use Rattle.ssr_syntax_types.specs.Paths.{lifetime, name_colon, name_ref, number_ref, path, path_first, ret_type}
use Rattle.ssr_syntax_types.specs.PatternSets.{param_first, ranges}
use Rattle.ssr_syntax_types.specs.TokenTrees.{attrs, some_attrs}
use Rattle.ssr_syntax_exprs.specs.Blocks.{block_expr, block_words}

-- what `return`, `break` and closures begin with
unfoldable pub leaving_first : List SyntaxKind
leaving_first = k.RETURN_KW ∷ k.BREAK_KW ∷ k.PIPE ∷ k.PIPE2 ∷ k.MOVE_KW ∷ []

abbrev pub bars : List SyntaxKind
bars = k.PIPE ∷ k.PIPE2 ∷ []

-- `async` before a bar or before `move` and a bar, where all of Rust is read
abbrev pub async_closure_ahead : Test
async_closure_ahead = ((k.ASYNC_KW ∷ []) ∷ bars ∷ []) ∷ ((k.ASYNC_KW ∷ []) ∷ (k.MOVE_KW ∷ []) ∷ bars ∷ []) ∷ []

-- ** What begins an expression. With `true`, where all of Rust is read.

unfoldable pub stated_marks : List SyntaxKind
stated_marks = k.AMP ∷ k.AMP2 ∷ k.L_PAREN ∷ k.L_BRACK ∷ k.CONTINUE_KW ∷ k.MINUS ∷ k.BANG ∷ k.STAR ∷ []

abbrev pub whole_marks : List SyntaxKind
whole_marks = k.ASYNC_KW ∷ k.UNDERSCORE ∷ k.POUND ∷ []

unfoldable pub operand_marks : Bool → List SyntaxKind
operand_marks is_whole = stated_marks ++ where_whole is_whole whole_marks

-- what an operand begins with, but for a brace
unfoldable pub braceless_first : Bool → List SyntaxKind
braceless_first is_whole = literals ++ path_first ++ block_words is_whole ++ operand_marks is_whole

-- in all of Rust an operand may be a closure, `return` or `break`
unfoldable pub operand_first : Bool → List SyntaxKind
operand_first is_whole = k.L_CURLY ∷ braceless_first is_whole ++ where_whole is_whole leaving_first

-- what an expression begins with
unfoldable pub expr_first : Bool → List SyntaxKind
expr_first is_whole = operand_first is_whole ++ ranges ++ leaving_first

-- what a field's value or its name begins with: no `..`
unfoldable pub field_value_first : Bool → List SyntaxKind
field_value_first is_whole = k.DOT2EQ ∷ operand_first is_whole ++ leaving_first

abbrev pub number_colon : Test
number_colon = ((k.INT_NUMBER ∷ []) ∷ (k.COLON ∷ []) ∷ []) ∷ []

abbrev pub label_ahead : Test
label_ahead = ((k.LIFETIME_IDENT ∷ []) ∷ (k.COLON ∷ []) ∷ []) ∷ []

-- ** In parentheses: none, one, or some with commas.

unfoldable pub unit_expr : Form Goal
unit_expr = a k.R_PAREN then seal k.TUPLE_EXPR

unfoldable pub paren_expr : Form Goal
paren_expr = a k.R_PAREN then seal k.PAREN_EXPR

unfoldable pub tuple_expr : Form Goal
tuple_expr = a k.COMMA then comma_list_by expr_first (child (Expr Anywhere)) then a k.R_PAREN then seal k.TUPLE_EXPR

unfoldable pub paren_or_tuple_expr : Form Goal
paren_or_tuple_expr = child (Expr Anywhere) then (choose (at (k.R_PAREN ∷ [])) paren_expr tuple_expr)

unfoldable pub expr_in_parentheses : Form Goal
expr_in_parentheses = a k.L_PAREN then (choose (at (k.R_PAREN ∷ [])) unit_expr paren_or_tuple_expr)

-- ** In square brackets.

unfoldable pub empty_array : Form Goal
empty_array = a k.R_BRACK then seal k.ARRAY_EXPR

unfoldable pub repeated_item : Form Goal
repeated_item = a k.SEMICOLON then child (Expr Anywhere) then a k.R_BRACK then seal k.ARRAY_EXPR

unfoldable pub array_items : Form Goal
array_items = comma_by expr_first then comma_list_by expr_first (child (Expr Anywhere)) then a k.R_BRACK then seal k.ARRAY_EXPR

unfoldable pub array_of_items : Form Goal
array_of_items = child (Expr Anywhere) then (choose (at (k.SEMICOLON ∷ [])) repeated_item array_items)

unfoldable pub array_expr : Form Goal
array_expr = a k.L_BRACK then (choose (at (k.R_BRACK ∷ [])) empty_array array_of_items)

-- ** Paths, records and macro calls.

unfoldable pub named_field : Form Goal
named_field = mark name_ref then a k.COLON then child (Expr Anywhere) then seal k.RECORD_EXPR_FIELD

unfoldable pub numbered_field : Form Goal
numbered_field = mark number_ref then a k.COLON then child (Expr Anywhere) then seal k.RECORD_EXPR_FIELD

-- a range that begins with `..` needs a name in front
unfoldable pub shorthand_field : Form Goal
shorthand_field = look false (at (k.DOT2 ∷ [])) then child (Expr Anywhere) then seal k.RECORD_EXPR_FIELD

-- behind attributes
abbrev pub no_bare_field : List SyntaxKind
no_bare_field = k.POUND ∷ k.DOT2 ∷ []

unfoldable pub bare_field : Form Goal
bare_field = look false (at no_bare_field) then child (Expr Anywhere) then seal k.RECORD_EXPR_FIELD

unfoldable pub numbered_or_bare : Form Goal
numbered_or_bare = decide number_colon numbered_field bare_field

unfoldable pub field_behind_attrs : Form Goal
field_behind_attrs = decide name_colon named_field numbered_or_bare

unfoldable pub attributed_field : Form Goal
attributed_field = some_attrs then field_behind_attrs

unfoldable pub stated_record_field : Form Goal
stated_record_field =
    decide name_colon (mark named_field)
    (decide number_colon (mark numbered_field)
    (mark shorthand_field))

unfoldable pub record_expr_field : Form Goal
record_expr_field = also_decide (at (k.POUND ∷ [])) (mark attributed_field) stated_record_field

-- a comma stands before `..` too
unfoldable pub record_item : Form Goal
record_item = record_expr_field then comma_by expr_first

-- in all of Rust, `..` may end a record that is assigned to
unfoldable pub base_value : Form Goal
base_value = wide (optional (expr_first true) (child (Expr Anywhere))) (child (Expr Anywhere))

unfoldable pub record_base : Form Goal
record_base = optional (k.DOT2 ∷ []) (a k.DOT2 then base_value) then a k.R_CURLY then seal k.RECORD_EXPR_FIELD_LIST

unfoldable pub record_expr_field_list : Form Goal
record_expr_field_list = a k.L_CURLY then repeated_by field_value_first record_item then record_base

unfoldable pub record_expr : Form Goal
record_expr = mark record_expr_field_list then seal k.RECORD_EXPR

-- all since the mark is the path
unfoldable pub path_or_record : ExprPlace → Form Goal
path_or_record Anywhere = choose (at (k.L_CURLY ∷ [])) record_expr (seal k.PATH_EXPR)
path_or_record BeforeBlock = seal k.PATH_EXPR

-- the path of a macro has neither generic arguments nor an anchor
unfoldable pub macro_expr : Form Goal
macro_expr = check (none_is (k.L_ANGLE ∷ [])) then a k.BANG then child TokenTree then seal k.MACRO_CALL then seal k.MACRO_EXPR

unfoldable pub path_expr : ExprPlace → Form Goal
path_expr place = mark (path InExpr) then (choose (at (k.BANG ∷ [])) macro_expr (path_or_record place))

-- ** Words that leave a loop, a function or a closure, and closures.

unfoldable pub continue_expr : Form Goal
continue_expr = a k.CONTINUE_KW then optional (k.LIFETIME_IDENT ∷ []) (mark lifetime) then seal k.CONTINUE_EXPR

unfoldable pub return_expr : Form Goal
return_expr = a k.RETURN_KW then optional_by expr_first (child (Expr Anywhere)) then seal k.RETURN_EXPR

unfoldable pub break_target : Form Goal
break_target = decide label_ahead nothing (decide (at (k.LIFETIME_IDENT ∷ [])) (mark lifetime) nothing)

unfoldable pub break_expr : Form Goal
break_expr = a k.BREAK_KW then break_target then optional_by expr_first (child (Expr Anywhere)) then seal k.BREAK_EXPR

unfoldable pub closure_param : Form Goal
closure_param = wide attrs nothing then child (Pat NoBar) then optional (k.COLON ∷ []) (a k.COLON then child Ty) then seal k.PARAM

unfoldable pub closure_param_list : Form Goal
closure_param_list = part bars then comma_list_by param_first (mark closure_param) then part bars then seal k.PARAM_LIST

unfoldable pub typed_closure : Form Goal
typed_closure = mark ret_type then mark block_expr then seal k.CLOSURE_EXPR

unfoldable pub plain_closure : Form Goal
plain_closure = child (Expr Anywhere) then seal k.CLOSURE_EXPR

unfoldable pub closure_body : Form Goal
closure_body = choose (at (k.THIN_ARROW ∷ [])) typed_closure plain_closure

unfoldable pub closure_expr : Form Goal
closure_expr = optional (k.MOVE_KW ∷ []) (a k.MOVE_KW) then mark closure_param_list then closure_body

-- all of Rust has closures that are `async`
unfoldable pub async_closure : Form Goal
async_closure =
    a k.ASYNC_KW then optional (k.MOVE_KW ∷ []) (a k.MOVE_KW) then mark closure_param_list then closure_body

unfoldable pub leaving_expr : Form Goal
leaving_expr =
    choose (at (k.RETURN_KW ∷ [])) (mark return_expr)
    (choose (at (k.BREAK_KW ∷ [])) (mark break_expr)
    (mark closure_expr))

-- ** Of all of Rust.

unfoldable pub async_block : Form Goal
async_block = a k.ASYNC_KW then optional (k.MOVE_KW ∷ []) (a k.MOVE_KW) then child StmtList then seal k.BLOCK_EXPR

-- what is assigned to, and forgotten
unfoldable pub underscore_expr : Form Goal
underscore_expr = a k.UNDERSCORE then seal k.UNDERSCORE_EXPR

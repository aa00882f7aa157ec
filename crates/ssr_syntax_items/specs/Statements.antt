-- Forms of statements and of the arms of `match`.
use Rattle.std.specs.Prelude.{Bool, true, false, List, [], ◌∷◌, ◌++◌}
use Rattle.ssr_syntax_kinds.specs.declared.kinds.SyntaxKind.{SyntaxKind}
use Rattle.ssr_syntax_kinds.specs.declared.kinds.SyntaxKind.TheVariants as k
use Rattle.ssr_syntax_types.specs.declared.goals.Goal.{Goal}
use Rattle.ssr_syntax_types.specs.declared.goals.Goal.TheVariants.{Expr, Condition, Ty, Pat, Item}
use Rattle.ssr_syntax_types.specs.declared.goals.ExprPlace.TheVariants.{Anywhere}
use Rattle.ssr_syntax_types.specs.declared.goals.PatPlace.TheVariants.{TopLevel}
use Rattle.ssr_syntax_types.specs.declared.goals.ItemPlace.TheVariants.{AsStmt}
use Rattle.ssr_syntax_types.specs.declared.goals.StmtPlace.{StmtPlace}
use Rattle.ssr_syntax_types.specs.declared.goals.StmtPlace.TheVariants.{BlockStmt, LoneStmt, ArmBody, MacroStmt}
use Rattle.ssr_syntax_types.specs.declared.goals.PathPlace.TheVariants.{InExpr}
use Rattle.ssr_syntax_forms.specs.Kinds.{where_whole}
use Rattle.ssr_syntax_forms.specs.Forms.{Form, Test, ◌then◌, child, mark, seal, END, nothing, choose, decide, also, also_decide, settle, choose_by, look, look_by, check, none_is, last_isnt, a, at, optional, repeated_by}
use Rattle.ssr_syntax_types.specs.Paths.{path, path_first, simple_path}
use Rattle.ssr_syntax_types.specs.TokenTrees.{attrs, curly_tree, inner_attrs, paren_or_bracket_tree, some_attrs}
use Rattle.ssr_syntax_exprs.specs.Blocks.{block_expr, block_first, block_like}
use Rattle.ssr_syntax_exprs.specs.Atoms.{expr_first, path_or_record}
use Rattle.ssr_syntax_exprs.specs.Expressions.{all_ranks, climb, postfixes, range_or_assignment}
use Rattle.ssr_syntax_items.specs.Items.{attributed_item_ahead, item, item_as_stmt, stmt_item_ahead, stmt_item_first, whole_item_ahead}

unfoldable pub leading_first : Bool → List SyntaxKind
leading_first is_whole = block_first is_whole ++ path_first

-- what else a statement of all of Rust begins with
abbrev pub whole_stmt_words : List SyntaxKind
whole_stmt_words = k.SEMICOLON ∷ k.EXTERN_KW ∷ []

-- what an item among statements begins with, and what else a statement of all of Rust does
unfoldable pub item_stmt_first : Bool → List SyntaxKind
item_stmt_first is_whole = stmt_item_first ++ where_whole is_whole whole_stmt_words

abbrev pub const_block_ahead : Test
const_block_ahead = ((k.CONST_KW ∷ []) ∷ (k.L_CURLY ∷ []) ∷ []) ∷ []

-- what goes on with a block-like expression begins with one of these
abbrev pub block_goes_on : List SyntaxKind
block_goes_on = k.DOT ∷ k.QUESTION ∷ []

abbrev pub arm_ends : List SyntaxKind
arm_ends = k.COMMA ∷ k.R_CURLY ∷ []

-- what a statement begins with; with `true`, where all of Rust is read
unfoldable pub stmt_first : Bool → List SyntaxKind
stmt_first is_whole = k.LET_KW ∷ expr_first is_whole ++ item_stmt_first is_whole

-- ** How a statement or the body of an arm ends; all since the mark is its expression.

unfoldable pub expr_stmt : Form Goal
expr_stmt = a k.SEMICOLON then seal k.EXPR_STMT

unfoldable pub lone_expr_stmt : Form Goal
lone_expr_stmt = optional (k.SEMICOLON ∷ []) (a k.SEMICOLON) then seal k.EXPR_STMT

-- what closes the list of statements
abbrev pub list_end : StmtPlace → SyntaxKind
list_end MacroStmt = END
list_end _ = k.R_CURLY

unfoldable pub stmt_or_tail : StmtPlace → Form Goal
stmt_or_tail place = choose (at (k.SEMICOLON ∷ [])) expr_stmt (look true (at (list_end place ∷ [])))

-- where the expression is not block-like
unfoldable pub ending : StmtPlace → Form Goal
ending BlockStmt = stmt_or_tail BlockStmt
ending LoneStmt = lone_expr_stmt
ending ArmBody = look true (at arm_ends)
ending MacroStmt = stmt_or_tail MacroStmt

unfoldable pub bare_stmt_or_tail : StmtPlace → Form Goal
bare_stmt_or_tail place = decide (at (list_end place ∷ [])) nothing (seal k.EXPR_STMT)

unfoldable pub block_stmt_or_tail : StmtPlace → Form Goal
block_stmt_or_tail place = settle (k.SEMICOLON ∷ []) expr_stmt (bare_stmt_or_tail place)

-- where it is
unfoldable pub block_end : StmtPlace → Form Goal
block_end BlockStmt = block_stmt_or_tail BlockStmt
block_end LoneStmt = lone_expr_stmt
block_end ArmBody = nothing
block_end MacroStmt = block_stmt_or_tail MacroStmt

-- ** Where a statement or the body of an arm begins with a block-like expression, that is the whole, or what `.` or `?` goes on with.

unfoldable pub going_on : Form Goal
going_on = postfixes then climb Anywhere all_ranks then range_or_assignment Anywhere

unfoldable pub continued : StmtPlace → Form Goal
continued place = going_on then ending place

unfoldable pub behind_block : StmtPlace → Form Goal
behind_block place = decide (at block_goes_on) (continued place) (block_end place)

unfoldable pub block_leading : StmtPlace → Form Goal
block_leading place = block_like then behind_block place

unfoldable pub curly_macro_expr : Form Goal
curly_macro_expr =
    check (none_is (k.L_ANGLE ∷ [])) then a k.BANG then mark curly_tree then seal k.MACRO_CALL then seal k.MACRO_EXPR

unfoldable pub other_macro_expr : Form Goal
other_macro_expr =
    check (none_is (k.L_ANGLE ∷ [])) then a k.BANG then paren_or_bracket_tree then seal k.MACRO_CALL then seal k.MACRO_EXPR

unfoldable pub curly_macro : StmtPlace → Form Goal
curly_macro place = curly_macro_expr then behind_block place

unfoldable pub other_macro : StmtPlace → Form Goal
other_macro place = other_macro_expr then continued place

unfoldable pub leading_path : StmtPlace → Form Goal
leading_path place = path_or_record Anywhere then continued place

abbrev pub curly_macro_ahead : Test
curly_macro_ahead = ((k.BANG ∷ []) ∷ (k.L_CURLY ∷ []) ∷ []) ∷ []

unfoldable pub path_leading : StmtPlace → Form Goal
path_leading place =
    mark (path InExpr)
    then (decide curly_macro_ahead (curly_macro place) (choose (at (k.BANG ∷ [])) (other_macro place) (leading_path place)))

unfoldable pub other_leading : StmtPlace → Form Goal
other_leading place = look_by false leading_first then child (Expr Anywhere) then ending place

unfoldable pub blockless_leading : StmtPlace → Form Goal
blockless_leading place = choose (at path_first) (path_leading place) (other_leading place)

unfoldable pub leading : StmtPlace → Form Goal
leading place = choose_by block_first (block_leading place) (blockless_leading place)

-- ** Arms.

unfoldable pub match_guard : Form Goal
match_guard = a k.IF_KW then child (Condition Anywhere) then seal k.MATCH_GUARD

unfoldable pub match_arm : Form Goal
match_arm =
    attrs then child (Pat TopLevel) then optional (k.IF_KW ∷ []) (mark match_guard) then a k.FAT_ARROW
    then mark (leading ArmBody) then optional (k.COMMA ∷ []) (a k.COMMA) then seal k.MATCH_ARM

-- ** `let`.

unfoldable pub let_else_block : Form Goal
let_else_block = a k.ELSE_KW then mark block_expr then seal k.LET_ELSE

-- all since the mark ends with the expression in front of it
unfoldable pub let_else : Form Goal
let_else = check (last_isnt (k.R_CURLY ∷ [])) then mark let_else_block

unfoldable pub initializer : Form Goal
initializer = a k.EQ then child (Expr Anywhere) then optional (k.ELSE_KW ∷ []) let_else

unfoldable pub let_end : StmtPlace → Form Goal
let_end LoneStmt = optional (k.SEMICOLON ∷ []) (a k.SEMICOLON)
let_end BlockStmt = a k.SEMICOLON
let_end ArmBody = a k.SEMICOLON
let_end MacroStmt = choose (at (k.SEMICOLON ∷ [])) (a k.SEMICOLON) (look true (at (END ∷ [])))

unfoldable pub let_rest : StmtPlace → Form Goal
let_rest place = optional (k.EQ ∷ []) initializer then let_end place then seal k.LET_STMT

unfoldable pub let_stmt : StmtPlace → Form Goal
let_stmt place = a k.LET_KW then child (Pat TopLevel) then optional (k.COLON ∷ []) (a k.COLON then child Ty) then let_rest place

-- ** Statements.

unfoldable pub stated_expr_or_item : StmtPlace → Form Goal
stated_expr_or_item place = decide stmt_item_ahead (child (Item AsStmt)) (mark (leading place))

unfoldable pub const_block_or_stated : StmtPlace → Form Goal
const_block_or_stated place = also_decide const_block_ahead (mark (leading place)) (stated_expr_or_item place)

unfoldable pub expr_or_item_stmt : StmtPlace → Form Goal
expr_or_item_stmt place = also_decide whole_item_ahead (child (Item AsStmt)) (const_block_or_stated place)

unfoldable pub empty_stmt : Form Goal
empty_stmt = a k.SEMICOLON then seal k.EMPTY_STMT

-- ** Statements of all of Rust behind attributes, which stand in their nodes.

unfoldable pub attributed_end : StmtPlace → Form Goal
attributed_end LoneStmt = optional (k.SEMICOLON ∷ []) (a k.SEMICOLON)
attributed_end BlockStmt = choose (at (k.SEMICOLON ∷ [])) (a k.SEMICOLON) (look true (at (k.R_CURLY ∷ [])))
attributed_end ArmBody = a k.SEMICOLON
attributed_end MacroStmt = choose (at (k.SEMICOLON ∷ [])) (a k.SEMICOLON) (look true (at (END ∷ [])))

unfoldable pub semicolon_or_none : Form Goal
semicolon_or_none = decide (at (k.SEMICOLON ∷ [])) (a k.SEMICOLON) nothing

unfoldable pub attributed_block : Form Goal
attributed_block = block_like then semicolon_or_none then seal k.EXPR_STMT

abbrev pub pound_or_block : List SyntaxKind
pound_or_block = k.POUND ∷ block_first true

unfoldable pub attributed_expr : StmtPlace → Form Goal
attributed_expr place = look false (at pound_or_block) then child (Expr Anywhere) then attributed_end place then seal k.EXPR_STMT

abbrev pub simple_macro_ahead : Test
simple_macro_ahead = ((k.IDENT ∷ []) ∷ (k.BANG ∷ []) ∷ []) ∷ ((k.IDENT ∷ []) ∷ (k.COLON2 ∷ []) ∷ (k.IDENT ∷ []) ∷ (k.BANG ∷ []) ∷ []) ∷ []

-- behind its path
unfoldable pub curly_call : Form Goal
curly_call = a k.BANG then mark curly_tree then seal k.MACRO_CALL

unfoldable pub other_call : Form Goal
other_call = a k.BANG then paren_or_bracket_tree then seal k.MACRO_CALL

unfoldable pub attributed_curly_macro : Form Goal
attributed_curly_macro = curly_call then semicolon_or_none then seal k.EXPR_STMT

unfoldable pub attributed_other_macro : StmtPlace → Form Goal
attributed_other_macro place = other_call then attributed_end place then seal k.EXPR_STMT

unfoldable pub attributed_macro_end : StmtPlace → Form Goal
attributed_macro_end place = decide curly_macro_ahead attributed_curly_macro (attributed_other_macro place)

unfoldable pub attributed_macro : StmtPlace → Form Goal
attributed_macro place = mark simple_path then attributed_macro_end place

unfoldable pub attributed_expr_or_macro : StmtPlace → Form Goal
attributed_expr_or_macro place = decide simple_macro_ahead (attributed_macro place) (attributed_expr place)

unfoldable pub attributed_expr_stmt : StmtPlace → Form Goal
attributed_expr_stmt place = choose (at (block_first true)) attributed_block (attributed_expr_or_macro place)

unfoldable pub attributed_other : StmtPlace → Form Goal
attributed_other place = decide attributed_item_ahead item_as_stmt (attributed_expr_stmt place)

unfoldable pub attributed_rest : StmtPlace → Form Goal
attributed_rest place = choose (at (k.LET_KW ∷ [])) (let_stmt place) (attributed_other place)

unfoldable pub attributed : StmtPlace → Form Goal
attributed place = some_attrs then attributed_rest place

-- ** All of them.

unfoldable pub let_or_other_stmt : StmtPlace → Form Goal
let_or_other_stmt place = choose (at (k.LET_KW ∷ [])) (mark (let_stmt place)) (expr_or_item_stmt place)

unfoldable pub attributed_or_other : StmtPlace → Form Goal
attributed_or_other place = also_decide (at (k.POUND ∷ [])) (mark (attributed place)) (let_or_other_stmt place)

unfoldable pub stmt : StmtPlace → Form Goal
stmt place = also (k.SEMICOLON ∷ []) (mark empty_stmt) (attributed_or_other place)

unfoldable pub stmt_list : Form Goal
stmt_list = a k.L_CURLY then inner_attrs then repeated_by stmt_first (stmt BlockStmt) then a k.R_CURLY then seal k.STMT_LIST

unfoldable pub macro_stmts : Form Goal
macro_stmts = repeated_by stmt_first (stmt MacroStmt) then seal k.MACRO_STMTS

unfoldable pub stated_lone : Form Goal
stated_lone = decide stmt_item_ahead (item AsStmt) (leading LoneStmt)

unfoldable pub const_block_or_lone : Form Goal
const_block_or_lone = also_decide const_block_ahead (leading LoneStmt) stated_lone

unfoldable pub lone_expr_or_item : Form Goal
lone_expr_or_item = also_decide whole_item_ahead (item AsStmt) const_block_or_lone

unfoldable pub let_or_other_lone : Form Goal
let_or_other_lone = choose (at (k.LET_KW ∷ [])) (mark (let_stmt LoneStmt)) lone_expr_or_item

unfoldable pub attributed_or_lone : Form Goal
attributed_or_lone = also_decide (at (k.POUND ∷ [])) (mark (attributed LoneStmt)) let_or_other_lone

unfoldable pub lone_stmt : Form Goal
lone_stmt = also (k.SEMICOLON ∷ []) (mark empty_stmt) attributed_or_lone

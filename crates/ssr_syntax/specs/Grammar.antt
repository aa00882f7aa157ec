-- The form of each goal, and the grammar of a reach.
use Rattle.ssr_syntax_types.specs.declared.goals.Goal.{Goal}
use Rattle.ssr_syntax_types.specs.declared.goals.Goal.TheVariants.{File, Expr, Condition, Operand, Unary, Ty, PathType, GenericArgs, ForBinder, TokenTree, Pat, StmtList, Stmt, Arm, If, Item, UseTree, Items, Stmts}
use Rattle.ssr_syntax_kinds.specs.Reach.{is_whole}
use Rattle.ssr_syntax_kinds.specs.declared.reach.Reach.{Reach}
use Rattle.ssr_syntax_kinds.specs.declared.reach.Reach.TheVariants.{Whole}
use Rattle.ssr_syntax_forms.specs.Forms.{Form, Productions, in_reach}
use Rattle.ssr_syntax_exprs.specs.Blocks as block
use Rattle.ssr_syntax_exprs.specs.Conditions as cond
use Rattle.ssr_syntax_exprs.specs.Expressions as expr
use Rattle.ssr_syntax_exprs.specs.GenericArgs as args
use Rattle.ssr_syntax_items.specs.Items as items
use Rattle.ssr_syntax_patterns.specs.Patterns as pats
use Rattle.ssr_syntax_items.specs.Statements as stmts
use Rattle.ssr_syntax_types.specs.TokenTrees as trees
use Rattle.ssr_syntax_types.specs.Types as types
use Rattle.ssr_syntax_item_parts.specs.Params as params
use Rattle.ssr_syntax_item_parts.specs.Uses as uses

unfoldable pub grammar : Goal → Form Goal
grammar File = items.source_file
grammar (Expr place) = expr.expr place
grammar (Condition place) = cond.condition place
grammar (Operand place r) = expr.operand place (expr.at_most r expr.ranks)
grammar (Unary place) = expr.unary place
grammar Ty = types.any_type
grammar PathType = types.path_type
grammar GenericArgs = args.generic_arg_list
grammar ForBinder = params.for_binder
grammar TokenTree = trees.token_tree
grammar (Pat place) = pats.pat place
grammar StmtList = stmts.stmt_list
grammar Stmt = stmts.lone_stmt
grammar Arm = stmts.match_arm
grammar If = block.if_expr
grammar (Item place) = items.item place
grammar UseTree = uses.use_tree
grammar Items = items.macro_items
grammar Stmts = stmts.macro_stmts

-- what is read in a reach: of `grammar` the stated language, or all of Rust
abbrev pub grammar_of : Reach → Productions Goal
grammar_of reach goal = in_reach (is_whole reach) grammar goal

abbrev pub whole_grammar : Productions Goal
whole_grammar = grammar_of Whole

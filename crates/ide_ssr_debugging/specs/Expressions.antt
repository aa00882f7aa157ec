-- Which kinds of nodes are expressions, and which nodes a rule asks for.
use Rattle.std.specs.Prelude.{Bool, true, false, ◌||◌, ◌&&◌}
use Rattle.ssr_syntax_kinds.specs.declared.kinds.SyntaxKind.{SyntaxKind}
use Rattle.ssr_syntax_kinds.specs.declared.kinds.SyntaxKind.TheVariants as k
use Rattle.ssr_syntax_kinds.specs.Kinds.{same_kind}

-- what operations are made of
abbrev pub is_operand : SyntaxKind → Bool
is_operand k.LITERAL = true
is_operand k.PATH_EXPR = true
is_operand k.PAREN_EXPR = true
is_operand k.TUPLE_EXPR = true
is_operand k.ARRAY_EXPR = true
is_operand k.RECORD_EXPR = true
is_operand k.MACRO_EXPR = true
is_operand k.CLOSURE_EXPR = true
is_operand k.UNDERSCORE_EXPR = true
is_operand k.ATTR_EXPR = true
is_operand _ = false

-- calls, accesses, and what is made with an operator
abbrev pub is_operation : SyntaxKind → Bool
is_operation k.CALL_EXPR = true
is_operation k.METHOD_CALL_EXPR = true
is_operation k.FIELD_EXPR = true
is_operation k.INDEX_EXPR = true
is_operation k.TRY_EXPR = true
is_operation k.AWAIT_EXPR = true
is_operation k.PREFIX_EXPR = true
is_operation k.REF_EXPR = true
is_operation k.CAST_EXPR = true
is_operation k.BIN_EXPR = true
is_operation k.RANGE_EXPR = true
is_operation _ = false

-- what says what is run
abbrev pub is_block : SyntaxKind → Bool
is_block k.BLOCK_EXPR = true
is_block k.IF_EXPR = true
is_block k.MATCH_EXPR = true
is_block k.LOOP_EXPR = true
is_block k.WHILE_EXPR = true
is_block k.FOR_EXPR = true
is_block k.LET_EXPR = true
is_block k.RETURN_EXPR = true
is_block k.BREAK_EXPR = true
is_block k.CONTINUE_EXPR = true
is_block _ = false

unfoldable pub is_expression : SyntaxKind → Bool
is_expression kind = is_operand kind || (is_operation kind || is_block kind)

-- a rule asks for nodes of the kind of its pattern's root, and one of expressions for all expressions
abbrev pub asks : SyntaxKind → SyntaxKind → Bool
asks pattern code = same_kind pattern code || (is_expression pattern && is_expression code)

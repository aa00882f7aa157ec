-- Forms of blocks, loops and choices.
use Rattle.std.specs.Prelude.{Bool, List, [], ◌∷◌, ◌++◌}
use Rattle.ssr_syntax_kinds.specs.declared.kinds.SyntaxKind.{SyntaxKind}
use Rattle.ssr_syntax_kinds.specs.declared.kinds.SyntaxKind.TheVariants as k
use Rattle.ssr_syntax_types.specs.declared.goals.Goal.{Goal}
use Rattle.ssr_syntax_types.specs.declared.goals.Goal.TheVariants.{Expr, Condition, Pat, StmtList, If, Arm}
use Rattle.ssr_syntax_types.specs.declared.goals.ExprPlace.TheVariants.{BeforeBlock}
use Rattle.ssr_syntax_types.specs.declared.goals.PatPlace.TheVariants.{TopLevel}
use Rattle.ssr_syntax_forms.specs.Kinds.{where_whole}
use Rattle.ssr_syntax_forms.specs.Forms.{Form, ◌then◌, child, mark, seal, nothing, choose, decide, also, a, at, optional, repeated}
use Rattle.ssr_syntax_types.specs.TokenTrees.{inner_attrs}
use Rattle.ssr_syntax_types.specs.Paths.{lifetime}
use Rattle.ssr_syntax_types.specs.PatternSets.{pat_first}

unfoldable pub stated_block_words : List SyntaxKind
stated_block_words = k.UNSAFE_KW ∷ k.LIFETIME_IDENT ∷ k.IF_KW ∷ k.MATCH_KW ∷ k.LOOP_KW ∷ k.WHILE_KW ∷ k.FOR_KW ∷ []

-- what else a block-like expression of all of Rust begins with
abbrev pub whole_block_words : List SyntaxKind
whole_block_words = k.CONST_KW ∷ []

-- what a block-like expression begins with, but for a brace; with `true`, where all of Rust is read
unfoldable pub block_words : Bool → List SyntaxKind
block_words is_whole = stated_block_words ++ where_whole is_whole whole_block_words

unfoldable pub block_first : Bool → List SyntaxKind
block_first is_whole = k.L_CURLY ∷ block_words is_whole

unfoldable pub arm_first : List SyntaxKind
arm_first = k.POUND ∷ pat_first

-- ** Blocks.

-- as other nodes have it: with no label, and without `unsafe`
unfoldable pub block_expr : Form Goal
block_expr = child StmtList then seal k.BLOCK_EXPR

unfoldable pub label : Form Goal
label = mark lifetime then a k.COLON then seal k.LABEL

unfoldable pub unsafe_or_plain_block : Form Goal
unsafe_or_plain_block = optional (k.UNSAFE_KW ∷ []) (a k.UNSAFE_KW) then child StmtList then seal k.BLOCK_EXPR

-- ** Loops. All since the mark is the label, if there is one.

unfoldable pub loop_expr : Form Goal
loop_expr = a k.LOOP_KW then mark block_expr then seal k.LOOP_EXPR

unfoldable pub while_expr : Form Goal
while_expr = a k.WHILE_KW then child (Condition BeforeBlock) then mark block_expr then seal k.WHILE_EXPR

unfoldable pub for_expr : Form Goal
for_expr =
    a k.FOR_KW then child (Pat TopLevel) then a k.IN_KW then child (Expr BeforeBlock) then mark block_expr
    then seal k.FOR_EXPR

unfoldable pub block_or_loop : Form Goal
block_or_loop =
    choose (at (k.LOOP_KW ∷ [])) loop_expr
    (choose (at (k.WHILE_KW ∷ [])) while_expr
    (choose (at (k.FOR_KW ∷ [])) for_expr
    unsafe_or_plain_block))

unfoldable pub labelled : Form Goal
labelled = optional (k.LIFETIME_IDENT ∷ []) (mark label) then block_or_loop

-- ** Choices.

unfoldable pub if_or_block : Form Goal
if_or_block = choose (at (k.IF_KW ∷ [])) (child If) (mark block_expr)

unfoldable pub else_branch : Form Goal
else_branch = a k.ELSE_KW then if_or_block

unfoldable pub if_expr : Form Goal
if_expr =
    a k.IF_KW then child (Condition BeforeBlock) then mark block_expr then decide (at (k.ELSE_KW ∷ [])) else_branch nothing
    then seal k.IF_EXPR

unfoldable pub match_arm_list : Form Goal
match_arm_list = a k.L_CURLY then inner_attrs then repeated arm_first (child Arm) then a k.R_CURLY then seal k.MATCH_ARM_LIST

unfoldable pub match_expr : Form Goal
match_expr = a k.MATCH_KW then child (Expr BeforeBlock) then mark match_arm_list then seal k.MATCH_EXPR

unfoldable pub stated_block_like : Form Goal
stated_block_like =
    choose (at (k.IF_KW ∷ [])) (mark if_expr)
    (choose (at (k.MATCH_KW ∷ [])) (mark match_expr)
    (mark labelled))

unfoldable pub const_block : Form Goal
const_block = a k.CONST_KW then child StmtList then seal k.BLOCK_EXPR

unfoldable pub block_like : Form Goal
block_like = also (k.CONST_KW ∷ []) (mark const_block) stated_block_like

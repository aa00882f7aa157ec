-- What the grammar's goals begin with, and what may stand behind them: the tables by which `ssr_syntax` reads what fits. They
-- are told here again, since its proof that all that fits is read isn't for other crates.
use Rattle.std.proofs.Common.{ℕ, zero, suc, Bool, true, false, List, [], ◌∷◌, ◌++◌}
use Rattle.ssr_syntax_kinds.specs.declared.kinds.SyntaxKind.{SyntaxKind}
use Rattle.ssr_syntax_kinds.specs.declared.kinds.SyntaxKind.TheVariants.{IDENT, AS_KW, BANG, ELSE_KW, FOR_KW, IF_KW, IN_KW, LET_KW, WHERE_KW, COLON, COLON2, EQ, FAT_ARROW, L_CURLY, R_PAREN, R_CURLY, R_BRACK, SEMICOLON, COMMA, QUESTION}
use Rattle.ssr_syntax_kinds.specs.declared.reach.Reach.{Reach}
use Rattle.ssr_syntax_kinds.specs.Reach.{is_whole}
use Rattle.ssr_syntax_types.specs.declared.goals.Goal.{Goal}
use Rattle.ssr_syntax_types.specs.declared.goals.Goal.TheVariants.{File, Expr, Condition, Operand, Unary, Ty, PathType, GenericArgs, ForBinder, TokenTree, Pat, StmtList, Stmt, Arm, If, Item, UseTree, Items, Stmts}
use Rattle.ssr_syntax_types.specs.declared.goals.ExprPlace.{ExprPlace}
use Rattle.ssr_syntax_types.specs.declared.goals.ExprPlace.TheVariants.{Anywhere, BeforeBlock}
use Rattle.ssr_syntax_types.specs.declared.goals.PatPlace.TheVariants.{TopLevel}
use Rattle.ssr_syntax_types.specs.declared.goals.ItemPlace.TheVariants.{InModule, AsStmt, InImpl, InTrait, InExtern}
use Rattle.ssr_syntax_forms.specs.Kinds.{where_whole}
use Rattle.ssr_syntax_forms.specs.Forms.{END}
use Rattle.ssr_syntax_types.specs.Paths.{path_first, type_first, open_angle}
use Rattle.ssr_syntax_types.specs.TokenTrees.{opening, tree_first}
use Rattle.ssr_syntax_types.specs.PatternSets.{pat_first, ranges, single_pat_first}
use Rattle.ssr_syntax_exprs.specs.Blocks.{arm_first}
use Rattle.ssr_syntax_exprs.specs.Atoms.{bars, operand_first, expr_first}
use Rattle.ssr_syntax_exprs.specs.Expressions.{ranks, assignments}
use Rattle.ssr_syntax_items.specs.Items.{extern_item_first, whole_item_words, module_item_first, stmt_item_first, impl_item_first, trait_item_first}
use Rattle.ssr_syntax_item_parts.specs.Uses.{use_first}
use Rattle.ssr_syntax_items.specs.Statements.{stmt_first}
use Rattle.ssr_syntax_forms.proofs.Shared.{Tables}

-- what may stand behind an expression, a pattern or what USE names, where no block does
abbrev ends : List SyntaxKind
ends = END ∷ SEMICOLON ∷ COMMA ∷ R_PAREN ∷ R_CURLY ∷ R_BRACK ∷ FAT_ARROW ∷ ELSE_KW ∷ []

abbrev behind_expr : ExprPlace → List SyntaxKind
behind_expr Anywhere = ends
behind_expr BeforeBlock = L_CURLY ∷ ends

-- what may stand behind an operand of so many ranks: what binds less tightly
abbrev behind_operand : ℕ → List (List SyntaxKind) → List SyntaxKind
behind_operand r [] = ranges ++ assignments
behind_operand zero (ks ∷ rows) = ks ++ behind_operand zero rows
behind_operand (suc r) (ks ∷ rows) = behind_operand r rows

-- what may stand behind an operand without casts
abbrev behind_unary : ExprPlace → List SyntaxKind
behind_unary place = AS_KW ∷ behind_operand zero ranks ++ behind_expr place

-- what may stand behind a type
abbrev behind_type : Bool → List SyntaxKind
behind_type is_whole = COLON ∷ COLON2 ∷ FOR_KW ∷ WHERE_KW ∷ behind_unary BeforeBlock ++ where_whole is_whole (BANG ∷ [])

-- what may stand behind a pattern, but for a bar
abbrev behind_pat : List SyntaxKind
behind_pat = COLON ∷ EQ ∷ IF_KW ∷ IN_KW ∷ ends

-- any token, or none
abbrev anything : List SyntaxKind
anything = END ∷ R_PAREN ∷ R_CURLY ∷ R_BRACK ∷ tree_first

-- the kinds that begin a tree; with `true`, where all of Rust is read
abbrev first_of : Bool → Goal → List SyntaxKind
first_of is_whole = elim [
  | File ↦ module_item_first is_whole
  | Condition _ ↦ LET_KW ∷ expr_first is_whole
  | Operand _ _ ↦ operand_first is_whole
  | Unary _ ↦ operand_first is_whole
  | Ty ↦ type_first is_whole
  | PathType ↦ path_first
  | GenericArgs ↦ COLON2 ∷ open_angle
  | ForBinder ↦ FOR_KW ∷ []
  | TokenTree ↦ opening
  | Pat TopLevel ↦ pat_first
  | Pat _ ↦ single_pat_first
  | StmtList ↦ L_CURLY ∷ []
  | Stmt ↦ stmt_first is_whole
  | Arm ↦ arm_first
  | If ↦ IF_KW ∷ []
  | Item InModule ↦ module_item_first is_whole
  | Item AsStmt ↦ IDENT ∷ stmt_item_first ++ where_whole is_whole whole_item_words
  | Item InImpl ↦ impl_item_first is_whole
  | Item InTrait ↦ trait_item_first is_whole
  | Item InExtern ↦ extern_item_first
  | UseTree ↦ use_first
  | Items ↦ module_item_first is_whole
  | Stmts ↦ stmt_first is_whole
  | _ ↦ expr_first is_whole
]

-- the kinds that may stand behind a tree
abbrev follow_of : Bool → Goal → List SyntaxKind
follow_of is_whole = elim [
  | Expr place ↦ behind_expr place
  | Condition place ↦ behind_expr place
  | Operand place r ↦ behind_operand r ranks ++ behind_expr place
  | Unary place ↦ behind_unary place
  | Ty ↦ behind_type is_whole
  | PathType ↦ behind_type is_whole
  | Pat TopLevel ↦ behind_pat
  | Pat _ ↦ bars ++ behind_pat
  | UseTree ↦ ends
  | Arm ↦ END ∷ R_CURLY ∷ arm_first
  | Item _ ↦ END ∷ R_CURLY ∷ module_item_first is_whole ++ stmt_first is_whole
  | GenericArgs ↦ anything
  | ForBinder ↦ END ∷ QUESTION ∷ type_first is_whole
  | TokenTree ↦ anything
  | StmtList ↦ anything
  | If ↦ anything
  | _ ↦ END ∷ []
]

abbrev pub tables : Reach → Tables Goal
tables reach = record {
  is_empty = elim [ File ↦ true | Items ↦ true | Stmts ↦ true | _ ↦ false ];
  first = first_of (is_whole reach);
  follow = follow_of (is_whole reach);
  rank = λ goal. 0;
  ranks = 1;
}

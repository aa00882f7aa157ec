-- The check of the whole grammar: no look of any goal sees past a brace that closes, on the way from an expression none asks
-- for a delimiter, and each goal keeps what the tables claim of it.
use Rattle.std.proofs.Common.{◌≡◌, zero, suc, ◌<◌, nat_lt, Bool, true, false, not, ◌&&◌, ◌||◌, if◌then◌else◌, List, refl, sym, ap, ◌∙◌}
use Rattle.std.proofs.lemmas.Bool.{and_parts, ltb-true}
use Rattle.ssr_syntax_kinds.specs.declared.reach.Reach.{Reach}
use Rattle.ssr_syntax_kinds.specs.declared.reach.Reach.TheVariants.{Stated, Whole}
use Rattle.ssr_syntax_types.specs.declared.goals.Goal.{Goal}
use Rattle.ssr_syntax_types.specs.declared.goals.Goal.TheVariants.{Expr, Condition, Operand, Unary, Pat, StmtList, Item}
use Rattle.ssr_syntax_types.specs.declared.goals.ExprPlace.TheVariants.{Anywhere, BeforeBlock}
use Rattle.ssr_syntax_types.specs.declared.goals.PatPlace.TheVariants.{TopLevel, NoBar, BehindAmp}
use Rattle.ssr_syntax_types.specs.declared.goals.ItemPlace.TheVariants.{InModule, AsStmt, InImpl, InTrait, InExtern}
use Rattle.ssr_syntax_forms.specs.Kinds.{mem, where_whole}
use Rattle.ssr_syntax_forms.specs.Forms.{Form, END, comma_list, as_long_as, also, also_decide, settle, choose_by, look_by, repeated_by, as_long_as_by, comma_by, comma_list_by}
use Rattle.ssr_syntax_types.specs.Literals as lits
use Rattle.ssr_syntax_types.specs.Paths as path
use Rattle.ssr_syntax_types.specs.Paths.{path_first, type_first, open_angle}
use Rattle.ssr_syntax_types.specs.Types as types
use Rattle.ssr_syntax_types.specs.TokenTrees as trees
use Rattle.ssr_syntax_types.specs.TokenTrees.{opening, tree_first}
use Rattle.ssr_syntax_types.specs.PatternSets as sets
use Rattle.ssr_syntax_types.specs.PatternSets.{pat_first, ranges, single_pat_first}
use Rattle.ssr_syntax_patterns.specs.Patterns as pats
use Rattle.ssr_syntax_exprs.specs.Blocks as block
use Rattle.ssr_syntax_exprs.specs.Blocks.{arm_first}
use Rattle.ssr_syntax_exprs.specs.Atoms as atom
use Rattle.ssr_syntax_exprs.specs.Atoms.{bars, operand_first, expr_first}
use Rattle.ssr_syntax_exprs.specs.Expressions as expr
use Rattle.ssr_syntax_exprs.specs.Expressions.{ranks, assignments}
use Rattle.ssr_syntax_exprs.specs.GenericArgs as args
use Rattle.ssr_syntax_item_parts.specs.Params as params
use Rattle.ssr_syntax_items.specs.Items as item
use Rattle.ssr_syntax_items.specs.Items.{extern_item_first, whole_item_words, module_item_first, stmt_item_first, impl_item_first, trait_item_first}
use Rattle.ssr_syntax_item_parts.specs.Adts as adt
use Rattle.ssr_syntax_item_parts.specs.Uses as uses
use Rattle.ssr_syntax_item_parts.specs.Uses.{use_first}
use Rattle.ssr_syntax_exprs.specs.Conditions as cond
use Rattle.ssr_syntax_items.specs.Statements as stmts
use Rattle.ssr_syntax_items.specs.Statements.{stmt_first}
use Rattle.ssr_syntax.specs.Grammar.{grammar, grammar_of}
use Rattle.ssr_syntax_forms.specs.Fitting.{Fits}
use Rattle.ssr_syntax_forms.specs.Trees.{Forest, done}
use Rattle.ssr_syntax_forms.specs.Forms.{next}
use Rattle.ssr_syntax_forms.specs.declared.tokens.Token.{Token}
use Rattle.ssr_syntax_forms.proofs.Shared.{Tables, keeps, covered, lower_ranks}
use Rattle.ssr_syntax_places.specs.Delimited.{is_within, delimiters, are_whole}
use Rattle.ssr_syntax_places.specs.Placing.{blocks}
use Rattle.ssr_syntax_places.proofs.Tables.{tables}
use Rattle.ssr_syntax_places.proofs.PartLeaves.{any_part, other_part, keeps_parts}
use Rattle.ssr_syntax_places.proofs.Placed.{is_clear, is_owner, Owned}
use Rattle.ssr_syntax_places.proofs.Closing.{stops, AllStop, closes, closing}
use Rattle.ssr_syntax_places.proofs.Delimiters.{whole_keeps, delimited, AllDelimited, within}

-- what is asked of the tables, so that what fits is read
abbrev is_kept : Reach → Goal → Form Goal → Bool
is_kept reach goal form =
    let t : Tables Goal = tables reach in
    keeps t goal form && covered (lower_ranks t.rank goal) false form && nat_lt (t.rank goal) t.ranks && mem END (t.follow goal)

abbrev checks : Reach → Goal → Form Goal → Bool
checks reach goal form =
    stops form && (not (is_within goal) || delimited is_within form)
    && (if blocks.owns goal then is_owner blocks.kind blocks.asks form else is_clear blocks.kind blocks.asks form)
    && is_kept reach goal form && (keeps_parts any_part form && keeps_parts other_part form)

checked : (reach : Reach) (goal : Goal) → checks reach goal (grammar_of reach goal) ≡ true
unfolding grammar comma_list as_long_as also also_decide settle choose_by look_by repeated_by as_long_as_by comma_by comma_list_by where_whole lits.literals lits.literal path.name path.name_ref path.number_ref path.path_name path.lifetime path.path_first path.stated_type_first path.type_first path.expr_generics path.type_arg path.parenthesized_arg_list path.ret_type path.function_generics path.colon_generics path.type_generics path.generics path.path_segment path.first_segment path.anchored_type path.type_anchor path.longer_path path.anchored_path path.plain_path path.shortest_path path.path path.simple_path types.path_type types.ref_type types.ptr_type types.never_type types.infer_type types.unit_type types.paren_type types.tuple_type types.paren_or_tuple_type types.type_in_parentheses types.array_type types.slice_type types.type_in_brackets types.lifetime_bound types.bounding_path types.trait_bound types.paren_bound types.use_arg types.use_args types.use_bound types.stated_bound types.type_bound types.stated_bound_first types.type_bound_first types.bound_or_end types.further_bound types.type_bound_list types.dyn_trait_type types.impl_trait_type types.bounds_or_none types.abi types.variadic types.variadic_or_type types.ignored_name types.told_name types.fn_ptr_name types.named_fn_ptr_param types.named_or_bare_param types.fn_ptr_param types.fn_ptr_param_first types.fn_ptr_params types.fn_ptr_type types.for_type types.macro_type types.path_or_macro_type types.worded_type types.other_type types.any_type trees.opening trees.words trees.punctuation trees.joined_punctuation trees.loose trees.tree_first trees.token_tree_item trees.curly_tree trees.paren_tree trees.bracket_tree trees.paren_or_bracket_tree trees.token_tree trees.attr trees.inner_attr trees.attrs trees.some_attrs trees.inner_attrs sets.ranges sets.literal_pat_first sets.bound_first sets.pat_marks sets.single_pat_first sets.pat_first sets.param_first pats.stated_field_first pats.pat_field_first pats.pat_field_or_rest pats.unit_pat pats.paren_pat pats.pats pats.tuple_pat pats.paren_or_tuple_pat pats.pat_in_parentheses pats.wildcard_pat pats.slice_pat pats.ref_pat_mut pats.ref_pat pats.literal_pat pats.bound_path pats.range_bound pats.range_pat_to pats.range_pat_to_inclusive pats.range_pat_behind_bound pats.range_pat_end pats.range_pat_to_bound pats.rest_or_range_pat_to pats.range_pat_without_start pats.rest_pat pats.rest_or_range_pat pats.literal_or_range_pat pats.ident_pat pats.tuple_struct_pat pats.named_pat_field pats.numbered_pat_field pats.shorthand_pat_field pats.numbered_or_shorthand pats.bare_pat_field pats.attributed_pat_field pats.record_pat_field pats.stated_pat_field pats.record_pat_item pats.record_pat_rest pats.record_pat_field_list pats.record_pat pats.bare_path_pat pats.macro_pat pats.path_pat_end pats.stated_pat_end pats.path_pat pats.path_but_no_name pats.name_or_path_pat pats.named_pat pats.stated_named_pat pats.single_pat pats.next_pat pats.or_pat pats.single_or_pats pats.any_pat pats.pat block.stated_block_words block.block_words block.block_first block.arm_first block.block_expr block.label block.unsafe_or_plain_block block.loop_expr block.while_expr block.for_expr block.block_or_loop block.labelled block.if_or_block block.else_branch block.if_expr block.match_arm_list block.match_expr block.stated_block_like block.const_block block.block_like atom.leaving_first atom.stated_marks atom.operand_marks atom.braceless_first atom.operand_first atom.expr_first atom.field_value_first atom.unit_expr atom.paren_expr atom.tuple_expr atom.paren_or_tuple_expr atom.expr_in_parentheses atom.empty_array atom.repeated_item atom.array_items atom.array_of_items atom.array_expr atom.named_field atom.numbered_field atom.shorthand_field atom.bare_field atom.numbered_or_bare atom.field_behind_attrs atom.attributed_field atom.record_expr_field atom.stated_record_field atom.record_item atom.base_value atom.record_base atom.record_expr_field_list atom.record_expr atom.path_or_record atom.macro_expr atom.path_expr atom.continue_expr atom.return_expr atom.break_target atom.break_expr atom.closure_param atom.closure_param_list atom.typed_closure atom.plain_closure atom.closure_body atom.closure_expr atom.async_closure atom.leaving_expr atom.async_block atom.underscore_expr expr.assignments expr.block_or_mark expr.atom expr.arg_list expr.call_expr expr.index_expr expr.try_expr expr.field_expr expr.method_call_expr expr.generic_method_call_expr expr.generic_method_call_or_field expr.named_member expr.numbered_member expr.field_or_method expr.await_expr expr.member expr.postfix expr.postfixes expr.postfix_expr expr.raw_word expr.raw_words expr.ref_words expr.ref_expr expr.prefix_expr expr.attr_expr expr.operator_first expr.leaving_operand expr.async_operand expr.leaving_or_postfix expr.attributed_or_postfix expr.unary expr.cast_expr expr.casts expr.operators expr.operation expr.operations expr.climb expr.operand expr.ends_first expr.range_end expr.to_range expr.to_inclusive_range expr.range expr.assignment expr.range_or_assignment expr.leading_range expr.ranked expr.leaving_or_ranked expr.expr cond.let_expr cond.let_operand cond.tighter_operand cond.let_or_operand cond.and_let cond.lets cond.let_chain cond.looser cond.first_let cond.lets_behind cond.conjunction_end cond.conjunction cond.condition_of cond.leaving_or_condition cond.condition args.lifetime_arg args.literal_arg args.negative_literal args.negative_arg args.block_arg args.assoc_type_arg args.assoc_bound_arg args.generic_arg args.stated_generic_arg args.generic_arg_marks args.generic_arg_first args.generic_arg_list params.stated_param_first params.generic_param_first params.where_pred_first params.lifetime_param params.const_param params.type_param params.bare_generic_param params.attributed_generic_param params.generic_param params.stated_generic_param params.generic_param_list params.for_binder params.generic_params params.lifetime_or_type params.where_pred params.where_clause params.wheres params.self_name params.self_reference params.self_param params.param_type params.bare_param params.param params.variadic_param params.any_param params.params params.params_behind_self params.self_or_param params.attributed_first params.params_behind_attributed params.stated_params params.any_params params.param_list params.own_name params.own_segment params.own_path params.in_path params.restricting_path params.restriction params.visibility params.field_restriction params.field_visibility uses.macro_path_first uses.use_first uses.name_or_underscore uses.rename uses.use_tree_list uses.star_or_list uses.further_use uses.use_tree_end uses.use_tree_of_path uses.use_tree_of_all uses.use_tree uses.use_item adt.tuple_field_first adt.record_field adt.record_field_list adt.tuple_field adt.tuple_field_list adt.tuple_struct adt.fields_or_none adt.record_struct adt.struct_rest adt.struct_item adt.variant_fields adt.variant adt.variant_list adt.enum_item item.named_item_first item.stmt_item_first item.module_item_first item.trait_item_words item.impl_item_words item.impl_item_first item.trait_item_first item.extern_item_words item.extern_item_first item.block_or_none item.fn_body item.async_word item.abi_or_none item.fn_words item.function item.impl_item_list item.trait_item_list item.negative_impl item.positive_impl item.impl_types item.impl_params item.impl_item item.trait_rest item.trait_item item.aliased_type item.type_alias item.const_item item.static_item item.item_list item.items_or_none item.mod_item item.curly_macro_end item.other_macro_end item.macro_end item.macro_item item.macro_rules_rest item.macro_rules item.crate_name item.extern_crate item.extern_item_list item.extern_block item.foreign_static item.foreign_type_or_value item.bare_foreign_item item.foreign_item item.safe_word item.safe_foreign_item item.safe_or_bare_item item.macro_or_foreign_item item.item_in_extern item.union_word item.union_item item.union_or_stated item.stated_type_or_value item.extern_or_stated item.type_or_value_item item.stated_named_item item.named_item item.visible_item item.assoc_value_or_type item.stated_assoc_item item.assoc_item item.visible_assoc_item item.stated_module_item item.module_item item.macro_rules_or_module_item item.item_in_module item.macro_rules_or_visible_item item.item_as_stmt item.item_in_impl item.item_in_trait item.item_behind_attrs item.item item.source_file item.macro_items stmts.leading_first stmts.item_stmt_first stmts.stmt_first stmts.expr_stmt stmts.lone_expr_stmt stmts.stmt_or_tail stmts.ending stmts.bare_stmt_or_tail stmts.block_stmt_or_tail stmts.block_end stmts.going_on stmts.continued stmts.behind_block stmts.block_leading stmts.curly_macro_expr stmts.other_macro_expr stmts.curly_macro stmts.other_macro stmts.leading_path stmts.path_leading stmts.other_leading stmts.blockless_leading stmts.leading stmts.match_guard stmts.match_arm stmts.let_else_block stmts.let_else stmts.initializer stmts.let_end stmts.let_rest stmts.let_stmt stmts.stated_expr_or_item stmts.const_block_or_stated stmts.expr_or_item_stmt stmts.empty_stmt stmts.attributed_end stmts.semicolon_or_none stmts.attributed_block stmts.attributed_expr stmts.curly_call stmts.other_call stmts.attributed_curly_macro stmts.attributed_other_macro stmts.attributed_macro_end stmts.attributed_macro stmts.attributed_expr_or_macro stmts.attributed_expr_stmt stmts.attributed_other stmts.attributed_rest stmts.attributed stmts.let_or_other_stmt stmts.attributed_or_other stmts.stmt stmts.stmt_list stmts.macro_stmts stmts.stated_lone stmts.const_block_or_lone stmts.lone_expr_or_item stmts.let_or_other_lone stmts.attributed_or_lone stmts.lone_stmt
checked Stated (Operand Anywhere zero) = refl
checked Stated (Operand Anywhere (suc zero)) = refl
checked Stated (Operand Anywhere (suc (suc zero))) = refl
checked Stated (Operand Anywhere (suc (suc (suc zero)))) = refl
checked Stated (Operand Anywhere (suc (suc (suc (suc zero))))) = refl
checked Stated (Operand Anywhere (suc (suc (suc (suc (suc zero)))))) = refl
checked Stated (Operand Anywhere (suc (suc (suc (suc (suc (suc zero))))))) = refl
checked Stated (Operand Anywhere (suc (suc (suc (suc (suc (suc (suc zero)))))))) = refl
checked Stated (Operand Anywhere (suc (suc (suc (suc (suc (suc (suc (suc zero))))))))) = refl
checked Stated (Operand Anywhere (suc (suc (suc (suc (suc (suc (suc (suc (suc n)))))))))) = refl
checked Stated (Expr Anywhere) = refl
checked Stated (Condition Anywhere) = refl
checked Stated (Unary Anywhere) = refl
checked Stated (Operand BeforeBlock zero) = refl
checked Stated (Operand BeforeBlock (suc zero)) = refl
checked Stated (Operand BeforeBlock (suc (suc zero))) = refl
checked Stated (Operand BeforeBlock (suc (suc (suc zero)))) = refl
checked Stated (Operand BeforeBlock (suc (suc (suc (suc zero))))) = refl
checked Stated (Operand BeforeBlock (suc (suc (suc (suc (suc zero)))))) = refl
checked Stated (Operand BeforeBlock (suc (suc (suc (suc (suc (suc zero))))))) = refl
checked Stated (Operand BeforeBlock (suc (suc (suc (suc (suc (suc (suc zero)))))))) = refl
checked Stated (Operand BeforeBlock (suc (suc (suc (suc (suc (suc (suc (suc zero))))))))) = refl
checked Stated (Operand BeforeBlock (suc (suc (suc (suc (suc (suc (suc (suc (suc n)))))))))) = refl
checked Stated (Expr BeforeBlock) = refl
checked Stated (Condition BeforeBlock) = refl
checked Stated (Unary BeforeBlock) = refl
checked Stated (Pat TopLevel) = refl
checked Stated (Pat NoBar) = refl
checked Stated (Pat BehindAmp) = refl
checked Stated (Item InModule) = refl
checked Stated (Item AsStmt) = refl
checked Stated (Item InImpl) = refl
checked Stated (Item InTrait) = refl
checked Stated (Item InExtern) = refl
checked Stated _ = refl
checked Whole (Operand Anywhere zero) = refl
checked Whole (Operand Anywhere (suc zero)) = refl
checked Whole (Operand Anywhere (suc (suc zero))) = refl
checked Whole (Operand Anywhere (suc (suc (suc zero)))) = refl
checked Whole (Operand Anywhere (suc (suc (suc (suc zero))))) = refl
checked Whole (Operand Anywhere (suc (suc (suc (suc (suc zero)))))) = refl
checked Whole (Operand Anywhere (suc (suc (suc (suc (suc (suc zero))))))) = refl
checked Whole (Operand Anywhere (suc (suc (suc (suc (suc (suc (suc zero)))))))) = refl
checked Whole (Operand Anywhere (suc (suc (suc (suc (suc (suc (suc (suc zero))))))))) = refl
checked Whole (Operand Anywhere (suc (suc (suc (suc (suc (suc (suc (suc (suc n)))))))))) = refl
checked Whole (Expr Anywhere) = refl
checked Whole (Condition Anywhere) = refl
checked Whole (Unary Anywhere) = refl
checked Whole (Operand BeforeBlock zero) = refl
checked Whole (Operand BeforeBlock (suc zero)) = refl
checked Whole (Operand BeforeBlock (suc (suc zero))) = refl
checked Whole (Operand BeforeBlock (suc (suc (suc zero)))) = refl
checked Whole (Operand BeforeBlock (suc (suc (suc (suc zero))))) = refl
checked Whole (Operand BeforeBlock (suc (suc (suc (suc (suc zero)))))) = refl
checked Whole (Operand BeforeBlock (suc (suc (suc (suc (suc (suc zero))))))) = refl
checked Whole (Operand BeforeBlock (suc (suc (suc (suc (suc (suc (suc zero)))))))) = refl
checked Whole (Operand BeforeBlock (suc (suc (suc (suc (suc (suc (suc (suc zero))))))))) = refl
checked Whole (Operand BeforeBlock (suc (suc (suc (suc (suc (suc (suc (suc (suc n)))))))))) = refl
checked Whole (Expr BeforeBlock) = refl
checked Whole (Condition BeforeBlock) = refl
checked Whole (Unary BeforeBlock) = refl
checked Whole (Pat TopLevel) = refl
checked Whole (Pat NoBar) = refl
checked Whole (Pat BehindAmp) = refl
checked Whole (Item InModule) = refl
checked Whole (Item AsStmt) = refl
checked Whole (Item InImpl) = refl
checked Whole (Item InTrait) = refl
checked Whole (Item InExtern) = refl
checked Whole _ = refl

pub all_stop : (reach : Reach) → AllStop (grammar_of reach)
all_stop reach asked = (and_parts _ _ (and_parts _ _ (and_parts _ _ (and_parts _ _ (checked reach asked)).0).0).0).0

all_delimited : (reach : Reach) → AllDelimited (grammar_of reach) is_within
all_delimited reach asked is =
    ap (λ x. not x || delimited is_within (grammar_of reach asked)) (sym is) ∙ (and_parts _ _ (and_parts _ _ (and_parts _ _ (and_parts _ _ (checked reach asked)).0).0).0).1

-- what is asked for on the way from an expression fits before one delimiter exactly if it fits before another, or at the end
pub delimited_alike : (reach : Reach) (asked : Goal) (z : Forest) (us a b : List Token) → is_within asked ≡ true → are_whole us ≡ true
    → mem (next a) delimiters ≡ true → mem (next b) delimiters ≡ true → Fits (grammar_of reach) (grammar_of reach asked) done z us a
    → Fits (grammar_of reach) (grammar_of reach asked) done z us b
delimited_alike reach asked z us a b is whole at_a at_b =
    within (grammar_of reach) is_within (all_stop reach) (all_delimited reach) asked is z us a b whole at_a at_b

list_closes : (reach : Reach) → closes (grammar_of reach StmtList) ≡ true
unfolding grammar stmts.stmt_list trees.inner_attrs repeated_by as_long_as
list_closes Stated = refl
list_closes Whole = refl

-- statements in braces fit whatever stands behind them
pub block_anywhere : (reach : Reach) (z : Forest) (us a b : List Token) → are_whole us ≡ true
    → Fits (grammar_of reach) (grammar_of reach StmtList) done z us a → Fits (grammar_of reach) (grammar_of reach StmtList) done z us b
block_anywhere reach z us a b whole fits =
    closing (grammar_of reach) (all_stop reach) (grammar_of reach StmtList) done z us a b (list_closes reach) (all_stop reach StmtList) (whole_keeps us whole) fits

-- blocks are owned by the goal of statements in braces
pub blocks_owned : (reach : Reach) → Owned (grammar_of reach) blocks
blocks_owned reach = record {
  owners = λ asked is.
      ap (λ b. if b then is_owner blocks.kind blocks.asks (grammar_of reach asked) else is_clear blocks.kind blocks.asks (grammar_of reach asked)) (sym is)
      ∙ (and_parts _ _ (and_parts _ _ (and_parts _ _ (checked reach asked)).0).0).1;
  others = λ asked is.
      ap (λ b. if b then is_owner blocks.kind blocks.asks (grammar_of reach asked) else is_clear blocks.kind blocks.asks (grammar_of reach asked)) (sym is)
      ∙ (and_parts _ _ (and_parts _ _ (and_parts _ _ (checked reach asked)).0).0).1;
}

-- the tables hold of the grammar
pub record IsKept (reach : Reach) (goal : Goal) : Type 0 where
  pub keeps : keeps (tables reach) goal (grammar_of reach goal) ≡ true
  pub covers : covered (lower_ranks (tables reach).rank goal) false (grammar_of reach goal) ≡ true
  pub ranked : (tables reach).rank goal < (tables reach).ranks
  pub may_end : mem END ((tables reach).follow goal) ≡ true

pub all_kept : (reach : Reach) (goal : Goal) → IsKept reach goal
all_kept reach goal =
    let may_end = and_parts _ _ (and_parts _ _ (and_parts _ _ (checked reach goal)).0).1 in
    let ranked = and_parts _ _ may_end.0 in
    let covers = and_parts _ _ ranked.0 in
    record {
      keeps = covers.0;
      covers = covers.1;
      ranked = ltb-true ((tables reach).rank goal) (tables reach).ranks ranked.1;
      may_end = may_end.1;
    }

-- only some nodes have parts of joined tokens as children
pub all_keep_parts : (reach : Reach) (goal : Goal) → (keeps_parts any_part (grammar_of reach goal) ≡ true) × (keeps_parts other_part (grammar_of reach goal) ≡ true)
all_keep_parts reach goal = and_parts _ _ (and_parts _ _ (checked reach goal)).1

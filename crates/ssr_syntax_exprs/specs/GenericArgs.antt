-- Forms of generic arguments in angle brackets.
use Rattle.std.specs.Prelude.{Bool, List, [], ◌∷◌, ◌++◌}
use Rattle.ssr_syntax_kinds.specs.declared.kinds.SyntaxKind.{SyntaxKind}
use Rattle.ssr_syntax_kinds.specs.declared.kinds.SyntaxKind.TheVariants as k
use Rattle.ssr_syntax_types.specs.declared.goals.Goal.{Goal}
use Rattle.ssr_syntax_types.specs.declared.goals.Goal.TheVariants.{Ty}
use Rattle.ssr_syntax_forms.specs.Forms.{Form, Test, child, mark, seal, ◌then◌, choose, decide, also_decide, a, part, at, optional, comma_list_by}
use Rattle.ssr_syntax_types.specs.Paths.{name_colon, name_ref, lifetime, open_angle, close_angle, type_first, type_arg}
use Rattle.ssr_syntax_types.specs.Types.{bounds_or_none}
use Rattle.ssr_syntax_types.specs.Literals.{literals, literal}
use Rattle.ssr_syntax_exprs.specs.Blocks.{block_expr}

unfoldable pub lifetime_arg : Form Goal
lifetime_arg = mark lifetime then seal k.LIFETIME_ARG

unfoldable pub literal_arg : Form Goal
literal_arg = mark literal then seal k.CONST_ARG

unfoldable pub negative_literal : Form Goal
negative_literal = a k.MINUS then mark literal then seal k.PREFIX_EXPR

unfoldable pub negative_arg : Form Goal
negative_arg = mark negative_literal then seal k.CONST_ARG

unfoldable pub block_arg : Form Goal
block_arg = mark block_expr then seal k.CONST_ARG

unfoldable pub assoc_type_arg : Form Goal
assoc_type_arg = mark name_ref then a k.EQ then child Ty then seal k.ASSOC_TYPE_ARG

-- a name and `=`
abbrev pub name_equals : Test
name_equals = ((k.IDENT ∷ []) ∷ (k.EQ ∷ []) ∷ []) ∷ []

-- in all of Rust, bounds of an associated type
unfoldable pub assoc_bound_arg : Form Goal
assoc_bound_arg = mark name_ref then a k.COLON then bounds_or_none then seal k.ASSOC_TYPE_ARG

unfoldable pub stated_generic_arg : Form Goal
stated_generic_arg =
    choose (at (k.LIFETIME_IDENT ∷ [])) (mark lifetime_arg)
    (choose (at literals) (mark literal_arg)
    (choose (at (k.MINUS ∷ [])) (mark negative_arg)
    (choose (at (k.L_CURLY ∷ [])) (mark block_arg)
    (decide name_equals (mark assoc_type_arg)
    (mark type_arg)))))

unfoldable pub generic_arg : Form Goal
generic_arg = also_decide name_colon (mark assoc_bound_arg) stated_generic_arg

-- what a generic argument begins with that is neither a literal nor a type
unfoldable pub generic_arg_marks : List SyntaxKind
generic_arg_marks = k.LIFETIME_IDENT ∷ k.MINUS ∷ k.L_CURLY ∷ []

unfoldable pub generic_arg_first : Bool → List SyntaxKind
generic_arg_first is_whole = generic_arg_marks ++ literals ++ type_first is_whole

unfoldable pub generic_arg_list : Form Goal
generic_arg_list =
    optional (k.COLON2 ∷ []) (a k.COLON2) then part open_angle then comma_list_by generic_arg_first generic_arg then part close_angle
    then seal k.GENERIC_ARG_LIST

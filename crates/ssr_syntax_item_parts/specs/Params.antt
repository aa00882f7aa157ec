-- Forms of parameters, of `where` and of visibility.
use Rattle.std.specs.Prelude.{Bool, List, [], ◌∷◌, ◌++◌}
use Rattle.ssr_syntax_kinds.specs.declared.kinds.SyntaxKind.{SyntaxKind}
use Rattle.ssr_syntax_kinds.specs.declared.kinds.SyntaxKind.TheVariants as k
use Rattle.ssr_syntax_types.specs.declared.goals.Goal.{Goal}
use Rattle.ssr_syntax_types.specs.declared.goals.Goal.TheVariants.{Ty, Pat}
use Rattle.ssr_syntax_types.specs.declared.goals.PatPlace.TheVariants.{NoBar}
use Rattle.ssr_syntax_forms.specs.Forms.{Form, Test, ◌then◌, child, mark, seal, nothing, choose, decide, also, also_decide, wide, a, any, part, at, optional, comma_list_by}
use Rattle.ssr_syntax_types.specs.Paths.{close_angle, lifetime, name, open_angle, simple_path, type_first}
use Rattle.ssr_syntax_types.specs.Types.{bounds_or_none, type_bound_list, variadic, variadic_or_type}
use Rattle.ssr_syntax_forms.specs.Kinds.{where_whole}
use Rattle.ssr_syntax_types.specs.TokenTrees.{attrs, some_attrs}
use Rattle.ssr_syntax_types.specs.PatternSets.{param_first}

unfoldable pub stated_param_first : List SyntaxKind
stated_param_first = k.IDENT ∷ k.LIFETIME_IDENT ∷ k.CONST_KW ∷ []

-- with `true`, where all of Rust is read
unfoldable pub generic_param_first : Bool → List SyntaxKind
generic_param_first is_whole = stated_param_first ++ where_whole is_whole (k.POUND ∷ [])

unfoldable pub where_pred_first : Bool → List SyntaxKind
where_pred_first is_whole = k.LIFETIME_IDENT ∷ type_first is_whole

abbrev pub ends_self : List SyntaxKind
ends_self = k.COLON ∷ k.COMMA ∷ k.R_PAREN ∷ []

abbrev pub self_ahead : Test
self_ahead =
    ((k.SELF_KW ∷ []) ∷ ends_self ∷ [])
    ∷ ((k.MUT_KW ∷ []) ∷ (k.SELF_KW ∷ []) ∷ [])
    ∷ ((k.AMP ∷ []) ∷ (k.LIFETIME_IDENT ∷ []) ∷ [])
    ∷ ((k.AMP ∷ []) ∷ (k.SELF_KW ∷ []) ∷ ends_self ∷ [])
    ∷ ((k.AMP ∷ []) ∷ (k.MUT_KW ∷ []) ∷ (k.SELF_KW ∷ []) ∷ ends_self ∷ []) ∷ []

-- ** Generic parameters.

unfoldable pub lifetime_param : Form Goal
lifetime_param = mark lifetime then optional (k.COLON ∷ []) (a k.COLON then mark type_bound_list) then seal k.LIFETIME_PARAM

unfoldable pub const_param : Form Goal
const_param = a k.CONST_KW then mark name then a k.COLON then child Ty then seal k.CONST_PARAM

unfoldable pub type_param : Form Goal
type_param =
    mark name then optional (k.COLON ∷ []) (a k.COLON then bounds_or_none) then optional (k.EQ ∷ []) (a k.EQ then child Ty)
    then seal k.TYPE_PARAM

unfoldable pub bare_generic_param : Form Goal
bare_generic_param =
    choose (at (k.LIFETIME_IDENT ∷ [])) lifetime_param (choose (at (k.CONST_KW ∷ [])) const_param type_param)

unfoldable pub attributed_generic_param : Form Goal
attributed_generic_param = some_attrs then bare_generic_param

unfoldable pub stated_generic_param : Form Goal
stated_generic_param = mark bare_generic_param

unfoldable pub generic_param : Form Goal
generic_param = also (k.POUND ∷ []) (mark attributed_generic_param) stated_generic_param

unfoldable pub generic_param_list : Form Goal
generic_param_list =
    part open_angle then comma_list_by generic_param_first generic_param then part close_angle then seal k.GENERIC_PARAM_LIST

-- in front of a type, of all of Rust
unfoldable pub for_binder : Form Goal
for_binder = a k.FOR_KW then mark generic_param_list then seal k.FOR_BINDER

unfoldable pub generic_params : Form Goal
generic_params = optional open_angle (mark generic_param_list)

-- ** `where`.

unfoldable pub lifetime_or_type : Form Goal
lifetime_or_type = choose (at (k.LIFETIME_IDENT ∷ [])) (mark lifetime) (child Ty)

unfoldable pub where_pred : Form Goal
where_pred = lifetime_or_type then a k.COLON then bounds_or_none then seal k.WHERE_PRED

unfoldable pub where_clause : Form Goal
where_clause = a k.WHERE_KW then comma_list_by where_pred_first (mark where_pred) then seal k.WHERE_CLAUSE

unfoldable pub wheres : Form Goal
wheres = optional (k.WHERE_KW ∷ []) (mark where_clause)

-- ** Parameters of functions.

unfoldable pub self_name : Form Goal
self_name = a k.SELF_KW then seal k.NAME

unfoldable pub self_reference : Form Goal
self_reference = a k.AMP then optional (k.LIFETIME_IDENT ∷ []) (mark lifetime)

unfoldable pub self_param : Form Goal
self_param =
    optional (k.AMP ∷ []) self_reference then optional (k.MUT_KW ∷ []) (a k.MUT_KW) then mark self_name
    then optional (k.COLON ∷ []) (a k.COLON then child Ty) then seal k.SELF_PARAM

-- in all of Rust, `...` may stand for any further arguments
unfoldable pub param_type : Form Goal
param_type = wide variadic_or_type (child Ty)

unfoldable pub bare_param : Form Goal
bare_param = child (Pat NoBar) then a k.COLON then param_type then seal k.PARAM

unfoldable pub param : Form Goal
param = wide attrs nothing then bare_param

abbrev pub dots_ahead : Test
dots_ahead = ((k.DOT2 ∷ []) ∷ (k.DOT ∷ []) ∷ []) ∷ []

unfoldable pub variadic_param : Form Goal
variadic_param = variadic then seal k.PARAM

unfoldable pub any_param : Form Goal
any_param = also_decide dots_ahead (mark variadic_param) (mark param)

unfoldable pub params : Form Goal
params = comma_list_by param_first any_param

unfoldable pub params_behind_self : Form Goal
params_behind_self = mark self_param then optional (k.COMMA ∷ []) (a k.COMMA then params)

unfoldable pub self_or_param : Form Goal
self_or_param = decide self_ahead self_param bare_param

unfoldable pub attributed_first : Form Goal
attributed_first = some_attrs then self_or_param

unfoldable pub params_behind_attributed : Form Goal
params_behind_attributed = mark attributed_first then optional (k.COMMA ∷ []) (a k.COMMA then params)

unfoldable pub stated_params : Form Goal
stated_params = decide self_ahead params_behind_self params

unfoldable pub any_params : Form Goal
any_params = also_decide (at (k.POUND ∷ [])) params_behind_attributed stated_params

unfoldable pub param_list : Form Goal
param_list = a k.L_PAREN then any_params then a k.R_PAREN then seal k.PARAM_LIST

-- ** Visibility.

-- the paths that stand in a visibility without `in`
abbrev pub own_words : List SyntaxKind
own_words = k.CRATE_KW ∷ k.SELF_KW ∷ k.SUPER_KW ∷ []

abbrev pub ends_type : List SyntaxKind
ends_type = k.COMMA ∷ k.R_PAREN ∷ []

abbrev pub in_ahead : Test
in_ahead = ((k.L_PAREN ∷ []) ∷ (k.IN_KW ∷ []) ∷ []) ∷ ((k.L_PAREN ∷ []) ∷ own_words ∷ (k.R_PAREN ∷ []) ∷ []) ∷ []

abbrev pub type_ahead : Test
type_ahead = ((k.L_PAREN ∷ []) ∷ own_words ∷ (k.R_PAREN ∷ []) ∷ ends_type ∷ []) ∷ []

unfoldable pub own_name : Form Goal
own_name = any own_words then seal k.NAME_REF

unfoldable pub own_segment : Form Goal
own_segment = mark own_name then seal k.PATH_SEGMENT

unfoldable pub own_path : Form Goal
own_path = mark own_segment then seal k.PATH

unfoldable pub in_path : Form Goal
in_path = a k.IN_KW then mark simple_path

unfoldable pub restricting_path : Form Goal
restricting_path = choose (at (k.IN_KW ∷ [])) in_path (mark own_path)

unfoldable pub restriction : Form Goal
restriction = a k.L_PAREN then restricting_path then a k.R_PAREN

unfoldable pub visibility : Form Goal
visibility = a k.PUB_KW then optional (k.L_PAREN ∷ []) restriction then seal k.VISIBILITY

-- `pub (crate)` restricts where a type follows
unfoldable pub field_restriction : Form Goal
field_restriction = decide type_ahead nothing (decide in_ahead restriction nothing)

unfoldable pub field_visibility : Form Goal
field_visibility = a k.PUB_KW then field_restriction then seal k.VISIBILITY

-- Forms of types and of bounds.
use Rattle.std.specs.Prelude.{Bool, true, false, List, [], ◌∷◌, ◌++◌}
use Rattle.ssr_syntax_kinds.specs.declared.kinds.SyntaxKind.{SyntaxKind}
use Rattle.ssr_syntax_kinds.specs.declared.kinds.SyntaxKind.TheVariants as k
use Rattle.ssr_syntax_types.specs.declared.goals.Goal.{Goal}
use Rattle.ssr_syntax_types.specs.declared.goals.Goal.TheVariants.{Expr, Ty, PathType, ForBinder, TokenTree}
use Rattle.ssr_syntax_types.specs.declared.goals.ExprPlace.TheVariants.{Anywhere}
use Rattle.ssr_syntax_types.specs.declared.goals.PathPlace.TheVariants.{InType}
use Rattle.ssr_syntax_forms.specs.Forms.{Form, Test, child, mark, seal, ◌then◌, nothing, choose, decide, also, also_decide, wide, look, check, none_is, a, any, part, at, optional, optional_by, repeated, comma_list, comma_list_by}
use Rattle.ssr_syntax_forms.specs.Kinds.{where_whole}
use Rattle.ssr_syntax_types.specs.Paths.{close_angle, lifetime, name, open_angle, path, path_first, path_name, path_names, ret_type, type_first}
use Rattle.ssr_syntax_types.specs.TokenTrees.{attrs}

abbrev pub ampersands : List SyntaxKind
ampersands = k.AMP ∷ k.AMP2 ∷ []

unfoldable pub path_type : Form Goal
path_type = mark (path InType) then seal k.PATH_TYPE

-- of `&&`, the first one alone
unfoldable pub ref_type : Form Goal
ref_type =
    part ampersands then optional (k.LIFETIME_IDENT ∷ []) (mark lifetime) then optional (k.MUT_KW ∷ []) (a k.MUT_KW)
    then child Ty then seal k.REF_TYPE

abbrev pub pointer_words : List SyntaxKind
pointer_words = k.CONST_KW ∷ k.MUT_KW ∷ []

unfoldable pub ptr_type : Form Goal
ptr_type = a k.STAR then any pointer_words then child Ty then seal k.PTR_TYPE

unfoldable pub never_type : Form Goal
never_type = a k.BANG then seal k.NEVER_TYPE

unfoldable pub infer_type : Form Goal
infer_type = a k.UNDERSCORE then seal k.INFER_TYPE

-- ** In parentheses: none, one, or some with commas.

unfoldable pub unit_type : Form Goal
unit_type = a k.R_PAREN then seal k.TUPLE_TYPE

unfoldable pub paren_type : Form Goal
paren_type = a k.R_PAREN then seal k.PAREN_TYPE

unfoldable pub tuple_type : Form Goal
tuple_type = a k.COMMA then comma_list_by type_first (child Ty) then a k.R_PAREN then seal k.TUPLE_TYPE

unfoldable pub paren_or_tuple_type : Form Goal
paren_or_tuple_type = child Ty then choose (at (k.R_PAREN ∷ [])) paren_type tuple_type

unfoldable pub type_in_parentheses : Form Goal
type_in_parentheses = a k.L_PAREN then choose (at (k.R_PAREN ∷ [])) unit_type paren_or_tuple_type

-- ** In brackets.

unfoldable pub array_type : Form Goal
array_type = a k.SEMICOLON then child (Expr Anywhere) then a k.R_BRACK then seal k.ARRAY_TYPE

unfoldable pub slice_type : Form Goal
slice_type = a k.R_BRACK then seal k.SLICE_TYPE

unfoldable pub type_in_brackets : Form Goal
type_in_brackets = a k.L_BRACK then child Ty then choose (at (k.SEMICOLON ∷ [])) array_type slice_type

-- ** Bounds.

unfoldable pub lifetime_bound : Form Goal
lifetime_bound = mark lifetime then seal k.TYPE_BOUND

-- in all of Rust, perhaps for any lifetimes
unfoldable pub bounding_path : Form Goal
bounding_path = optional (k.QUESTION ∷ []) (a k.QUESTION) then also (k.FOR_KW ∷ []) (child ForBinder) nothing then child PathType

unfoldable pub trait_bound : Form Goal
trait_bound = bounding_path then seal k.TYPE_BOUND

unfoldable pub paren_bound : Form Goal
paren_bound = a k.L_PAREN then bounding_path then a k.R_PAREN then seal k.TYPE_BOUND

unfoldable pub use_arg : Form Goal
use_arg = choose (at (k.LIFETIME_IDENT ∷ [])) (mark lifetime) (mark path_name)

abbrev pub use_arg_first : List SyntaxKind
use_arg_first = k.LIFETIME_IDENT ∷ path_names

unfoldable pub use_args : Form Goal
use_args = part open_angle then comma_list use_arg_first use_arg then part close_angle then seal k.USE_BOUND_GENERIC_ARGS

unfoldable pub use_bound : Form Goal
use_bound = a k.USE_KW then mark use_args then seal k.TYPE_BOUND

unfoldable pub stated_bound : Form Goal
stated_bound = choose (at (k.LIFETIME_IDENT ∷ [])) (mark lifetime_bound) (mark trait_bound)

unfoldable pub type_bound : Form Goal
type_bound = also (k.USE_KW ∷ []) (mark use_bound) (also (k.L_PAREN ∷ []) (mark paren_bound) stated_bound)

unfoldable pub stated_bound_first : List SyntaxKind
stated_bound_first = k.LIFETIME_IDENT ∷ k.QUESTION ∷ path_first

abbrev pub whole_bound_words : List SyntaxKind
whole_bound_words = k.USE_KW ∷ k.FOR_KW ∷ k.L_PAREN ∷ []

-- what a bound begins with; with `true`, where all of Rust is read
unfoldable pub type_bound_first : Bool → List SyntaxKind
type_bound_first is_whole = stated_bound_first ++ where_whole is_whole whole_bound_words

-- in all of Rust, `+` may stand behind the last bound
unfoldable pub bound_or_end : Form Goal
bound_or_end = wide (decide (at (type_bound_first true)) type_bound nothing) type_bound

unfoldable pub further_bound : Form Goal
further_bound = a k.PLUS then bound_or_end

unfoldable pub type_bound_list : Form Goal
type_bound_list =
    type_bound then repeated (k.PLUS ∷ []) further_bound then look false (at (k.PLUS ∷ [])) then seal k.TYPE_BOUND_LIST

unfoldable pub dyn_trait_type : Form Goal
dyn_trait_type = a k.DYN_KW then mark type_bound_list then seal k.DYN_TRAIT_TYPE

-- `<` behind `impl` would open parameters
unfoldable pub impl_trait_type : Form Goal
impl_trait_type = a k.IMPL_KW then look false (at open_angle) then mark type_bound_list then seal k.IMPL_TRAIT_TYPE

unfoldable pub bounds_or_none : Form Goal
bounds_or_none = optional_by type_bound_first (mark type_bound_list)

-- ** Of all of Rust: pointers to functions, types for any lifetimes, and macro calls.

unfoldable pub abi : Form Goal
abi = a k.EXTERN_KW then optional (k.STRING ∷ []) (a k.STRING) then seal k.ABI

-- `...`
unfoldable pub variadic : Form Goal
variadic = a k.DOT2 then a k.DOT

unfoldable pub variadic_or_type : Form Goal
variadic_or_type = choose (at (k.DOT2 ∷ [])) variadic (child Ty)

abbrev pub param_names : List SyntaxKind
param_names = k.IDENT ∷ k.UNDERSCORE ∷ []

abbrev pub name_or_underscore_colon : Test
name_or_underscore_colon = (param_names ∷ (k.COLON ∷ []) ∷ []) ∷ []

unfoldable pub ignored_name : Form Goal
ignored_name = a k.UNDERSCORE then seal k.WILDCARD_PAT

unfoldable pub told_name : Form Goal
told_name = mark name then seal k.IDENT_PAT

unfoldable pub fn_ptr_name : Form Goal
fn_ptr_name = choose (at (k.UNDERSCORE ∷ [])) (mark ignored_name) (mark told_name)

unfoldable pub named_fn_ptr_param : Form Goal
named_fn_ptr_param = fn_ptr_name then a k.COLON then variadic_or_type

unfoldable pub named_or_bare_param : Form Goal
named_or_bare_param = decide name_or_underscore_colon named_fn_ptr_param variadic_or_type

unfoldable pub fn_ptr_param : Form Goal
fn_ptr_param = attrs then named_or_bare_param then seal k.PARAM

unfoldable pub fn_ptr_param_first : List SyntaxKind
fn_ptr_param_first = k.POUND ∷ k.DOT2 ∷ type_first true

unfoldable pub fn_ptr_params : Form Goal
fn_ptr_params = a k.L_PAREN then comma_list fn_ptr_param_first (mark fn_ptr_param) then a k.R_PAREN then seal k.PARAM_LIST

unfoldable pub fn_ptr_type : Form Goal
fn_ptr_type =
    optional (k.UNSAFE_KW ∷ []) (a k.UNSAFE_KW) then optional (k.EXTERN_KW ∷ []) (mark abi) then a k.FN_KW
    then mark fn_ptr_params then optional (k.THIN_ARROW ∷ []) (mark ret_type) then seal k.FN_PTR_TYPE

abbrev pub fn_ptr_first : List SyntaxKind
fn_ptr_first = k.FN_KW ∷ k.UNSAFE_KW ∷ k.EXTERN_KW ∷ []

unfoldable pub for_type : Form Goal
for_type = child ForBinder then child Ty then seal k.FOR_TYPE

-- what the path of a macro call hasn't: generic arguments and parentheses
abbrev pub no_macro_path : List SyntaxKind
no_macro_path = k.L_ANGLE ∷ k.L_PAREN ∷ []

-- all since the mark is the path
unfoldable pub macro_type : Form Goal
macro_type =
    check (none_is no_macro_path) then a k.BANG then child TokenTree then seal k.MACRO_CALL
    then seal k.MACRO_TYPE

unfoldable pub path_or_macro_type : Form Goal
path_or_macro_type = mark (path InType) then also_decide (at (k.BANG ∷ [])) macro_type (seal k.PATH_TYPE)

-- ** All of them.

unfoldable pub worded_type : Form Goal
worded_type =
    choose (at (k.DYN_KW ∷ [])) (mark dyn_trait_type)
    (choose (at (k.IMPL_KW ∷ [])) (mark impl_trait_type)
    (mark path_or_macro_type))

unfoldable pub other_type : Form Goal
other_type = also (k.FOR_KW ∷ []) (mark for_type) (also fn_ptr_first (mark fn_ptr_type) worded_type)

unfoldable pub any_type : Form Goal
any_type =
    choose (at ampersands) (mark ref_type)
    (choose (at (k.STAR ∷ [])) (mark ptr_type)
    (choose (at (k.L_PAREN ∷ [])) (mark type_in_parentheses)
    (choose (at (k.L_BRACK ∷ [])) (mark type_in_brackets)
    (choose (at (k.BANG ∷ [])) (mark never_type)
    (choose (at (k.UNDERSCORE ∷ [])) (mark infer_type)
    other_type)))))

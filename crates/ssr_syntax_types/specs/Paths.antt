-- Forms of names and of paths.
use Rattle.std.specs.Prelude.{Bool, List, [], ◌∷◌, ◌++◌}
use Rattle.ssr_syntax_kinds.specs.declared.kinds.SyntaxKind.{SyntaxKind}
use Rattle.ssr_syntax_kinds.specs.declared.kinds.SyntaxKind.TheVariants as k
use Rattle.ssr_syntax_types.specs.declared.goals.Goal.{Goal}
use Rattle.ssr_syntax_types.specs.declared.goals.Goal.TheVariants.{Ty, PathType, GenericArgs}
use Rattle.ssr_syntax_types.specs.declared.goals.PathPlace.{PathPlace}
use Rattle.ssr_syntax_types.specs.declared.goals.PathPlace.TheVariants.{InExpr, InType, NamesAlone}
use Rattle.ssr_syntax_forms.specs.Kinds.{where_whole}
use Rattle.ssr_syntax_forms.specs.Forms.{Form, Test, child, mark, seal, ◌then◌, nothing, choose, decide, a, any, part, at, optional, as_long_as, comma_list_by}

-- ** Names.

-- of what is defined
unfoldable pub name : Form Goal
name = a k.IDENT then seal k.NAME

-- of a field or a method
unfoldable pub name_ref : Form Goal
name_ref = a k.IDENT then seal k.NAME_REF

-- of a field without a name
unfoldable pub number_ref : Form Goal
number_ref = a k.INT_NUMBER then seal k.NAME_REF

-- the name of a field, and the colon behind it
abbrev pub name_colon : Test
name_colon = ((k.IDENT ∷ []) ∷ (k.COLON ∷ []) ∷ []) ∷ []

abbrev pub path_names : List SyntaxKind
path_names = k.IDENT ∷ k.SELF_KW ∷ k.SELF_TYPE_KW ∷ k.SUPER_KW ∷ k.CRATE_KW ∷ []

unfoldable pub path_name : Form Goal
path_name = any path_names then seal k.NAME_REF

unfoldable pub lifetime : Form Goal
lifetime = a k.LIFETIME_IDENT then seal k.LIFETIME

-- ** Angle brackets, each of them alone, also where a longer token begins with it.

abbrev pub open_angle : List SyntaxKind
open_angle = k.L_ANGLE ∷ k.SHL ∷ []

abbrev pub close_angle : List SyntaxKind
close_angle = k.R_ANGLE ∷ k.SHR ∷ k.GTEQ ∷ k.SHREQ ∷ []

-- `::<`
abbrev pub colon_angle : Test
colon_angle = ((k.COLON2 ∷ []) ∷ open_angle ∷ []) ∷ []

-- ** What begins a path, and what begins a type.

unfoldable pub path_first : List SyntaxKind
path_first = path_names ++ k.COLON2 ∷ open_angle

unfoldable pub stated_type_first : List SyntaxKind
stated_type_first = k.AMP ∷ k.AMP2 ∷ k.STAR ∷ k.L_PAREN ∷ k.L_BRACK ∷ k.BANG ∷ k.UNDERSCORE ∷ k.DYN_KW ∷ k.IMPL_KW ∷ path_first

-- what else a type of all of Rust begins with
abbrev pub whole_type_words : List SyntaxKind
whole_type_words = k.FOR_KW ∷ k.FN_KW ∷ k.UNSAFE_KW ∷ k.EXTERN_KW ∷ []

-- what a type begins with; with `true`, where all of Rust is read
unfoldable pub type_first : Bool → List SyntaxKind
type_first is_whole = stated_type_first ++ where_whole is_whole whole_type_words

-- ** Generic arguments behind a name. In an expression they begin with `::`.

unfoldable pub expr_generics : Form Goal
expr_generics = decide colon_angle (child GenericArgs) nothing

unfoldable pub type_arg : Form Goal
type_arg = child Ty then seal k.TYPE_ARG

unfoldable pub parenthesized_arg_list : Form Goal
parenthesized_arg_list =
    a k.L_PAREN then comma_list_by type_first (mark type_arg) then a k.R_PAREN then seal k.PARENTHESIZED_ARG_LIST

unfoldable pub ret_type : Form Goal
ret_type = a k.THIN_ARROW then child Ty then seal k.RET_TYPE

-- those of a function's type: types in parentheses, and perhaps what it returns
unfoldable pub function_generics : Form Goal
function_generics = mark parenthesized_arg_list then optional (k.THIN_ARROW ∷ []) (mark ret_type)

unfoldable pub colon_generics : Form Goal
colon_generics = decide colon_angle (child GenericArgs) (optional (k.L_PAREN ∷ []) function_generics)

-- `<` in a type, also where `<<` or `<<=` is spelled
abbrev pub generics_first : List SyntaxKind
generics_first = open_angle ++ k.SHLEQ ∷ []

unfoldable pub type_generics : Form Goal
type_generics = decide (at generics_first) (child GenericArgs) colon_generics

unfoldable pub generics : PathPlace → Form Goal
generics InExpr = expr_generics
generics InType = type_generics
generics NamesAlone = nothing

-- ** Paths.

unfoldable pub path_segment : PathPlace → Form Goal
path_segment place = mark path_name then generics place then seal k.PATH_SEGMENT

-- `::` may stand in front
unfoldable pub first_segment : PathPlace → Form Goal
first_segment place =
    optional (k.COLON2 ∷ []) (a k.COLON2) then mark path_name then generics place then seal k.PATH_SEGMENT

-- a type, perhaps with a trait of it
unfoldable pub anchored_type : Form Goal
anchored_type = child Ty then optional (k.AS_KW ∷ []) (a k.AS_KW then child PathType)

unfoldable pub type_anchor : Form Goal
type_anchor = part open_angle then anchored_type then part close_angle then seal k.PATH_SEGMENT

-- one segment more; all since the mark is the path in front of it
unfoldable pub longer_path : PathPlace → Form Goal
longer_path place = a k.COLON2 then mark (path_segment place) then seal k.PATH

-- an anchor is followed by a segment
unfoldable pub anchored_path : PathPlace → Form Goal
anchored_path place = mark type_anchor then seal k.PATH then longer_path place

unfoldable pub plain_path : PathPlace → Form Goal
plain_path place = mark (first_segment place) then seal k.PATH

unfoldable pub shortest_path : PathPlace → Form Goal
shortest_path place = choose (at open_angle) (anchored_path place) (plain_path place)

unfoldable pub path : PathPlace → Form Goal
path place = shortest_path place then as_long_as (at (k.COLON2 ∷ [])) (longer_path place)

-- ** Paths of names alone.

-- `::` and a name
abbrev pub colon_name : Test
colon_name = ((k.COLON2 ∷ []) ∷ path_names ∷ []) ∷ []

unfoldable pub simple_path : Form Goal
simple_path = plain_path NamesAlone then as_long_as colon_name (longer_path NamesAlone)

-- Forms of structures and enumerations.
use Rattle.std.specs.Prelude.{Bool, List, [], ◌∷◌}
use Rattle.ssr_syntax_kinds.specs.declared.kinds.SyntaxKind.{SyntaxKind}
use Rattle.ssr_syntax_kinds.specs.declared.kinds.SyntaxKind.TheVariants as k
use Rattle.ssr_syntax_types.specs.declared.goals.Goal.{Goal}
use Rattle.ssr_syntax_types.specs.declared.goals.Goal.TheVariants.{Expr, Ty}
use Rattle.ssr_syntax_types.specs.declared.goals.ExprPlace.TheVariants.{Anywhere}
use Rattle.ssr_syntax_forms.specs.Forms.{Form, ◌then◌, child, mark, seal, choose, a, at, optional, comma_list, comma_list_by}
use Rattle.ssr_syntax_types.specs.Paths.{name, type_first}
use Rattle.ssr_syntax_types.specs.TokenTrees.{attrs}
use Rattle.ssr_syntax_item_parts.specs.Params.{field_visibility, generic_params, visibility, wheres}

abbrev pub record_field_first : List SyntaxKind
record_field_first = k.IDENT ∷ k.POUND ∷ k.PUB_KW ∷ []

unfoldable pub tuple_field_first : Bool → List SyntaxKind
tuple_field_first is_whole = k.POUND ∷ k.PUB_KW ∷ type_first is_whole

abbrev pub variant_first : List SyntaxKind
variant_first = k.IDENT ∷ k.POUND ∷ []

-- ** Fields.

unfoldable pub record_field : Form Goal
record_field =
    attrs then optional (k.PUB_KW ∷ []) (mark visibility) then mark name then a k.COLON then child Ty
    then seal k.RECORD_FIELD

unfoldable pub record_field_list : Form Goal
record_field_list =
    a k.L_CURLY then comma_list record_field_first (mark record_field) then a k.R_CURLY then seal k.RECORD_FIELD_LIST

unfoldable pub tuple_field : Form Goal
tuple_field = attrs then optional (k.PUB_KW ∷ []) (mark field_visibility) then child Ty then seal k.TUPLE_FIELD

unfoldable pub tuple_field_list : Form Goal
tuple_field_list =
    a k.L_PAREN then comma_list_by tuple_field_first (mark tuple_field) then a k.R_PAREN then seal k.TUPLE_FIELD_LIST

unfoldable pub tuple_struct : Form Goal
tuple_struct = mark tuple_field_list then wheres then a k.SEMICOLON

unfoldable pub fields_or_none : Form Goal
fields_or_none = choose (at (k.SEMICOLON ∷ [])) (a k.SEMICOLON) (mark record_field_list)

unfoldable pub record_struct : Form Goal
record_struct = wheres then fields_or_none

unfoldable pub struct_rest : Form Goal
struct_rest = choose (at (k.L_PAREN ∷ [])) tuple_struct record_struct

unfoldable pub struct_item : Form Goal
struct_item = a k.STRUCT_KW then mark name then generic_params then struct_rest then seal k.STRUCT

unfoldable pub variant_fields : Form Goal
variant_fields = choose (at (k.L_CURLY ∷ [])) (mark record_field_list) (optional (k.L_PAREN ∷ []) (mark tuple_field_list))

unfoldable pub variant : Form Goal
variant =
    attrs then mark name then variant_fields then optional (k.EQ ∷ []) (a k.EQ then child (Expr Anywhere))
    then seal k.VARIANT

unfoldable pub variant_list : Form Goal
variant_list = a k.L_CURLY then comma_list variant_first (mark variant) then a k.R_CURLY then seal k.VARIANT_LIST

unfoldable pub enum_item : Form Goal
enum_item = a k.ENUM_KW then mark name then generic_params then wheres then mark variant_list then seal k.ENUM

-- Forms of items.
use Rattle.std.specs.Prelude.{Bool, false, List, [], ◌∷◌, ◌++◌}
use Rattle.ssr_syntax_kinds.specs.declared.kinds.SyntaxKind.{SyntaxKind}
use Rattle.ssr_syntax_kinds.specs.declared.kinds.SyntaxKind.TheVariants as k
use Rattle.ssr_syntax_types.specs.declared.goals.Goal.{Goal}
use Rattle.ssr_syntax_types.specs.declared.goals.Goal.TheVariants.{Expr, Ty, Item}
use Rattle.ssr_syntax_types.specs.declared.goals.ExprPlace.TheVariants.{Anywhere}
use Rattle.ssr_syntax_types.specs.declared.goals.ItemPlace.{ItemPlace}
use Rattle.ssr_syntax_types.specs.declared.goals.ItemPlace.TheVariants.{InModule, AsStmt, InImpl, InTrait, InExtern}
use Rattle.ssr_syntax_forms.specs.Kinds.{where_whole}
use Rattle.ssr_syntax_forms.specs.Forms.{Form, Test, ◌then◌, child, mark, seal, nothing, choose, decide, also, also_decide, settle, wide, a, any, at, optional, repeated, repeated_by, as_long_as}
use Rattle.ssr_syntax_types.specs.Paths.{name, open_angle, ret_type, simple_path, type_first}
use Rattle.ssr_syntax_types.specs.Types.{abi, type_bound_list}
use Rattle.ssr_syntax_types.specs.TokenTrees.{attrs, curly_tree, inner_attr, inner_attr_ahead, inner_attrs, paren_or_bracket_tree}
use Rattle.ssr_syntax_exprs.specs.Blocks.{block_expr}
use Rattle.ssr_syntax_item_parts.specs.Params.{generic_param_list, generic_params, param_list, visibility, wheres}
use Rattle.ssr_syntax_item_parts.specs.Adts.{enum_item, record_field_list, struct_item}
use Rattle.ssr_syntax_item_parts.specs.Uses.{macro_path_first, name_or_underscore, rename, use_item}

abbrev pub trait_first : List SyntaxKind
trait_first = k.UNSAFE_KW ∷ k.TRAIT_KW ∷ []

abbrev pub unsafe_or_fn : List SyntaxKind
unsafe_or_fn = k.UNSAFE_KW ∷ k.FN_KW ∷ []

abbrev pub async_or_extern : List SyntaxKind
async_or_extern = k.ASYNC_KW ∷ k.EXTERN_KW ∷ []

abbrev pub behind_async : List SyntaxKind
behind_async = k.UNSAFE_KW ∷ k.EXTERN_KW ∷ k.FN_KW ∷ []

abbrev pub unsafe_item_words : List SyntaxKind
unsafe_item_words = k.FN_KW ∷ k.IMPL_KW ∷ k.TRAIT_KW ∷ []

-- what an item begins with that is no macro call, but for `unsafe`
unfoldable pub named_item_first : List SyntaxKind
named_item_first =
    k.POUND ∷ k.PUB_KW ∷ k.CONST_KW ∷ k.FN_KW ∷ k.STRUCT_KW ∷ k.ENUM_KW ∷ k.TRAIT_KW ∷ k.MOD_KW ∷ k.USE_KW ∷
    k.STATIC_KW ∷ k.TYPE_KW ∷ k.IMPL_KW ∷ []

-- what an item that is a statement begins with
unfoldable pub stmt_item_first : List SyntaxKind
stmt_item_first = k.UNSAFE_KW ∷ named_item_first

-- what else an item of all of Rust begins with
abbrev pub whole_item_words : List SyntaxKind
whole_item_words = k.ASYNC_KW ∷ k.EXTERN_KW ∷ []

-- ** What an item begins with. With `true`, where all of Rust is read.
unfoldable pub module_item_first : Bool → List SyntaxKind
module_item_first is_whole = stmt_item_first ++ macro_path_first ++ where_whole is_whole whole_item_words

unfoldable pub trait_item_words : List SyntaxKind
trait_item_words = k.POUND ∷ k.CONST_KW ∷ k.UNSAFE_KW ∷ k.FN_KW ∷ k.TYPE_KW ∷ []

unfoldable pub impl_item_words : List SyntaxKind
impl_item_words = k.PUB_KW ∷ trait_item_words

unfoldable pub impl_item_first : Bool → List SyntaxKind
impl_item_first is_whole = macro_path_first ++ impl_item_words ++ where_whole is_whole whole_item_words

unfoldable pub trait_item_first : Bool → List SyntaxKind
trait_item_first is_whole = macro_path_first ++ trait_item_words ++ where_whole is_whole whole_item_words

unfoldable pub extern_item_words : List SyntaxKind
extern_item_words = k.POUND ∷ k.PUB_KW ∷ k.UNSAFE_KW ∷ k.FN_KW ∷ k.STATIC_KW ∷ k.TYPE_KW ∷ []

unfoldable pub extern_item_first : List SyntaxKind
extern_item_first = macro_path_first ++ extern_item_words

-- an identifier, `!` and another one: nothing else begins with these
abbrev pub macro_rules_ahead : Test
macro_rules_ahead = ((k.IDENT ∷ []) ∷ (k.BANG ∷ []) ∷ (k.IDENT ∷ []) ∷ []) ∷ []

abbrev pub stmt_item_ahead : Test
stmt_item_ahead = (named_item_first ∷ []) ∷ ((k.UNSAFE_KW ∷ []) ∷ unsafe_item_words ∷ []) ∷ macro_rules_ahead

-- among statements what of all of Rust is an item: a block begins with `async` as well
abbrev pub whole_item_ahead : Test
whole_item_ahead =
    ((k.ASYNC_KW ∷ []) ∷ behind_async ∷ []) ∷ ((k.EXTERN_KW ∷ []) ∷ []) ∷ ((k.UNSAFE_KW ∷ []) ∷ (k.EXTERN_KW ∷ []) ∷ [])
    ∷ ((k.IDENT ∷ []) ∷ (k.IDENT ∷ []) ∷ []) ∷ []

-- items of all of Rust behind attributes of a statement
abbrev pub attributed_item_words : List SyntaxKind
attributed_item_words =
    k.PUB_KW ∷ k.FN_KW ∷ k.STRUCT_KW ∷ k.ENUM_KW ∷ k.TRAIT_KW ∷ k.MOD_KW ∷ k.USE_KW ∷ k.STATIC_KW ∷ k.TYPE_KW ∷ k.IMPL_KW ∷
    k.EXTERN_KW ∷ []

abbrev pub const_item_next : List SyntaxKind
const_item_next = k.IDENT ∷ k.UNDERSCORE ∷ k.FN_KW ∷ k.UNSAFE_KW ∷ k.ASYNC_KW ∷ k.EXTERN_KW ∷ []

abbrev pub unsafe_item_next : List SyntaxKind
unsafe_item_next = k.FN_KW ∷ k.IMPL_KW ∷ k.TRAIT_KW ∷ k.EXTERN_KW ∷ []

abbrev pub attributed_item_ahead : Test
attributed_item_ahead =
    (attributed_item_words ∷ []) ∷ ((k.CONST_KW ∷ []) ∷ const_item_next ∷ []) ∷ ((k.ASYNC_KW ∷ []) ∷ behind_async ∷ [])
    ∷ ((k.UNSAFE_KW ∷ []) ∷ unsafe_item_next ∷ []) ∷ ((k.IDENT ∷ []) ∷ (k.IDENT ∷ []) ∷ []) ∷ macro_rules_ahead

-- functions of all of Rust, beside those of the stated language
abbrev pub whole_fn_ahead : Test
whole_fn_ahead =
    ((k.ASYNC_KW ∷ []) ∷ []) ∷ ((k.CONST_KW ∷ []) ∷ async_or_extern ∷ [])
    ∷ ((k.EXTERN_KW ∷ []) ∷ (k.FN_KW ∷ []) ∷ []) ∷ ((k.EXTERN_KW ∷ []) ∷ (k.STRING ∷ []) ∷ (k.FN_KW ∷ []) ∷ [])
    ∷ ((k.UNSAFE_KW ∷ []) ∷ (k.EXTERN_KW ∷ []) ∷ (k.FN_KW ∷ []) ∷ [])
    ∷ ((k.UNSAFE_KW ∷ []) ∷ (k.EXTERN_KW ∷ []) ∷ (k.STRING ∷ []) ∷ (k.FN_KW ∷ []) ∷ []) ∷ []

abbrev pub extern_crate_ahead : Test
extern_crate_ahead = ((k.EXTERN_KW ∷ []) ∷ (k.CRATE_KW ∷ []) ∷ []) ∷ []

-- where no function is
abbrev pub extern_block_ahead : Test
extern_block_ahead = ((k.EXTERN_KW ∷ []) ∷ []) ∷ ((k.UNSAFE_KW ∷ []) ∷ (k.EXTERN_KW ∷ []) ∷ []) ∷ []

-- two identifiers stand side by side nowhere else
abbrev pub union_ahead : Test
union_ahead = ((k.IDENT ∷ []) ∷ (k.IDENT ∷ []) ∷ []) ∷ []

abbrev pub fn_or_static : List SyntaxKind
fn_or_static = k.FN_KW ∷ k.STATIC_KW ∷ []

abbrev pub safe_ahead : Test
safe_ahead = ((k.IDENT ∷ []) ∷ fn_or_static ∷ []) ∷ []

abbrev pub foreign_fn_ahead : Test
foreign_fn_ahead = ((k.FN_KW ∷ []) ∷ []) ∷ ((k.UNSAFE_KW ∷ []) ∷ (k.FN_KW ∷ []) ∷ []) ∷ []

abbrev pub fn_ahead : Test
fn_ahead = ((k.FN_KW ∷ []) ∷ []) ∷ ((k.CONST_KW ∷ []) ∷ unsafe_or_fn ∷ []) ∷ ((k.UNSAFE_KW ∷ []) ∷ (k.FN_KW ∷ []) ∷ []) ∷ []

abbrev pub impl_ahead : Test
impl_ahead = ((k.IMPL_KW ∷ []) ∷ []) ∷ ((k.UNSAFE_KW ∷ []) ∷ (k.IMPL_KW ∷ []) ∷ []) ∷ []

-- ** Functions.

unfoldable pub block_or_none : Form Goal
block_or_none = choose (at (k.SEMICOLON ∷ [])) (a k.SEMICOLON) (mark block_expr)

-- which may lack in a TRAIT, and in an EXTERN_BLOCK
unfoldable pub fn_body : ItemPlace → Form Goal
fn_body InTrait = block_or_none
fn_body InExtern = block_or_none
fn_body InModule = mark block_expr
fn_body AsStmt = mark block_expr
fn_body InImpl = mark block_expr

-- functions of all of Rust may be `async`
unfoldable pub async_word : Form Goal
async_word = also (k.ASYNC_KW ∷ []) (a k.ASYNC_KW) nothing

-- and have an ABI
unfoldable pub abi_or_none : Form Goal
abi_or_none = also (k.EXTERN_KW ∷ []) (mark abi) nothing

-- the words in front of a function's name
unfoldable pub fn_words : Form Goal
fn_words =
    optional (k.CONST_KW ∷ []) (a k.CONST_KW) then async_word then optional (k.UNSAFE_KW ∷ []) (a k.UNSAFE_KW) then abi_or_none
    then a k.FN_KW

unfoldable pub function : ItemPlace → Form Goal
function place =
    fn_words then mark name then generic_params then mark param_list then optional (k.THIN_ARROW ∷ []) (mark ret_type) then wheres
    then fn_body place then seal k.FN

-- ** What belongs to types.

unfoldable pub impl_item_list : Form Goal
impl_item_list = a k.L_CURLY then inner_attrs then repeated_by impl_item_first (child (Item InImpl)) then a k.R_CURLY then seal k.ASSOC_ITEM_LIST

unfoldable pub trait_item_list : Form Goal
trait_item_list = a k.L_CURLY then inner_attrs then repeated_by trait_item_first (child (Item InTrait)) then a k.R_CURLY then seal k.ASSOC_ITEM_LIST

abbrev pub negative_ahead : Test
negative_ahead = ((k.BANG ∷ []) ∷ type_first false ∷ []) ∷ []

unfoldable pub negative_impl : Form Goal
negative_impl = a k.BANG then child Ty then a k.FOR_KW then child Ty

unfoldable pub positive_impl : Form Goal
positive_impl = child Ty then optional (k.FOR_KW ∷ []) (a k.FOR_KW then child Ty)

unfoldable pub impl_types : Form Goal
impl_types = decide negative_ahead negative_impl positive_impl

-- `<` behind `impl` opens parameters
unfoldable pub impl_params : Form Goal
impl_params = decide (at open_angle) (mark generic_param_list) nothing

unfoldable pub impl_item : Form Goal
impl_item =
    optional (k.UNSAFE_KW ∷ []) (a k.UNSAFE_KW) then a k.IMPL_KW then impl_params then impl_types then wheres
    then mark impl_item_list then seal k.IMPL

unfoldable pub trait_rest : Form Goal
trait_rest =
    optional (k.COLON ∷ []) (a k.COLON then mark type_bound_list) then wheres then mark trait_item_list then seal k.TRAIT

unfoldable pub trait_item : Form Goal
trait_item = optional (k.UNSAFE_KW ∷ []) (a k.UNSAFE_KW) then a k.TRAIT_KW then mark name then generic_params then trait_rest

-- in all of Rust, `where` may stand behind the type
unfoldable pub aliased_type : Form Goal
aliased_type = a k.EQ then child Ty then wide wheres nothing

unfoldable pub type_alias : Form Goal
type_alias =
    a k.TYPE_KW then mark name then generic_params then optional (k.COLON ∷ []) (a k.COLON then mark type_bound_list)
    then wheres then optional (k.EQ ∷ []) aliased_type then a k.SEMICOLON then seal k.TYPE_ALIAS

-- ** Values of their own.

unfoldable pub const_item : Form Goal
const_item =
    a k.CONST_KW then name_or_underscore then a k.COLON then child Ty
    then optional (k.EQ ∷ []) (a k.EQ then child (Expr Anywhere)) then a k.SEMICOLON then seal k.CONST

unfoldable pub static_item : Form Goal
static_item =
    a k.STATIC_KW then optional (k.MUT_KW ∷ []) (a k.MUT_KW) then mark name then a k.COLON then child Ty then a k.EQ
    then child (Expr Anywhere) then a k.SEMICOLON then seal k.STATIC

-- ** Modules.

unfoldable pub item_list : Form Goal
item_list = a k.L_CURLY then inner_attrs then repeated_by module_item_first (child (Item InModule)) then a k.R_CURLY then seal k.ITEM_LIST

unfoldable pub items_or_none : Form Goal
items_or_none = choose (at (k.SEMICOLON ∷ [])) (a k.SEMICOLON) (mark item_list)

unfoldable pub mod_item : Form Goal
mod_item = a k.MOD_KW then mark name then items_or_none then seal k.MODULE

-- ** Macro calls.

unfoldable pub curly_macro_end : Form Goal
curly_macro_end = mark curly_tree then settle (k.SEMICOLON ∷ []) (a k.SEMICOLON) nothing

unfoldable pub other_macro_end : Form Goal
other_macro_end = paren_or_bracket_tree then a k.SEMICOLON

unfoldable pub macro_end : Form Goal
macro_end = choose (at (k.L_CURLY ∷ [])) curly_macro_end other_macro_end

unfoldable pub macro_item : Form Goal
macro_item = mark simple_path then a k.BANG then macro_end then seal k.MACRO_CALL

unfoldable pub macro_rules_rest : Form Goal
macro_rules_rest = mark name then macro_end

-- that the identifier in front is `macro_rules` is asked of the tree's text
unfoldable pub macro_rules : Form Goal
macro_rules = a k.IDENT then a k.BANG then macro_rules_rest then seal k.MACRO_RULES

-- ** Of all of Rust: what other languages define, and crates by their names.

abbrev pub crate_names : List SyntaxKind
crate_names = k.IDENT ∷ k.SELF_KW ∷ []

unfoldable pub crate_name : Form Goal
crate_name = any crate_names then seal k.NAME_REF

unfoldable pub extern_crate : Form Goal
extern_crate =
    a k.EXTERN_KW then a k.CRATE_KW then mark crate_name then optional (k.AS_KW ∷ []) (mark rename) then a k.SEMICOLON
    then seal k.EXTERN_CRATE

unfoldable pub extern_item_list : Form Goal
extern_item_list =
    a k.L_CURLY then inner_attrs then repeated extern_item_first (child (Item InExtern)) then a k.R_CURLY then seal k.EXTERN_ITEM_LIST

unfoldable pub extern_block : Form Goal
extern_block =
    optional (k.UNSAFE_KW ∷ []) (a k.UNSAFE_KW) then mark abi then mark extern_item_list then seal k.EXTERN_BLOCK

unfoldable pub foreign_static : Form Goal
foreign_static =
    optional (k.UNSAFE_KW ∷ []) (a k.UNSAFE_KW) then a k.STATIC_KW then optional (k.MUT_KW ∷ []) (a k.MUT_KW) then mark name
    then a k.COLON then child Ty then a k.SEMICOLON then seal k.STATIC

unfoldable pub foreign_type_or_value : Form Goal
foreign_type_or_value = choose (at (k.TYPE_KW ∷ [])) type_alias foreign_static

unfoldable pub bare_foreign_item : Form Goal
bare_foreign_item = decide foreign_fn_ahead (function InExtern) foreign_type_or_value

-- an identifier elsewhere: of which one it is, the tree's text is asked
unfoldable pub safe_word : Form Goal
safe_word = a k.IDENT then seal k.SAFE_KW

unfoldable pub safe_foreign_item : Form Goal
safe_foreign_item = mark safe_word then bare_foreign_item

unfoldable pub safe_or_bare_item : Form Goal
safe_or_bare_item = decide safe_ahead safe_foreign_item bare_foreign_item

unfoldable pub foreign_item : Form Goal
foreign_item = optional (k.PUB_KW ∷ []) (mark visibility) then safe_or_bare_item

unfoldable pub macro_or_foreign_item : Form Goal
macro_or_foreign_item = decide (at macro_path_first) macro_item foreign_item

unfoldable pub item_in_extern : Form Goal
item_in_extern = decide safe_ahead safe_foreign_item macro_or_foreign_item

-- likewise
unfoldable pub union_word : Form Goal
union_word = a k.IDENT then seal k.UNION_KW

unfoldable pub union_item : Form Goal
union_item = mark union_word then mark name then generic_params then wheres then mark record_field_list then seal k.UNION

-- ** Items. All since the mark is their attributes and what stands in front.

unfoldable pub stated_type_or_value : Form Goal
stated_type_or_value =
    choose (at (k.CONST_KW ∷ [])) const_item
    (choose (at (k.STRUCT_KW ∷ [])) struct_item
    (choose (at (k.ENUM_KW ∷ [])) enum_item
    (choose (at trait_first) trait_item
    (choose (at (k.MOD_KW ∷ [])) mod_item
    (choose (at (k.USE_KW ∷ [])) use_item
    (choose (at (k.STATIC_KW ∷ [])) static_item
    type_alias))))))

unfoldable pub union_or_stated : Form Goal
union_or_stated = also_decide union_ahead union_item stated_type_or_value

unfoldable pub extern_or_stated : Form Goal
extern_or_stated = also_decide extern_block_ahead extern_block union_or_stated

unfoldable pub type_or_value_item : Form Goal
type_or_value_item = also_decide extern_crate_ahead extern_crate extern_or_stated

unfoldable pub stated_named_item : Form Goal
stated_named_item = decide fn_ahead (function InModule) type_or_value_item

unfoldable pub named_item : Form Goal
named_item = also_decide whole_fn_ahead (function InModule) stated_named_item

unfoldable pub visible_item : Form Goal
visible_item = optional (k.PUB_KW ∷ []) (mark visibility) then named_item

unfoldable pub assoc_value_or_type : Form Goal
assoc_value_or_type = choose (at (k.CONST_KW ∷ [])) const_item type_alias

unfoldable pub stated_assoc_item : ItemPlace → Form Goal
stated_assoc_item place = decide fn_ahead (function place) assoc_value_or_type

unfoldable pub assoc_item : ItemPlace → Form Goal
assoc_item place = also_decide whole_fn_ahead (function place) (stated_assoc_item place)

unfoldable pub visible_assoc_item : Form Goal
visible_assoc_item = optional (k.PUB_KW ∷ []) (mark visibility) then assoc_item InImpl

unfoldable pub stated_module_item : Form Goal
stated_module_item = settle macro_path_first macro_item visible_item

unfoldable pub module_item : Form Goal
module_item = also_decide union_ahead union_item stated_module_item

unfoldable pub macro_rules_or_module_item : Form Goal
macro_rules_or_module_item = decide macro_rules_ahead macro_rules module_item

unfoldable pub item_in_module : Form Goal
item_in_module = decide impl_ahead impl_item macro_rules_or_module_item

unfoldable pub macro_rules_or_visible_item : Form Goal
macro_rules_or_visible_item = decide macro_rules_ahead macro_rules visible_item

unfoldable pub item_as_stmt : Form Goal
item_as_stmt = decide impl_ahead impl_item macro_rules_or_visible_item

unfoldable pub item_in_impl : Form Goal
item_in_impl = choose (at macro_path_first) macro_item visible_assoc_item

unfoldable pub item_in_trait : Form Goal
item_in_trait = choose (at macro_path_first) macro_item (assoc_item InTrait)

unfoldable pub item_behind_attrs : ItemPlace → Form Goal
item_behind_attrs InModule = item_in_module
item_behind_attrs AsStmt = item_as_stmt
item_behind_attrs InImpl = item_in_impl
item_behind_attrs InTrait = item_in_trait
item_behind_attrs InExtern = item_in_extern

unfoldable pub item : ItemPlace → Form Goal
item place = attrs then item_behind_attrs place

-- ** Files.

unfoldable pub source_file : Form Goal
source_file =
    as_long_as inner_attr_ahead (mark inner_attr) then repeated_by module_item_first (child (Item InModule)) then seal k.SOURCE_FILE

-- the items that a macro call stands for
unfoldable pub macro_items : Form Goal
macro_items = repeated_by module_item_first (child (Item InModule)) then seal k.MACRO_ITEMS

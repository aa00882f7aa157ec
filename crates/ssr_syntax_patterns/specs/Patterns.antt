-- Forms of patterns.
use Rattle.std.specs.Prelude.{Bool, false, List, [], ◌∷◌, ◌++◌}
use Rattle.ssr_syntax_kinds.specs.declared.kinds.SyntaxKind.{SyntaxKind}
use Rattle.ssr_syntax_kinds.specs.declared.kinds.SyntaxKind.TheVariants as k
use Rattle.ssr_syntax_types.specs.declared.goals.Goal.{Goal}
use Rattle.ssr_syntax_types.specs.declared.goals.Goal.TheVariants.{Pat, TokenTree}
use Rattle.ssr_syntax_types.specs.declared.goals.PatPlace.{PatPlace}
use Rattle.ssr_syntax_types.specs.declared.goals.PatPlace.TheVariants.{TopLevel, NoBar, BehindAmp}
use Rattle.ssr_syntax_types.specs.declared.goals.PathPlace.TheVariants.{InExpr}
use Rattle.ssr_syntax_forms.specs.Forms.{Form, Test, ◌then◌, child, mark, seal, nothing, choose, decide, also, also_decide, look, check, none_is, a, part, at, optional, repeated, repeated_by, comma_by, comma_list}
use Rattle.ssr_syntax_forms.specs.Kinds.{where_whole}
use Rattle.ssr_syntax_types.specs.TokenTrees.{some_attrs}
use Rattle.ssr_syntax_types.specs.Literals.{literal}
use Rattle.ssr_syntax_types.specs.Paths.{name, name_colon, name_ref, number_ref, path}
use Rattle.ssr_syntax_types.specs.PatternSets.{bound_first, literal_pat_first, pat_first, ranges}
use Rattle.ssr_syntax_types.specs.Types.{ampersands}

abbrev pub ident_pat_first : List SyntaxKind
ident_pat_first = k.IDENT ∷ k.REF_KW ∷ k.MUT_KW ∷ []

unfoldable pub stated_field_first : List SyntaxKind
stated_field_first = k.IDENT ∷ k.INT_NUMBER ∷ k.REF_KW ∷ k.MUT_KW ∷ []

-- with `true`, where all of Rust is read
unfoldable pub pat_field_first : Bool → List SyntaxKind
pat_field_first is_whole = stated_field_first ++ where_whole is_whole (k.POUND ∷ [])

unfoldable pub pat_field_or_rest : Bool → List SyntaxKind
pat_field_or_rest is_whole = k.DOT2 ∷ pat_field_first is_whole

-- behind a name, what makes it a path
abbrev pub path_pat_next : List SyntaxKind
path_pat_next = k.COLON2 ∷ k.L_PAREN ∷ k.L_CURLY ∷ k.DOT2 ∷ k.DOT2EQ ∷ []

abbrev pub path_ahead : Test
path_ahead = ((k.IDENT ∷ []) ∷ path_pat_next ∷ []) ∷ []

-- a name and `!`
abbrev pub macro_pat_ahead : Test
macro_pat_ahead = ((k.IDENT ∷ []) ∷ (k.BANG ∷ []) ∷ []) ∷ []

-- ** In parentheses: none, one, or some with commas.

unfoldable pub unit_pat : Form Goal
unit_pat = a k.R_PAREN then seal k.TUPLE_PAT

unfoldable pub paren_pat : Form Goal
paren_pat = a k.R_PAREN then seal k.PAREN_PAT

unfoldable pub pats : Form Goal
pats = comma_list pat_first (child (Pat TopLevel))

unfoldable pub tuple_pat : Form Goal
tuple_pat = a k.COMMA then pats then a k.R_PAREN then seal k.TUPLE_PAT

unfoldable pub paren_or_tuple_pat : Form Goal
paren_or_tuple_pat = child (Pat TopLevel) then (choose (at (k.R_PAREN ∷ [])) paren_pat tuple_pat)

unfoldable pub pat_in_parentheses : Form Goal
pat_in_parentheses = a k.L_PAREN then (choose (at (k.R_PAREN ∷ [])) unit_pat paren_or_tuple_pat)

-- ** Others that brackets or a token tell.

unfoldable pub wildcard_pat : Form Goal
wildcard_pat = a k.UNDERSCORE then seal k.WILDCARD_PAT

unfoldable pub slice_pat : Form Goal
slice_pat = a k.L_BRACK then pats then a k.R_BRACK then seal k.SLICE_PAT

unfoldable pub ref_pat_mut : Form Goal
ref_pat_mut = decide (at (k.MUT_KW ∷ [])) (a k.MUT_KW) nothing

-- of `&&`, the first one alone
unfoldable pub ref_pat : Form Goal
ref_pat = part ampersands then ref_pat_mut then child (Pat BehindAmp) then seal k.REF_PAT

-- ** Literals, and the bounds of ranges.

unfoldable pub literal_pat : Form Goal
literal_pat = optional (k.MINUS ∷ []) (a k.MINUS) then mark literal then seal k.LITERAL_PAT

unfoldable pub bound_path : Form Goal
bound_path = mark (path InExpr) then seal k.PATH_PAT

unfoldable pub range_bound : Form Goal
range_bound = choose (at literal_pat_first) (mark literal_pat) (mark bound_path)

unfoldable pub range_pat_to : Form Goal
range_pat_to = a k.DOT2 then optional bound_first range_bound then seal k.RANGE_PAT

unfoldable pub range_pat_to_inclusive : Form Goal
range_pat_to_inclusive = a k.DOT2EQ then range_bound then seal k.RANGE_PAT

unfoldable pub range_pat_behind_bound : Form Goal
range_pat_behind_bound = choose (at (k.DOT2 ∷ [])) range_pat_to (optional (k.DOT2EQ ∷ []) range_pat_to_inclusive)

-- no range stands directly behind `&`
unfoldable pub range_pat_end : PatPlace → Form Goal
range_pat_end BehindAmp = nothing
range_pat_end TopLevel = range_pat_behind_bound
range_pat_end NoBar = range_pat_behind_bound

unfoldable pub range_pat_to_bound : Form Goal
range_pat_to_bound = range_bound then seal k.RANGE_PAT

unfoldable pub rest_or_range_pat_to : Form Goal
rest_or_range_pat_to = a k.DOT2 then (choose (at bound_first) range_pat_to_bound (seal k.REST_PAT))

unfoldable pub range_pat_without_start : Form Goal
range_pat_without_start = choose (at (k.DOT2 ∷ [])) rest_or_range_pat_to range_pat_to_inclusive

unfoldable pub rest_pat : Form Goal
rest_pat = a k.DOT2 then seal k.REST_PAT

unfoldable pub rest_or_range_pat : PatPlace → Form Goal
rest_or_range_pat BehindAmp = rest_pat
rest_or_range_pat TopLevel = range_pat_without_start
rest_or_range_pat NoBar = range_pat_without_start

unfoldable pub literal_or_range_pat : PatPlace → Form Goal
literal_or_range_pat place = mark literal_pat then range_pat_end place

-- ** Names and paths.

unfoldable pub ident_pat : Form Goal
ident_pat =
    optional (k.REF_KW ∷ []) (a k.REF_KW) then optional (k.MUT_KW ∷ []) (a k.MUT_KW) then mark name
    then optional (k.AT ∷ []) (a k.AT then child (Pat NoBar)) then seal k.IDENT_PAT

unfoldable pub tuple_struct_pat : Form Goal
tuple_struct_pat = a k.L_PAREN then pats then a k.R_PAREN then seal k.TUPLE_STRUCT_PAT

unfoldable pub named_pat_field : Form Goal
named_pat_field = mark name_ref then a k.COLON then child (Pat TopLevel) then seal k.RECORD_PAT_FIELD

unfoldable pub numbered_pat_field : Form Goal
numbered_pat_field = mark number_ref then a k.COLON then child (Pat TopLevel) then seal k.RECORD_PAT_FIELD

unfoldable pub shorthand_pat_field : Form Goal
shorthand_pat_field = mark ident_pat then seal k.RECORD_PAT_FIELD

unfoldable pub numbered_or_shorthand : Form Goal
numbered_or_shorthand = choose (at (k.INT_NUMBER ∷ [])) numbered_pat_field shorthand_pat_field

unfoldable pub bare_pat_field : Form Goal
bare_pat_field = decide name_colon named_pat_field numbered_or_shorthand

unfoldable pub attributed_pat_field : Form Goal
attributed_pat_field = some_attrs then bare_pat_field

unfoldable pub stated_pat_field : Form Goal
stated_pat_field = mark bare_pat_field

unfoldable pub record_pat_field : Form Goal
record_pat_field = also (k.POUND ∷ []) (mark attributed_pat_field) stated_pat_field

unfoldable pub record_pat_item : Form Goal
record_pat_item = record_pat_field then comma_by pat_field_or_rest

unfoldable pub record_pat_rest : Form Goal
record_pat_rest = optional (k.DOT2 ∷ []) (mark rest_pat) then a k.R_CURLY then seal k.RECORD_PAT_FIELD_LIST

unfoldable pub record_pat_field_list : Form Goal
record_pat_field_list = a k.L_CURLY then repeated_by pat_field_first record_pat_item then record_pat_rest

unfoldable pub record_pat : Form Goal
record_pat = mark record_pat_field_list then seal k.RECORD_PAT

unfoldable pub bare_path_pat : PatPlace → Form Goal
bare_path_pat place = seal k.PATH_PAT then range_pat_end place

-- all since the mark is the path, which has no generic arguments
unfoldable pub macro_pat : Form Goal
macro_pat = check (none_is (k.L_ANGLE ∷ [])) then a k.BANG then child TokenTree then seal k.MACRO_CALL then seal k.MACRO_PAT

unfoldable pub stated_pat_end : PatPlace → Form Goal
stated_pat_end place =
    choose (at (k.L_PAREN ∷ [])) tuple_struct_pat
    (choose (at (k.L_CURLY ∷ [])) record_pat
    (bare_path_pat place))

unfoldable pub path_pat_end : PatPlace → Form Goal
path_pat_end place = also (k.BANG ∷ []) macro_pat (stated_pat_end place)

unfoldable pub path_pat : PatPlace → Form Goal
path_pat place = mark (path InExpr) then path_pat_end place

-- a plain name is no path
unfoldable pub path_but_no_name : PatPlace → Form Goal
path_but_no_name place = look false (at (k.IDENT ∷ [])) then path_pat place

unfoldable pub name_or_path_pat : PatPlace → Form Goal
name_or_path_pat place = choose (at ident_pat_first) (mark ident_pat) (path_but_no_name place)

unfoldable pub stated_named_pat : PatPlace → Form Goal
stated_named_pat place = decide path_ahead (path_pat place) (name_or_path_pat place)

unfoldable pub named_pat : PatPlace → Form Goal
named_pat place = also_decide macro_pat_ahead (path_pat place) (stated_named_pat place)

-- ** All of them.

unfoldable pub single_pat : PatPlace → Form Goal
single_pat place =
    choose (at (k.UNDERSCORE ∷ [])) wildcard_pat
    (choose (at ampersands) ref_pat
    (choose (at (k.L_PAREN ∷ [])) pat_in_parentheses
    (choose (at (k.L_BRACK ∷ [])) slice_pat
    (choose (at ranges) (rest_or_range_pat place)
    (choose (at literal_pat_first) (literal_or_range_pat place)
    (named_pat place))))))

unfoldable pub next_pat : Form Goal
next_pat = a k.PIPE then child (Pat NoBar)

unfoldable pub or_pat : Form Goal
or_pat = next_pat then repeated (k.PIPE ∷ []) next_pat then seal k.OR_PAT

unfoldable pub single_or_pats : Form Goal
single_or_pats = single_pat TopLevel then optional (k.PIPE ∷ []) or_pat

unfoldable pub any_pat : Form Goal
any_pat = choose (at (k.PIPE ∷ [])) or_pat single_or_pats

unfoldable pub pat : PatPlace → Form Goal
pat TopLevel = any_pat
pat NoBar = single_pat NoBar
pat BehindAmp = single_pat BehindAmp

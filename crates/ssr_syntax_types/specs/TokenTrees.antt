-- Forms of token trees and attributes.
use Rattle.std.specs.Prelude.{List, [], ◌∷◌, ◌++◌}
use Rattle.ssr_syntax_kinds.specs.declared.kinds.SyntaxKind.{SyntaxKind}
use Rattle.ssr_syntax_kinds.specs.declared.kinds.SyntaxKind.TheVariants as k
use Rattle.ssr_syntax_types.specs.declared.goals.Goal.{Goal}
use Rattle.ssr_syntax_types.specs.declared.goals.Goal.TheVariants.{TokenTree}
use Rattle.ssr_syntax_forms.specs.Forms.{Form, Test, ◌then◌, nothing, child, mark, seal, choose, wide, a, part, at, repeated, as_long_as}
use Rattle.ssr_syntax_types.specs.Literals.{literals}

-- the brackets that open
unfoldable pub opening : List SyntaxKind
opening = k.L_PAREN ∷ k.L_BRACK ∷ k.L_CURLY ∷ []

-- identifiers, lifetimes, `_` and the keywords that are no literals
unfoldable pub words : List SyntaxKind
words =
    k.IDENT ∷ k.LIFETIME_IDENT ∷ k.UNDERSCORE ∷ k.AS_KW ∷ k.ASYNC_KW ∷ k.AWAIT_KW ∷ k.BREAK_KW ∷ k.CONST_KW ∷
    k.CONTINUE_KW ∷ k.CRATE_KW ∷ k.DYN_KW ∷ k.ELSE_KW ∷ k.ENUM_KW ∷ k.EXTERN_KW ∷ k.FN_KW ∷ k.FOR_KW ∷ k.IF_KW ∷
    k.IMPL_KW ∷ k.IN_KW ∷ k.LET_KW ∷ k.LOOP_KW ∷ k.MATCH_KW ∷ k.MOD_KW ∷ k.MOVE_KW ∷ k.MUT_KW ∷ k.PUB_KW ∷ k.REF_KW ∷
    k.RETURN_KW ∷ k.SELF_KW ∷ k.SELF_TYPE_KW ∷ k.STATIC_KW ∷ k.STRUCT_KW ∷ k.SUPER_KW ∷ k.TRAIT_KW ∷ k.TYPE_KW ∷
    k.UNSAFE_KW ∷ k.USE_KW ∷ k.WHERE_KW ∷ k.WHILE_KW ∷ k.ABSTRACT_KW ∷ k.BECOME_KW ∷ k.BOX_KW ∷ k.DO_KW ∷ k.FINAL_KW ∷
    k.MACRO_KW ∷ k.OVERRIDE_KW ∷ k.PRIV_KW ∷ k.TRY_KW ∷ k.TYPEOF_KW ∷ k.UNSIZED_KW ∷ k.VIRTUAL_KW ∷ k.YIELD_KW ∷ []

-- punctuation of one character, but for brackets
unfoldable pub punctuation : List SyntaxKind
punctuation =
    k.SEMICOLON ∷ k.COMMA ∷ k.L_ANGLE ∷ k.R_ANGLE ∷ k.AT ∷ k.POUND ∷ k.TILDE ∷ k.QUESTION ∷ k.DOLLAR ∷ k.AMP ∷
    k.PLUS ∷ k.STAR ∷ k.SLASH ∷ k.CARET ∷ k.PERCENT ∷ k.DOT ∷ k.COLON ∷ k.EQ ∷ k.BANG ∷ k.MINUS ∷ k.PIPE ∷ []

-- punctuation that is joined outside of token trees
unfoldable pub joined_punctuation : List SyntaxKind
joined_punctuation =
    k.COLON2 ∷ k.THIN_ARROW ∷ k.FAT_ARROW ∷ k.DOT2 ∷ k.DOT2EQ ∷ k.EQ2 ∷ k.NEQ ∷ k.LTEQ ∷ k.GTEQ ∷ k.AMP2 ∷ k.PIPE2 ∷
    k.SHL ∷ k.SHR ∷ k.PLUSEQ ∷ k.MINUSEQ ∷ k.STAREQ ∷ k.SLASHEQ ∷ k.PERCENTEQ ∷ k.CARETEQ ∷ k.AMPEQ ∷ k.PIPEEQ ∷
    k.SHLEQ ∷ k.SHREQ ∷ []

-- all tokens but brackets
unfoldable pub loose : List SyntaxKind
loose = literals ++ words ++ punctuation ++ joined_punctuation

-- what stands in a token tree begins with one of these
unfoldable pub tree_first : List SyntaxKind
tree_first = opening ++ loose

-- ** Tokens in brackets, each of them alone: none is joined.

unfoldable pub token_tree_item : Form Goal
token_tree_item = choose (at opening) (child TokenTree) (part loose)

unfoldable pub curly_tree : Form Goal
curly_tree = a k.L_CURLY then repeated tree_first token_tree_item then a k.R_CURLY then seal k.TOKEN_TREE

unfoldable pub paren_tree : Form Goal
paren_tree = a k.L_PAREN then repeated tree_first token_tree_item then a k.R_PAREN then seal k.TOKEN_TREE

unfoldable pub bracket_tree : Form Goal
bracket_tree = a k.L_BRACK then repeated tree_first token_tree_item then a k.R_BRACK then seal k.TOKEN_TREE

unfoldable pub paren_or_bracket_tree : Form Goal
paren_or_bracket_tree = choose (at (k.L_PAREN ∷ [])) (mark paren_tree) (mark bracket_tree)

unfoldable pub token_tree : Form Goal
token_tree = choose (at (k.L_CURLY ∷ [])) (mark curly_tree) paren_or_bracket_tree

-- ** Attributes.

unfoldable pub attr : Form Goal
attr = a k.POUND then child TokenTree then seal k.ATTR

unfoldable pub inner_attr : Form Goal
inner_attr = a k.POUND then a k.BANG then child TokenTree then seal k.ATTR

unfoldable pub attrs : Form Goal
attrs = repeated (k.POUND ∷ []) (mark attr)

-- one or more
unfoldable pub some_attrs : Form Goal
some_attrs = mark attr then attrs

abbrev pub inner_attr_ahead : Test
inner_attr_ahead = ((k.POUND ∷ []) ∷ (k.BANG ∷ []) ∷ []) ∷ []

-- at the beginning of braces, of all of Rust
unfoldable pub inner_attrs : Form Goal
inner_attrs = wide (as_long_as inner_attr_ahead (mark inner_attr)) nothing

-- The forms of which tokens are set aside one by one.
use Rattle.std.specs.Prelude.{ℕ, ◌+◌, ◌-◌, ◌&&◌, ◌||◌, nat_lt, Bool, false, if◌then◌else◌, List, [], ◌∷◌, slice_get}
use Rattle.std.specs.List.{list_any}
use Rattle.std.specs.Option.{option_map_or}
use Rattle.ssr_syntax_kinds.specs.Kinds.{same_kind}
use Rattle.ssr_syntax_kinds.specs.declared.kinds.SyntaxKind.{SyntaxKind}
use Rattle.ssr_syntax_kinds.specs.declared.kinds.SyntaxKind.TheVariants as k
use Rattle.ssr_syntax_lex.specs.declared.tokens.RawToken.{RawToken}
use Rattle.ssr_drafts.specs.declared.form.Form.{Form}
use Rattle.ssr_drafts.specs.declared.form.Form.TheVariants as forms

-- the kind of the token at a place; where there is none, that of white space
abbrev pub kind_at : List RawToken → ℕ → SyntaxKind
kind_at tokens place = option_map_or (λ token. token.kind) (slice_get tokens place) k.WHITESPACE

-- the kind of the token so many places in front of another one
unfoldable pub kind_before : List RawToken → ℕ → ℕ → SyntaxKind
kind_before tokens place count = if nat_lt place count then k.WHITESPACE else kind_at tokens (place - count)

abbrev pub is_one_of : List SyntaxKind → SyntaxKind → Bool
is_one_of kinds kind = list_any (same_kind kind) kinds

-- what may stand behind a name that is a modifier, as `default`
abbrev pub item_words : List SyntaxKind
item_words = k.FN_KW ∷ k.TRAIT_KW ∷ k.STATIC_KW ∷ k.UNSAFE_KW ∷ k.ASYNC_KW ∷ k.CONST_KW ∷ []

-- a modifier: `unsafe` of a module, `const` of a trait or an `impl`, a name in front of what an item begins with
unfoldable pub is_modifier : SyntaxKind → SyntaxKind → Bool
is_modifier kind behind =
    (same_kind kind k.UNSAFE_KW && same_kind behind k.MOD_KW)
    || ((same_kind kind k.CONST_KW && is_one_of (k.TRAIT_KW ∷ k.IMPL_KW ∷ []) behind) || (same_kind kind k.IDENT && is_one_of item_words behind))

-- what may stand in the brackets of `for<..>`
abbrev pub binder_kinds : List SyntaxKind
binder_kinds = k.LIFETIME_IDENT ∷ k.COMMA ∷ k.COLON ∷ k.PLUS ∷ []

-- what a closure begins with
abbrev pub closure_kinds : List SyntaxKind
closure_kinds = k.PIPE ∷ k.MOVE_KW ∷ k.ASYNC_KW ∷ []

-- of `for<..>` in front of a closure: its first two tokens, and those inside and at the end of the brackets
unfoldable pub opens_binder : SyntaxKind → SyntaxKind → SyntaxKind → Bool
opens_binder before kind behind = (same_kind kind k.FOR_KW && same_kind behind k.L_ANGLE) || (same_kind kind k.L_ANGLE && same_kind before k.FOR_KW)

unfoldable pub ends_binder : SyntaxKind → SyntaxKind → SyntaxKind → Bool
ends_binder before kind behind =
    is_one_of (k.L_ANGLE ∷ binder_kinds) before && (is_one_of binder_kinds kind || (same_kind kind k.R_ANGLE && is_one_of closure_kinds behind))

-- of `~const`, `?const` and `impl const`
unfoldable pub is_const_bound : SyntaxKind → SyntaxKind → SyntaxKind → Bool
is_const_bound before kind behind =
    (is_one_of (k.TILDE ∷ k.QUESTION ∷ []) kind && same_kind behind k.CONST_KW)
    || (same_kind kind k.CONST_KW && is_one_of (k.IMPL_KW ∷ k.TILDE ∷ k.QUESTION ∷ []) before)

-- one token that may be the default of a parameter
abbrev pub value_kinds : List SyntaxKind
value_kinds = k.INT_NUMBER ∷ k.CHAR ∷ k.BYTE ∷ k.TRUE_KW ∷ k.FALSE_KW ∷ k.IDENT ∷ []

-- the `=` of `const N: T = ..` stands so many places in front of another one
unfoldable pub begins_default : List RawToken → ℕ → ℕ → Bool
begins_default tokens place count =
    same_kind (kind_before tokens place count) k.EQ
    && (same_kind (kind_before tokens place (count + 2)) k.COLON && same_kind (kind_before tokens place (count + 4)) k.CONST_KW)

-- of `= 1` or `= -1`, the default of a parameter: the `=`, the `-` and the value
unfoldable pub is_default : List RawToken → ℕ → Bool
is_default tokens place =
    begins_default tokens place 0
    || ((begins_default tokens place 1 && (same_kind (kind_at tokens place) k.MINUS || is_one_of value_kinds (kind_at tokens place)))
    || (begins_default tokens place 2 && (same_kind (kind_before tokens place 1) k.MINUS && is_one_of value_kinds (kind_at tokens place))))

-- the `try` of `try!`
unfoldable pub is_try : SyntaxKind → SyntaxKind → Bool
is_try kind behind = same_kind kind k.TRY_KW && same_kind behind k.BANG

-- the last one of `...`
unfoldable pub is_third_dot : List RawToken → ℕ → Bool
is_third_dot tokens place =
    same_kind (kind_before tokens place 0) k.DOT && (same_kind (kind_before tokens place 1) k.DOT && same_kind (kind_before tokens place 2) k.DOT)

-- the token at a place may be set aside as one of a form
abbrev pub is_of : Form → List RawToken → ℕ → Bool
is_of forms.Modifier tokens place = is_modifier (kind_at tokens place) (kind_at tokens (place + 1))
is_of forms.Binder tokens place =
    opens_binder (kind_before tokens place 1) (kind_at tokens place) (kind_at tokens (place + 1))
    || ends_binder (kind_before tokens place 1) (kind_at tokens place) (kind_at tokens (place + 1))
is_of forms.Inner tokens place =
    is_const_bound (kind_before tokens place 1) (kind_at tokens place) (kind_at tokens (place + 1)) || is_default tokens place
is_of forms.Name tokens place = is_try (kind_at tokens place) (kind_at tokens (place + 1))
is_of forms.Inclusive tokens place = is_third_dot tokens place
is_of forms.Kept tokens place = false
is_of forms.Unread tokens place = false

-- What arguments are read as.
use Rattle.std.specs.Prelude.{ℕ, zero, suc, ◌+◌, ◌-◌, ◌==◌, ◌&&◌, ◌||◌, not, nat_lt, Bool, false, if◌then◌else◌, List, [], ◌∷◌, ◌++◌, length, map, take, drop, slice_get, codes}
use Rattle.std.specs.Option.{option_map_or}
use Rattle.ssr_syntax_kinds.specs.Kinds.{same_kind}
use Rattle.ssr_syntax_kinds.specs.declared.kinds.SyntaxKind.{SyntaxKind}
use Rattle.ssr_syntax_kinds.specs.declared.kinds.SyntaxKind.TheVariants as k
use Rattle.ssr_macro_arguments.specs.declared.arguments.ArgumentToken.{ArgumentToken}
use Rattle.ssr_macro_arguments.specs.declared.macros.Form.{Form}
use Rattle.ssr_macro_arguments.specs.declared.macros.Form.TheVariants as forms
use Rattle.ssr_macro_arguments.specs.Arguments.{Piece, pieces, mark}

abbrev pub opens : SyntaxKind → Bool
opens kind = same_kind kind k.L_PAREN || same_kind kind k.L_CURLY || same_kind kind k.L_BRACK

abbrev pub closes : SyntaxKind → Bool
closes kind = same_kind kind k.R_PAREN || same_kind kind k.R_CURLY || same_kind kind k.R_BRACK

-- how many brackets are open behind a token, where so many are open in front of it
abbrev pub depth_behind : ℕ → SyntaxKind → ℕ
depth_behind depth kind = if opens kind then depth + 1 else if closes kind then depth - 1 else depth

-- a token of a kind, outside of brackets
abbrev pub is_outer : SyntaxKind → ℕ → SyntaxKind → Bool
is_outer mark depth kind = (depth == 0) && same_kind kind mark

-- how many tokens stand in front of the first one of a kind that stands outside of brackets
abbrev pub front_length : SyntaxKind → ℕ → List ArgumentToken → ℕ
front_length mark depth [] = 0
front_length mark depth (t ∷ ts) = if is_outer mark depth t.kind then 0 else 1 + front_length mark (depth_behind depth t.kind) ts

-- ** Names of arguments.

-- a name and `=`, with which nothing is joined
abbrev pub begins_with_name : List ArgumentToken → Bool
begins_with_name [] = false
begins_with_name (t ∷ []) = false
begins_with_name (t ∷ (u ∷ ts)) = same_kind t.kind k.IDENT && same_kind u.kind k.EQ && not u.token.joint

abbrev pub name_length : List ArgumentToken → ℕ
name_length ts = if begins_with_name ts then 2 else 0

-- the tokens without the first `left`, and without the name and the `=` of each argument behind these
abbrev pub values_from : ℕ → ℕ → List ArgumentToken → List ArgumentToken
values_from left depth [] = []
values_from (suc left) depth (t ∷ ts) = values_from left depth ts
values_from zero depth (t ∷ ts) =
    t ∷ values_from (if is_outer k.COMMA depth t.kind then name_length ts else 0) (depth_behind depth t.kind) ts

-- the arguments without their names
abbrev pub values : List ArgumentToken → List ArgumentToken
values arguments = values_from (name_length arguments) 0 arguments

-- ** Format strings.

abbrev pub is_comma : ArgumentToken → Bool
is_comma t = same_kind t.kind k.COMMA

abbrev pub is_string : ArgumentToken → Bool
is_string t = same_kind t.kind k.STRING

-- how many tokens the first argument takes, with the comma behind it
abbrev pub first_length : List ArgumentToken → ℕ
first_length ts = let front = front_length k.COMMA 0 ts in if nat_lt front (length ts) then front + 1 else front

-- the same where the first argument is one string; none, where it is another one
abbrev pub lone_string_length : List ArgumentToken → ℕ
lone_string_length [] = 0
lone_string_length (t ∷ []) = if is_string t then 1 else 0
lone_string_length (t ∷ (u ∷ ts)) = if is_string t && is_comma u then 2 else 0

-- the arguments without the one behind so many others, where that is one string
abbrev pub without_string : ℕ → List ArgumentToken → List ArgumentToken
without_string zero ts = drop (lone_string_length ts) ts
without_string (suc before) ts = take (first_length ts) ts ++ without_string before (drop (first_length ts) ts)

-- the arguments that are searched: a format string isn't
abbrev pub searched : Form → List ArgumentToken → List ArgumentToken
searched (forms.Formatted before) arguments = without_string before arguments
searched forms.Values arguments = arguments
searched forms.Elements arguments = arguments
searched forms.Matched arguments = arguments

-- ** The forms.

abbrev pub ends_with_comma : List ArgumentToken → Bool
ends_with_comma arguments = option_map_or is_comma (slice_get arguments (length arguments - 1)) false

abbrev pub without_comma : List ArgumentToken → List ArgumentToken
without_comma arguments = if ends_with_comma arguments then take (length arguments - 1) arguments else arguments

-- the end of a tuple, with a comma where the arguments end without
abbrev pub closing : List ArgumentToken → List Piece
closing arguments = if ends_with_comma arguments then mark (codes ")") ∷ [] else mark (codes ",") ∷ (mark (codes ")") ∷ [])

abbrev pub in_tuple : List ArgumentToken → List Piece → List Piece
in_tuple arguments inner = mark (codes "(") ∷ (inner ++ closing arguments)

abbrev pub array_of : List ArgumentToken → List Piece
array_of arguments = mark (codes "[") ∷ (pieces arguments ++ mark (codes "]") ∷ [])

-- the arms behind the pattern
abbrev pub arms : List Piece
arms = map mark (codes "=" ∷ (codes ">" ∷ (codes "true" ∷ (codes "," ∷ (codes "_" ∷ (codes "=" ∷ (codes ">" ∷ (codes "false" ∷ (codes "}" ∷ [])))))))))

-- what stands in front of the pattern
abbrev pub head_of : List ArgumentToken → List Piece
head_of value = mark (codes "match") ∷ (pieces value ++ mark (codes "{") ∷ [])

abbrev pub match_of : List ArgumentToken → List ArgumentToken → List Piece
match_of value pattern = head_of value ++ (pieces pattern ++ arms)

abbrev pub tuple_of : List ArgumentToken → List Piece
tuple_of arguments = in_tuple arguments (pieces arguments)

unfoldable pub expansion_of : Form → List ArgumentToken → List Piece
expansion_of (forms.Formatted before) arguments = in_tuple arguments (pieces (values arguments))
expansion_of forms.Values arguments = tuple_of arguments
expansion_of forms.Elements arguments =
    if nat_lt (front_length k.SEMICOLON 0 arguments) (length arguments) then array_of arguments else tuple_of arguments
expansion_of forms.Matched arguments =
    let comma = front_length k.COMMA 0 arguments in
    if nat_lt comma (length arguments) then match_of (take comma arguments) (without_comma (drop (comma + 1) arguments)) else tuple_of arguments

-- The tokens by which a text's modules are found.
use Rattle.std.specs.Prelude.{◌&&◌, ◌==◌, nat_eq, Bool, not, if◌then◌else◌, List, [], ◌∷◌, codes, drop, filter, slice_index}
use Rattle.std.specs.List.{starts_with, after_first}
use Rattle.std.specs.Str.{trim_start}
use Rattle.ssr_syntax_kinds.specs.Kinds.{is_trivia}
use Rattle.ssr_syntax_lex.specs.declared.tokens.RawToken.{RawToken}
use Rattle.ssr_package.specs.Paths.{Text}

-- the tokens that are neither white space nor comments
abbrev pub solid : List RawToken → List RawToken
solid tokens = filter (λ token. not (is_trivia token.kind)) tokens

-- the bytes of a byte order mark
abbrev pub order_mark : Text
order_mark = 239 ∷ (187 ∷ (191 ∷ []))

-- a text without a byte order mark in front
abbrev pub unmarked : Text → Text
unmarked text = if starts_with nat_eq text order_mark then drop 3 text else text

-- `#!`, and behind it and white space no `[`: the line is no attribute
abbrev pub names_interpreter : Text → Bool
names_interpreter text = starts_with nat_eq text (codes "#!") && not (slice_index (trim_start (drop 2 text)) 0 == 91)

-- a text from its second line on
abbrev pub behind_line : Text → Text
behind_line text = after_first (λ b. b == 10) text

-- what of a text is cut into tokens
abbrev pub behind_front : Text → Text
behind_front text = if names_interpreter (unmarked text) then behind_line (unmarked text) else unmarked text

-- What the tokens of a text say of modules.
use Rattle.std.specs.Prelude.{◌||◌, Bool, if◌then◌else◌, List, [], ◌∷◌, ◌++◌, Option, Some, None, is_some, option_map, option_to_list}
use Rattle.std.specs.Option.{option_and_then}
use Rattle.ssr_syntax_kinds.specs.Kinds.{same_kind}
use Rattle.ssr_syntax_kinds.specs.declared.kinds.SyntaxKind.{SyntaxKind}
use Rattle.ssr_syntax_kinds.specs.declared.kinds.SyntaxKind.TheVariants as k
use Rattle.ssr_syntax_kinds.specs.declared.range.TextRange.{TextRange}
use Rattle.ssr_syntax_lex.specs.declared.tokens.RawToken.{RawToken}
use Rattle.ssr_package.specs.declared.marks.Mark.{Mark}
use Rattle.ssr_package.specs.declared.marks.Mark.TheVariants.{Module, Macro, Attribute, Condition, Opens, Closes, Ends}

abbrev pub Tokens : Type 0
Tokens = List RawToken

-- where tokens begin with one of this kind: its range, and the tokens behind it
abbrev pub eat : SyntaxKind → Tokens → Option (TextRange × Tokens)
eat kind [] = None
eat kind (t ∷ ts) = if same_kind t.kind kind then Some (t.range, ts) else None

-- the key and the value of `key = "value"`
abbrev pub assignment : Tokens → Option (TextRange × TextRange)
assignment ts =
    option_and_then
    (λ (key, after_key). option_and_then
    (λ (sign, after_sign). option_map (λ (value, after). (key, value)) (eat k.STRING after_sign))
    (eat k.EQ after_key))
    (eat k.IDENT ts)

abbrev pub opens_brace : Tokens → Bool
opens_brace ts = is_some (eat k.L_CURLY ts)

abbrev pub is_named_brace : Tokens → Bool
is_named_brace ts = is_some (option_and_then (λ (name, after). eat k.L_CURLY after) (eat k.IDENT ts))

-- behind `mod`: a name
abbrev pub module_mark : Tokens → Option Mark
module_mark ts = option_map (λ (name, after). Module name) (eat k.IDENT ts)

-- behind a name: `! {` or `! name {`
abbrev pub macro_call : Tokens → Option Mark
macro_call ts =
    option_and_then (λ (bang, after). if opens_brace after || is_named_brace after then Some Macro else None) (eat k.BANG ts)

-- behind `#`: `[key = "value"`
abbrev pub attribute : Tokens → Option Mark
attribute ts =
    option_and_then
    (λ (bracket, after). option_map (λ (key, value). Attribute key value) (assignment after))
    (eat k.L_BRACK ts)

-- behind a comma: `key = "value"`
abbrev pub condition : Tokens → Option Mark
condition ts = option_map (λ (key, value). Condition key value) (assignment ts)

-- what a token of a kind says in front of others
abbrev pub mark_of : SyntaxKind → Tokens → Option Mark
mark_of k.MOD_KW ts = module_mark ts
mark_of k.IDENT ts = macro_call ts
mark_of k.POUND ts = attribute ts
mark_of k.COMMA ts = condition ts
mark_of k.L_CURLY ts = Some Opens
mark_of k.R_CURLY ts = Some Closes
mark_of k.SEMICOLON ts = Some Ends
mark_of _ ts = None

-- what tokens say, in order
abbrev pub marks : Tokens → List Mark
marks [] = []
marks (t ∷ ts) = option_to_list (mark_of t.kind ts) ++ marks ts

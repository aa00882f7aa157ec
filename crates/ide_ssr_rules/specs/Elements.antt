-- The elements of a side: its tokens and placeholders.
use Rattle.std.specs.Prelude.{ℕ, zero, suc, Bool, true, false, ◌^◌, nat_lt, List, [], ◌∷◌, ◌++◌, length, Option, Some, None, Result, Ok, Err, unwrap_or, if◌then◌else◌}
use Rattle.std.specs.List.{filter_map}
use Rattle.std.specs.Option.{option_map, option_map_or}
use Rattle.ssr_syntax_kinds.specs.declared.kinds.SyntaxKind.{SyntaxKind}
use Rattle.ssr_syntax_kinds.specs.declared.kinds.SyntaxKind.TheVariants as k
use Rattle.ssr_syntax_lex.specs.declared.tokens.LexError.TheVariants as errors
use Rattle.ssr_syntax_lex.specs.Fault.{error_words}
use Rattle.ssr_syntax_lex.specs.Tokens.{tokens, fault}
use Rattle.ssr_syntax_rows.specs.Solid.{pieces}
use Rattle.ssr_syntax_tree.specs.Syntax.{Token}
use Rattle.ide_ssr_resolved_rule.specs.declared.constraints.Constraint.{Constraint}
use Rattle.ide_ssr_rules.specs.declared.elements.Element.{Element}
use Rattle.ide_ssr_rules.specs.declared.elements.Element.TheVariants as e
use Rattle.ide_ssr_refusals.specs.declared.refusals.Refusal.TheVariants as r
use Rattle.ide_ssr_rules.specs.Constraints.{Placeholder, Taken, named_placeholder}
use Rattle.ide_ssr_refusals.specs.declared.refusals.Refusal.{Refusal}
use Rattle.ide_ssr_refusals.specs.Refusals.{◌>>=◌}
use Rattle.ide_ssr_resolved_rule.specs.Names.{has}

-- the tokens of a text; none where the lexer refuses it, for its length too
unfoldable pub lexed : List ℕ → Option (List Token)
lexed text = if nat_lt (length text) (2 ^ 32) then option_map (pieces text) (tokens text) else None

-- the lexer's words for a text without tokens; one of less than 2^32 bytes has a fault
unfoldable pub fault_in : List ℕ → List ℕ
fault_in text = if nat_lt (length text) (2 ^ 32) then unwrap_or (fault text) [] else error_words errors.TooLong

abbrev pub is_dollar : SyntaxKind → Bool
is_dollar k.DOLLAR = true
is_dollar _ = false

abbrev pub after : Element → Result (List Element) Refusal → Result (List Element) Refusal
after element (Ok elements) = Ok (element ∷ elements)
after element (Err refusal) = Err refusal

-- a placeholder whose name is none of those before
abbrev pub with_new_name : List (List ℕ) → Placeholder × List Token → Taken Placeholder
with_new_name names (placeholder, rest) =
    if has names placeholder.name then Err (r.Repeated placeholder.name) else Ok (placeholder, rest)

abbrev pub new_placeholder : List (List ℕ) → List Token → Taken Placeholder
new_placeholder names tokens = named_placeholder tokens >>= (λ read. with_new_name names read)

-- the elements that tokens are, of which there are at most `fuel`: a placeholder begins with `$`, any other token is
-- itself; `names` are those of the placeholders before
abbrev pub elements_within : ℕ → List (List ℕ) → List Token → Result (List Element) Refusal
elements_within zero names tokens = Ok []
elements_within (suc fuel) names [] = Ok []
elements_within (suc fuel) names (token ∷ tokens) =
    if is_dollar token.kind
    then new_placeholder names tokens
    >>= (λ (placeholder, rest). after (e.Placeholder placeholder) (elements_within fuel (names ++ placeholder.name ∷ []) rest))
    else after (e.Token token) (elements_within fuel names tokens)

unfoldable pub elements : List (List ℕ) → List Token → Result (List Element) Refusal
elements names tokens = elements_within (length tokens) names tokens

-- the elements of a side
unfoldable pub side : List ℕ → Result (List Element) Refusal
side text = option_map_or (elements []) (lexed text) (Err (r.LexerFault (fault_in text)))

abbrev pub name_of : Element → Option (List ℕ)
name_of (e.Token token) = None
name_of (e.Placeholder placeholder) = Some placeholder.name

-- the names of a side's placeholders, in order
abbrev pub names_of : List Element → List (List ℕ)
names_of elements = filter_map name_of elements

abbrev pub constraints_at : Element → Option (List Constraint)
constraints_at (e.Token token) = None
constraints_at (e.Placeholder placeholder) = Some placeholder.constraints

-- what each of a side's placeholders asks, in the order of their names
abbrev pub constraints_of : List Element → List (List Constraint)
constraints_of elements = filter_map constraints_at elements

abbrev pub asks : List Constraint → Bool
asks [] = false
asks (constraint ∷ constraints) = true

-- whether an element is a placeholder with constraints
abbrev pub is_constrained : Element → Bool
is_constrained (e.Token token) = false
is_constrained (e.Placeholder placeholder) = asks placeholder.constraints

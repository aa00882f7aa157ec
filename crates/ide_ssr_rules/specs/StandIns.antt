-- Stand-ins: what is read in a placeholder's place.
use Rattle.std.specs.Prelude.{ℕ, ◌&&◌, List, [], ◌∷◌, Option, Some, None, unwrap_or, if◌then◌else◌}
use Rattle.std.specs.List.{flat_map}
use Rattle.std.specs.Option.{option_map_or, option_or}
use Rattle.std.specs.Str.{trim}
use Rattle.ssr_syntax_kinds.specs.declared.kinds.SyntaxKind.TheVariants as k
use Rattle.ssr_syntax_tree.specs.Syntax.{Token, same_token}
use Rattle.ssr_syntax_kinds.specs.Kinds.{is_ident}
use Rattle.ide_ssr_rules.specs.declared.elements.Element.{Element}
use Rattle.ide_ssr_rules.specs.declared.elements.Element.TheVariants as e
use Rattle.ide_ssr_rules.specs.Elements.{lexed, name_of}
use Rattle.ide_ssr_resolved_rule.specs.StandIns.{stand_in_of, is_stand_in}

-- the token that is read for an element
abbrev pub read_as : Element → Token
read_as (e.Token token) = token
read_as (e.Placeholder placeholder) = record { kind = k.IDENT; text = stand_in_of placeholder.name }

-- a side's text with stand-ins
abbrev pub code_of : List Element → List ℕ
code_of elements = flat_map (λ element. (read_as element).text) elements

-- what the first element gives that gives something
abbrev pub first_of : {X : Type 0} → (Element → Option X) → List Element → Option X
first_of find [] = None
first_of find (element ∷ elements) = option_or (find element) (first_of find elements)

-- the first placeholder's name; a side whose tokens change has one
abbrev pub first_name : List Element → List ℕ
first_name elements = unwrap_or (first_of name_of elements) []

-- which placeholder isn't a token of its own, where the text with stand-ins has these tokens:
-- the first at or after the first token that differs. Elements and tokens spell the same text, so if no element
-- differs, no token is left.
abbrev pub first_glued : List Element → List Token → Option (List ℕ)
first_glued [] tokens = None
first_glued (element ∷ elements) [] = Some (first_name (element ∷ elements))
first_glued (element ∷ elements) (token ∷ tokens) =
    if same_token (read_as element) token then first_glued elements tokens else Some (first_name (element ∷ elements))

-- Which placeholder of a side isn't a token of its own: the first one, if the text with stand-ins doesn't lex. The text is
-- taken without white space around it, as its kinds are read.
unfoldable pub glued_placeholder : List Element → Option (List ℕ)
glued_placeholder elements = option_map_or (first_glued elements) (lexed (trim (code_of elements))) (Some (first_name elements))

-- an identifier's text, where it is spelled as a stand-in of one of the names
abbrev pub stand_in_text : List (List ℕ) → Element → Option (List ℕ)
stand_in_text names (e.Token token) = if is_ident token.kind && is_stand_in names token.text then Some token.text else None
stand_in_text names (e.Placeholder placeholder) = None

-- the text of the first identifier of a side that is spelled as a stand-in of one of the names
abbrev pub spelled_stand_in : List (List ℕ) → List Element → Option (List ℕ)
spelled_stand_in names elements = first_of (stand_in_text names) elements

-- Placeholders as they are written: `$name`, or `${name:constraint}` with any number of constraints.
use Rattle.std.specs.Prelude.{ℕ, zero, suc, Bool, true, false, List, [], ◌∷◌, Result, Ok, Err, bytes_eq, codes, length, if◌then◌else◌}
use Rattle.ssr_syntax_kinds.specs.declared.kinds.SyntaxKind.{SyntaxKind}
use Rattle.ssr_syntax_kinds.specs.declared.kinds.SyntaxKind.TheVariants as k
use Rattle.ssr_syntax_kinds.specs.Kinds.{is_ident}
use Rattle.ssr_syntax_tree.specs.Syntax.{Token}
use Rattle.ide_ssr_resolved_rule.specs.declared.constraints.Constraint.{Constraint}
use Rattle.ide_ssr_resolved_rule.specs.declared.constraints.Constraint.TheVariants as c
use Rattle.ide_ssr_resolved_rule.specs.Constraints.{contrary}
use Rattle.ide_ssr_refusals.specs.declared.refusals.Refusal.TheVariants as r
use Rattle.ide_ssr_refusals.specs.declared.refusals.Refusal.{Refusal}
use Rattle.ide_ssr_refusals.specs.Refusals.{◌>>=◌}

-- a placeholder, without its `$`
pub record Placeholder : Type 0 where
  pub name : List ℕ
  pub constraints : List Constraint

-- what is read from the front of a list of tokens, and the tokens behind it
abbrev pub Taken : Type 0 → Type 0
Taken A = Result (A × List Token) Refusal

-- ** Constraints: `kind(literal)` and `not(..)`.

-- a bracket of a constraint, and what stands behind it
unfoldable pub bracket : List ℕ → List Token → Result (List Token) Refusal
bracket wanted [] = Err (r.NoBracket wanted)
bracket wanted (token ∷ tokens) = if bytes_eq token.text wanted then Ok tokens else Err (r.OtherBracket wanted token.text)

-- the kind's name in a constraint
unfoldable pub kind_name : List Token → Taken (List ℕ)
kind_name [] = Err r.EndOfKind
kind_name (token ∷ tokens) = if is_ident token.kind then Ok (token.text, tokens) else Err (r.NoKindName token.kind)

-- the one kind that a constraint may name
abbrev pub constraint_on : List ℕ → List Token → Taken Constraint
constraint_on name tokens = if bytes_eq name (codes "literal") then Ok (c.Literal, tokens) else Err (r.UnknownKind name)

-- the constraint behind the word `kind`
unfoldable pub on_kind : List Token → Taken Constraint
on_kind tokens = do
  inside ← bracket (codes "(") tokens
  name ← kind_name inside
  behind ← bracket (codes ")") name.1
  constraint_on name.0 behind

-- the constraint behind its word: which of the two forms follows
abbrev pub by_word : List ℕ → Taken Constraint → Taken Constraint → Taken Constraint
by_word word kind negated =
    if bytes_eq word (codes "kind") then kind
    else if bytes_eq word (codes "not") then negated
    else Err (r.UnknownConstraint word)

-- the constraint behind the word `not`, where what stands inside is read so
abbrev pub on_not : (List Token → Taken Constraint) → List Token → Taken Constraint
on_not inner tokens = do
  inside ← bracket (codes "(") tokens
  negated ← inner inside
  behind ← bracket (codes ")") negated.1
  Ok (contrary negated.0, behind)

-- a constraint is one of the two forms, by its word
abbrev pub worded : (List Token → Taken Constraint) → List Token → Taken Constraint
worded negated [] = Err r.NoConstraint
worded negated (word ∷ tokens) = by_word word.text (on_kind tokens) (negated tokens)

-- a constraint, in which at most `left` times `not` may stand inside one another
unfoldable pub constraint : ℕ → List Token → Taken Constraint
constraint zero tokens = worded (λ _. Err r.DeepConstraint) tokens
constraint (suc left) tokens = worded (on_not (constraint left)) tokens

abbrev pub most_nots : ℕ
most_nots = 128

-- ** Placeholders.

abbrev pub is_colon : SyntaxKind → Bool
is_colon k.COLON = true
is_colon _ = false

abbrev pub opens : SyntaxKind → Bool
opens k.L_CURLY = true
opens _ = false

abbrev pub closes : SyntaxKind → Bool
closes k.R_CURLY = true
closes _ = false

abbrev pub in_front : Constraint → Taken (List Constraint) → Taken (List Constraint)
in_front constraint (Ok rest) = Ok (constraint ∷ rest.0, rest.1)
in_front constraint (Err refusal) = Err refusal

-- the constraints up to `}`, each behind a `:`; there are at most `fuel` tokens
abbrev pub constraints_within : ℕ → List Token → Taken (List Constraint)
constraints_within zero tokens = Err r.NoClosingBrace
constraints_within (suc fuel) [] = Err r.NoClosingBrace
constraints_within (suc fuel) (token ∷ tokens) =
    if closes token.kind then Ok ([], tokens)
    else if is_colon token.kind
    then constraint most_nots tokens >>= (λ (constraint, rest). in_front constraint (constraints_within fuel rest))
    else Err (r.UnexpectedToken token.text)

unfoldable pub constraints : List Token → Taken (List Constraint)
constraints tokens = constraints_within (length tokens) tokens

-- a placeholder is named by an identifier
abbrev pub named : Token → List Constraint × List Token → Taken Placeholder
named token (constraints, behind) =
    if is_ident token.kind then Ok (record { name = token.text; constraints = constraints }, behind) else Err r.NoName

-- the placeholder behind `${`: the first token stands in the name's place, whatever it is
unfoldable pub braced : List Token → Taken Placeholder
braced [] = Err r.EndOfPlaceholder
braced (token ∷ tokens) = constraints tokens >>= (λ rest. named token rest)

-- the placeholder behind `$`
unfoldable pub named_placeholder : List Token → Taken Placeholder
named_placeholder [] = Err r.NoName
named_placeholder (token ∷ tokens) =
    if opens token.kind then braced tokens
    else if is_ident token.kind then Ok (record { name = token.text; constraints = [] }, tokens)
    else Err r.NoPlaceholder

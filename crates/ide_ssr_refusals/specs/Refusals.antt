-- Why a rule is refused, and with which words.
use Rattle.std.specs.Prelude.{ℕ, ◌≡◌, List, ◌++◌, Option, Some, None, Result, Ok, Err, codes, string_bytes}
use Rattle.ssr_syntax_kinds.specs.Kinds.{name}
use Rattle.ide_ssr_refusals.specs.declared.error.SsrError.{SsrError}
use Rattle.ide_ssr_refusals.specs.declared.error.SsrError.TheVariants as errors
use Rattle.ide_ssr_refusals.specs.declared.refusals.Refusal.TheVariants as r
pub use Rattle.ide_ssr_refusals.specs.declared.refusals.Refusal.{Refusal}

-- the message of a refusal
abbrev pub words : Refusal → List ℕ
words r.NoDelimiter = codes "Cannot find delimiter `==>>`"
words r.SecondDelimiter = codes "More than one delimiter found"
words (r.LexerFault fault) = codes "Failed to parse pattern: " ++ fault
words r.NoName = codes "Placeholder ($) with no name"
words r.NoPlaceholder = codes "Placeholders should either be $name or ${name:constraints}"
words r.EndOfPlaceholder = codes "Unexpected end of placeholder"
words r.NoClosingBrace = codes "Placeholder is missing closing brace '}'"
words (r.UnexpectedToken text) = codes "Unexpected token while parsing placeholder: '" ++ (text ++ codes "'")
words r.NoConstraint = codes "Found end of placeholder while looking for a constraint"
words r.EndOfKind = codes "Unexpected end of constraint while looking for kind"
words (r.NoKindName kind) = codes "Expected ident, found " ++ (name kind ++ codes " while parsing kind constraint")
words (r.OtherBracket wanted text) = codes "Expected " ++ (wanted ++ (codes " found " ++ text))
words (r.NoBracket wanted) = codes "Expected " ++ (wanted ++ codes " found end of stream")
words (r.UnknownKind text) = codes "Unknown node kind '" ++ (text ++ codes "'")
words (r.UnknownConstraint text) = codes "Unsupported constraint type '" ++ (text ++ codes "'")
words r.DeepConstraint = codes "Constraint nested too deeply"
words (r.Repeated name) = codes "Placeholder `$" ++ (name ++ codes "` repeats more than once")
words (r.Glued name) = codes "Placeholder `$" ++ (name ++ codes "` isn't a token of its own")
words (r.Reserved text) = codes "Name `" ++ (text ++ codes "` is reserved")
words r.NoKind = codes "Not a valid Rust expression, type, item, path or pattern"
words (r.ConstraintInMacroCall name) = codes "Placeholder `$" ++ (name ++ codes "` in a macro call cannot have constraints")
words r.ConstraintInTemplate = codes "Replacement placeholders cannot have constraints"
words (r.Undefined names) = codes "Replacement contains undefined placeholders: " ++ names
words (r.UnresolvedPath path) = codes "Failed to resolve path `" ++ (path ++ codes "`")

-- an error tells a refusal; want of memory tells nothing
abbrev pub Tells : SsrError → Refusal → Type 0
Tells errors.Memory refusal = Unit {0}
Tells (errors.Message message) refusal = string_bytes message ≡ words refusal

-- an error tells why a reading refuses
abbrev pub TellsOf : {A : Type 0} → SsrError → Result A Refusal → Type 0
TellsOf error (Err refusal) = Tells error refusal
TellsOf errors.Memory (Ok value) = Unit {0}
TellsOf (errors.Message message) (Ok value) = ⊥

-- a call answers as the reading does, `seen` being what the reading knows of the call's value
abbrev pub AnswersBy : {A B : Type 0} → (A → B) → Result A SsrError → Result B Refusal → Type 0
AnswersBy seen (Ok value) reading = reading ≡ Ok (seen value)
AnswersBy seen (Err error) reading = TellsOf error reading

abbrev pub Answers : {A : Type 0} → Result A SsrError → Result A Refusal → Type 0
Answers result reading = AnswersBy (λ value. value) result reading

-- the message of an error; want of memory has none
abbrev pub message_of : SsrError → Option (List ℕ)
message_of errors.Memory = None
message_of (errors.Message message) = Some (string_bytes message)

-- the bytes that a user is shown
abbrev pub shown : SsrError → List ℕ
shown errors.Memory = codes "out of memory"
shown (errors.Message message) = codes "Parse error: " ++ string_bytes message

infixl 10 ◌>>=◌
abbrev pub ◌>>=◌ : {A B : Type 0} → Result A Refusal → (A → Result B Refusal) → Result B Refusal
Ok value >>= next = next value
Err refusal >>= next = Err refusal

-- goes on unless there is something to refuse
abbrev pub unless : {A : Type 0} → (A → Refusal) → Option A → Result (Unit {0}) Refusal
unless refusal None = Ok tt
unless refusal (Some fault) = Err (refusal fault)

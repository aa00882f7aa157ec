-- The workspace of one file: it is built of what the file is read as, and the reading's refusal is the only one.
use Rattle.std.proofs.Common.{◌≡◌, ℕ, List, [], ◌∷◌, ◌++◌, Result, Ok, Err, String, Global, refl, ap, ◌∙◌, subst, string_bytes}
use Rattle.ssr_syntax_tree.specs.Syntax.{Syntax}
use Rattle.ssr_syntax.specs.declared.syntax_error.SyntaxError.{SyntaxError}
use Rattle.ssr_syntax.specs.declared.syntax_error.SyntaxError.TheVariants as syntax
use Rattle.ssr_syntax.specs.Reading.{file_reading}
use Rattle.ssr_base.specs.declared.building.Expansion.{Expansion}
use Rattle.ssr_base.specs.declared.workspace_error.WorkspaceError.{WorkspaceError}
use Rattle.ssr_base.specs.declared.workspace_error.WorkspaceError.TheVariants as errors
use Rattle.ssr_base.specs.Building.{Gives, built}
use Rattle.ssr_base_trees.specs.Workspace.{Workspace}
use Rattle.ssr_program.specs.OfFile.{one_file}
use Rattle.ssr_program.specs.Private.Rewriting.{AnswersFile}

abbrev pub Reading : Type 0
Reading = Result Syntax SyntaxError

-- what is built of a file, by what it is read as
abbrev pub of_reading : Reading → Result Workspace WorkspaceError
of_reading (Ok code) = Ok (one_file code)
of_reading (Err syntax.Memory) = Err errors.Memory
of_reading (Err error) = Err (errors.File 0 error)

built_of : (text : String Global) (reading : Reading) → file_reading (string_bytes text) ≡ reading → built (text ∷ []) [] ≡ of_reading reading
unfolding built
built_of text (Ok code) is = rw is refl
built_of text (Err syntax.Lex) is = rw is refl
built_of text (Err syntax.NoTree) is = rw is refl
built_of text (Err syntax.TooDeep) is = rw is refl
built_of text (Err syntax.TooLong) is = rw is refl
built_of text (Err syntax.Memory) is = rw is refl

-- what is answered for a list of one text, and for no expansion
pub one_given : (before files : List (String Global)) (text : String Global) (expansions : List Expansion) (answer result : Result Workspace WorkspaceError)
    → before ≡ [] → files ≡ before ++ text ∷ [] → expansions ≡ [] → Gives (built files expansions) answer → answer ≡ result
    → Gives (of_reading (file_reading (string_bytes text))) result
one_given before files text expansions answer result none one without gives is =
    let given : files ≡ text ∷ [] = one ∙ ap (λ (ts : List (String Global)). ts ++ text ∷ []) none in
    subst (Gives (of_reading (file_reading (string_bytes text)))) is
    (subst (λ due. Gives due answer) (ap (λ ts. built ts expansions) given ∙ ap (built (text ∷ [])) without ∙ built_of text (file_reading (string_bytes text)) refl)
    gives)

pub file_told : (reading : Reading) (w : Workspace) → Gives (of_reading reading) (Ok w) → AnswersFile reading (Ok w)
file_told (Ok code) w is = (code, refl, cc)
file_told (Err syntax.Lex) w is = cc
file_told (Err syntax.NoTree) w is = cc
file_told (Err syntax.TooDeep) w is = cc
file_told (Err syntax.TooLong) w is = cc
file_told (Err syntax.Memory) w is = cc

-- ** Refusals.

-- those of a file
abbrev IsOfFile : WorkspaceError → Type 0
IsOfFile (errors.File number error) = Unit {0}
IsOfFile errors.Memory = Unit {0}
IsOfFile error = ⊥

abbrev HasFileError : Result Workspace WorkspaceError → Type 0
HasFileError (Ok w) = Unit {0}
HasFileError (Err error) = IsOfFile error

file_error : (reading : Reading) → HasFileError (of_reading reading)
file_error (Ok code) = tt
file_error (Err syntax.Lex) = tt
file_error (Err syntax.NoTree) = tt
file_error (Err syntax.TooDeep) = tt
file_error (Err syntax.TooLong) = tt
file_error (Err syntax.Memory) = tt

pub of_file : (reading : Reading) (error : WorkspaceError) → of_reading reading ≡ Err error → IsOfFile error
of_file reading error is = subst HasFileError is (file_error reading)

-- a refusal of the file is told as it is
abbrev TellsFile : Reading → Result Workspace WorkspaceError → Type 0
TellsFile reading (Ok w) = Unit {0}
TellsFile reading (Err (errors.File number error)) = AnswersFile reading (Err error)
TellsFile reading (Err error) = Unit {0}

tells_file : (reading : Reading) → TellsFile reading (of_reading reading)
tells_file (Ok code) = tt
tells_file (Err syntax.Lex) = refl
tells_file (Err syntax.NoTree) = refl
tells_file (Err syntax.TooDeep) = refl
tells_file (Err syntax.TooLong) = refl
tells_file (Err syntax.Memory) = tt

pub refusal_told : (reading : Reading) (number : ℕ) (error : SyntaxError) → of_reading reading ≡ Err (errors.File number error) → AnswersFile reading (Err error)
refusal_told reading number error is = subst (TellsFile reading) is (tells_file reading)

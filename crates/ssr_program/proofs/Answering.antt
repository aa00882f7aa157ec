-- From what the middle of the program answers to what a run answers.
use Rattle.std.proofs.Common.{◌≡◌, ℕ, List, Option, Some, Result, Err, String, codes, sym, subst}
use Rattle.ssr_syntax.specs.declared.syntax_error.SyntaxError.{SyntaxError}
use Rattle.ssr_syntax.specs.declared.syntax_error.SyntaxError.TheVariants as syntax
use Rattle.ssr_facts.specs.declared.facts_error.FactsError.{FactsError}
use Rattle.ssr_facts.specs.declared.facts_error.FactsError.TheVariants as facts
use Rattle.ssr_program.specs.declared.commands.Form.{Form}
use Rattle.ssr_program.specs.declared.commands.Form.TheVariants as forms
use Rattle.ssr_program.specs.declared.rewrite_error.RewriteError.{RewriteError}
use Rattle.ssr_program.specs.declared.rewrite_error.RewriteError.TheVariants as errors
use Rattle.ssr_streams.specs.Streams.{Given, Taken, IsRead}
use Rattle.ssr_program.specs.Commands.{command_of}
use Rattle.ssr_program.specs.Output.{Output, input_refused}
use Rattle.ssr_program.specs.OfFile.{words_of}
use Rattle.ssr_program.specs.OfFacts.{facts_words}
use Rattle.ssr_program.specs.Private.Rewriting.{Rewrites}
use Rattle.ssr_program.specs.Running.{Answered, told, no_memory_for_input, Goes}

module _ (words : Option (List (List ℕ))) (old new : Given) (form : Form) (rules : List (List ℕ)) (input : List ℕ) (asked : command_of words ≡ Some (form, rules)) (read : IsRead old new input) where
  abbrev pub Answers : Output → Type 0
  Answers output = Answered words old new output

  no_memory_in : (other : Form) → form ≡ other → Answers (input_refused other (codes "out of memory"))
  no_memory_in other is =
      subst (λ (form : Form). Answers (input_refused form (codes "out of memory"))) is (no_memory_for_input form rules asked read.calm)

  pub answered_file : (error : SyntaxError) → Rewrites {A = ℕ} form rules input (Err (errors.File error)) → Answers (input_refused forms.File (words_of error))
  answered_file syntax.Lex is = told form rules input _ asked read is
  answered_file syntax.NoTree is = told form rules input _ asked read is
  answered_file syntax.TooDeep is = told form rules input _ asked read is
  answered_file syntax.TooLong is = told form rules input _ asked read is
  answered_file syntax.Memory is = no_memory_in forms.File is

  pub answered_facts : (error : FactsError) → Rewrites {A = ℕ} form rules input (Err (errors.Facts error)) → Answers (input_refused forms.Facts (facts_words error))
  answered_facts facts.NotJson is = told form rules input _ asked read is.1
  answered_facts facts.Shape is = told form rules input _ asked read is.1
  answered_facts (facts.Workspace refusal) is = told form rules input _ asked read is.1
  answered_facts facts.Memory is = no_memory_in forms.Facts is.0

  -- there may be no memory to tell why there are no facts
  pub answered_no_facts : (error : FactsError) → Rewrites {A = ℕ} form rules input (Err (errors.Facts error)) → Answers (input_refused forms.Facts (codes "out of memory"))
  answered_no_facts facts.NotJson is = no_memory_in forms.Facts is.0
  answered_no_facts facts.Shape is = no_memory_in forms.Facts is.0
  answered_no_facts (facts.Workspace refusal) is = no_memory_in forms.Facts is.0
  answered_no_facts facts.Memory is = no_memory_in forms.Facts is.0

-- what is answered in a form that is asked for, of bytes that are the input
pub rewrites_in : {A : Type 0} → (form other : Form) (rules : List (List ℕ)) (bytes input : List ℕ) (result : Result (String A) RewriteError) → form ≡ other
    → bytes ≡ input → Rewrites other rules bytes result → Rewrites form rules input result
rewrites_in {A} form other rules bytes input result is same rewrites =
    subst (λ (bytes : List ℕ). Rewrites {A = A} form rules bytes result) same
    (subst (λ (form : Form). Rewrites {A = A} form rules bytes result) (sym is) rewrites)

-- outputs that are equal go out in the same way
pub goes_as : (old new : Taken) (output output' : Output) (status : ℕ) → output ≡ output' → Goes old new output status → Goes old new output' status
goes_as old new output output' status same goes =
    let P : Output → Type 0 = λ o. Goes old new o status in subst P same goes

-- There is one output for rules and the bytes that are read.
use Rattle.std.proofs.Common.{◌≡◌, ◌≢◌, ℕ, Bool, true, false, List, [], Result, Ok, Err, refl, ap, subst, sym, ◌∙◌, arith}
use Rattle.std.specs.Str.{IsUtf8, is_utf8}
use Rattle.std.proofs.lemmas.Str.{IsUtf8-from_is_utf8, is_utf8-from_IsUtf8}
use Rattle.ssr_syntax_tree.specs.Syntax.{Syntax}
use Rattle.ssr_syntax.specs.declared.syntax_error.SyntaxError.{SyntaxError}
use Rattle.ssr_syntax.specs.Reading.{file_reading}
use Rattle.ssr_syntax.proofs.Shared.{file_needs_none}
use Rattle.ssr_base_trees.specs.Built.{IsBuilt}
use Rattle.ssr_base_trees.specs.Meanings.{Meanings}
use Rattle.ssr_base_trees.specs.Workspace.{Workspace}
use Rattle.ssr_base_trees.specs.declared.ids.FilePosition.{FilePosition}
use Rattle.ssr_base_trees.specs.declared.ids.FileRange.{FileRange}
use Rattle.ssr_base_trees.proofs.Shared.{built_none}
use Rattle.ssr_base.proofs.Shared.{built_read}
use Rattle.ssr_facts_rows.specs.Facts.{facts_of}
use Rattle.ssr_facts.specs.declared.facts.Facts.{Facts}
use Rattle.ssr_facts.specs.declared.facts_error.FactsError.{FactsError}
use Rattle.ssr_facts.specs.declared.facts_error.FactsError.TheVariants as errors
use Rattle.ssr_facts.specs.Reading.{Answers}
use Rattle.ssr_facts.proofs.Shared.{TellAlike, one_answer, told_built}
use Rattle.ssr_program.specs.declared.commands.Form.{Form}
use Rattle.ssr_program.specs.declared.commands.Form.TheVariants as forms
use Rattle.ssr_program.specs.Output.{Output, written, refused, input_refused, search_refused}
use Rattle.ssr_program.specs.OfFile.{IsFile, IsOutputOfFile, file_search, no_text, no_file, no_search, rewritten, one_file, text_with, words_of}
use Rattle.ssr_program.specs.OfFacts.{AreFacts, IsOutputOfFacts, facts_search, facts_words, names_of, clash_words, parts}
use Rattle.ssr_program.specs.OfFacts as facts
use Rattle.ssr_program.specs.Running.{IsOutput}
use Rattle.ssr_searching.specs.Searching.{Search, Outcome, refuses, clashes, changes, ComesTo}
use Rattle.ssr_program.proofs.OfFile.{never_clashes}
use Rattle.ssr_searching.proofs.Shared.{one_outcome, outcome_exists}

module _ (rules : List (List ℕ)) (bytes : List ℕ) where
  -- ** Of a file.

  abbrev FileExists : Type 0
  FileExists = (output : Output) × IsOutputOfFile rules bytes output

  by_outcome : (code : Syntax) → IsFile bytes code → (outcome : Outcome) → ComesTo (file_search code) rules outcome → FileExists
  by_outcome code is (refuses message) comes = (_, no_search code message is comes)
  by_outcome code is (clashes two) comes = absurd (never_clashes code rules two comes)
  by_outcome code is (changes new) comes = (_, rewritten code new is comes)

  one_built : (code : Syntax) → IsFile bytes code → IsBuilt (one_file code)
  one_built code is = built_read [] bytes code (omega arith) is.text is.read built_none

  by_file : IsUtf8 bytes → (reading : Result Syntax SyntaxError) → file_reading bytes ≡ reading → FileExists
  by_file text (Ok code) is =
      let file : IsFile bytes code = record { text = text; read = is } in
      let outcome = outcome_exists (file_search code) rules (one_built code file) in by_outcome code file outcome.0 outcome.1
  by_file text (Err error) is = (_, no_file error (file_needs_none bytes error is) text is)

  by_text : (text : Bool) → is_utf8 bytes ≡ text → FileExists
  by_text true is = by_file (IsUtf8-from_is_utf8 bytes is) (file_reading bytes) refl
  by_text false is = (_, no_text (λ text. let h : true ≡ false = sym (is_utf8-from_IsUtf8 bytes text) ∙ is in cc))

  pub file_exists : FileExists
  file_exists = by_text (is_utf8 bytes) refl

  same_file : (c d : Syntax) → IsFile bytes c → IsFile bytes d → c ≡ d
  same_file c d is other = let same : ◌≡◌ {A = Result Syntax SyntaxError} (Ok c) (Ok d) = sym is.read ∙ other.read in cc

  file_or_none : (c : Syntax) (error : SyntaxError) → IsFile bytes c → file_reading bytes ≡ Err error → ⊥
  file_or_none c error is none = let same : ◌≡◌ {A = Result Syntax SyntaxError} (Ok c) (Err error) = sym is.read ∙ none in cc

  same_search : (c d : Syntax) (a b : Outcome) → IsFile bytes c → IsFile bytes d → ComesTo (file_search c) rules a → ComesTo (file_search d) rules b → a ≡ b
  same_search c d a b is other comes again =
      one_outcome (file_search d) rules a b (subst (λ (c : Syntax). ComesTo (file_search c) rules a) (same_file c d is other) comes) again

  -- what is written for an outcome
  abbrev of_outcome : Syntax → Outcome → Output
  of_outcome code (refuses message) = search_refused message
  of_outcome code (clashes two) = written []
  of_outcome code (changes new) = written (text_with code (new 0))

  same_outcome : (c d : Syntax) (a b : Outcome) → IsFile bytes c → IsFile bytes d → ComesTo (file_search c) rules a → ComesTo (file_search d) rules b
      → of_outcome c a ≡ of_outcome d b
  same_outcome c d a b is other comes again =
      ap (λ (c : Syntax). of_outcome c a) (same_file c d is other) ∙ ap (of_outcome d) (same_search c d a b is other comes again)

  file_unique : (a b : Output) → IsOutputOfFile rules bytes a → IsOutputOfFile rules bytes b → a ≡ b
  file_unique _ _ (no_text _) (no_text _) = refl
  file_unique _ _ (no_text f) (no_file _ _ text _) = absurd (f text)
  file_unique _ _ (no_text f) (no_search _ _ is _) = absurd (f is.text)
  file_unique _ _ (no_text f) (rewritten _ _ is _) = absurd (f is.text)
  file_unique _ _ (no_file _ _ text _) (no_text f) = absurd (f text)
  file_unique _ _ (no_search _ _ is _) (no_text f) = absurd (f is.text)
  file_unique _ _ (rewritten _ _ is _) (no_text f) = absurd (f is.text)
  file_unique _ _ (no_file e _ _ f) (no_file e' _ _ f') = let same : e ≡ e' = cc in ap (λ x. input_refused forms.File (words_of x)) same
  file_unique _ _ (no_file e _ _ f) (no_search c _ is _) = absurd (file_or_none c e is f)
  file_unique _ _ (no_file e _ _ f) (rewritten c _ is _) = absurd (file_or_none c e is f)
  file_unique _ _ (no_search c _ is _) (no_file e _ _ f) = absurd (file_or_none c e is f)
  file_unique _ _ (rewritten c _ is _) (no_file e _ _ f) = absurd (file_or_none c e is f)
  file_unique _ _ (no_search c a is comes) (no_search d b other again) = same_outcome c d (refuses a) (refuses b) is other comes again
  file_unique _ _ (no_search c a is comes) (rewritten d b other again) = same_outcome c d (refuses a) (changes b) is other comes again
  file_unique _ _ (rewritten c a is comes) (no_search d b other again) = same_outcome c d (changes a) (refuses b) is other comes again
  file_unique _ _ (rewritten c a is comes) (rewritten d b other again) = same_outcome c d (changes a) (changes b) is other comes again

  -- ** Of facts.

  abbrev Answer : Type 0
  Answer = Result Facts FactsError

  abbrev FactsExist : Type 0
  FactsExist = (output : Output) × IsOutputOfFacts rules bytes output

  -- what is written for an outcome
  abbrev of_facts : Facts → Outcome → Output
  of_facts told (refuses message) = search_refused message
  of_facts told (clashes two) = refused (clash_words (names_of told) two)
  of_facts told (changes new) = written (parts (names_of told) told.workspace.files new)

  is_output : (told : Facts) → AreFacts bytes told → (outcome : Outcome) → ComesTo (facts_search told) rules outcome → IsOutputOfFacts rules bytes (of_facts told outcome)
  is_output told are (refuses message) comes = facts.no_search told message are comes
  is_output told are (clashes two) comes = facts.clash told two are comes
  is_output told are (changes new) comes = facts.rewritten told new are comes

  -- where bytes are read, or refused, there is an output
  pub facts_exist : (read : Answer) → read ≢ Err errors.Memory → Answers (facts_of bytes) read → FactsExist
  facts_exist (Err error) some is = (_, facts.no_facts error (λ same. some (ap Err same)) is)
  facts_exist (Ok told) some is =
      let outcome = outcome_exists (facts_search told) rules (told_built (facts_of bytes) told is) in (_, is_output told is outcome.0 outcome.1)

  are_facts : (told : Facts) → ◌≢◌ {A = Answer} (Ok told) (Err errors.Memory)
  are_facts told e = cc

  are_none : (error : FactsError) → error ≢ errors.Memory → ◌≢◌ {A = Answer} (Err error) (Err errors.Memory)
  are_none error some e = some (let same : error ≡ errors.Memory = cc in same)

  same_refusal : (e f : FactsError) → e ≢ errors.Memory → f ≢ errors.Memory → Answers (facts_of bytes) (Err e) → Answers (facts_of bytes) (Err f) → e ≡ f
  same_refusal e f some other is again = one_answer (facts_of bytes) (Err e) (Err f) (are_none e some) (are_none f other) is again

  facts_or_none : (told : Facts) (e : FactsError) → e ≢ errors.Memory → AreFacts bytes told → Answers (facts_of bytes) (Err e) → ⊥
  facts_or_none told e some are none = one_answer (facts_of bytes) (Ok told) (Err e) (are_facts told) (are_none e some) are none

  facts_alike : (a b : Facts) → AreFacts bytes a → AreFacts bytes b → TellAlike a b
  facts_alike a b are again = one_answer (facts_of bytes) (Ok a) (Ok b) (are_facts a) (are_facts b) are again

  searches_alike : (a b : Facts) → TellAlike a b → facts_search a ≡ facts_search b
  searches_alike a b alike =
      let made : Workspace → Meanings → FilePosition → List FileRange → Search =
      λ w m position ranges. record { workspace = w; meanings = m; position = position; ranges = ranges } in
      let one = facts_search a in
      let other = facts_search b in
      ap (λ w. made w one.meanings one.position one.ranges) alike.workspace
      ∙ ap (λ m. made other.workspace m one.position one.ranges) alike.meanings
      ∙ ap (λ position. made other.workspace other.meanings position one.ranges) alike.position
      ∙ ap (made other.workspace other.meanings other.position) alike.ranges

  of_alike : (a b : Facts) (outcome : Outcome) → TellAlike a b → of_facts a outcome ≡ of_facts b outcome
  of_alike a b (refuses message) alike = refl
  of_alike a b (clashes two) alike = ap (λ names. refused (clash_words names two)) alike.names
  of_alike a b (changes new) alike =
      ap (λ names. written (parts names a.workspace.files new)) alike.names
      ∙ ap (λ (w : Workspace). written (parts (names_of b) w.files new)) alike.workspace

  same_facts : (a b : Facts) (one other : Outcome) → AreFacts bytes a → AreFacts bytes b → ComesTo (facts_search a) rules one → ComesTo (facts_search b) rules other
      → of_facts a one ≡ of_facts b other
  same_facts a b one other are again comes as_well =
      let alike = facts_alike a b are again in
      of_alike a b one alike
      ∙ ap (of_facts b) (one_outcome (facts_search b) rules one other (subst (λ (s : Search). ComesTo s rules one) (searches_alike a b alike) comes) as_well)

  facts_unique : (a b : Output) → IsOutputOfFacts rules bytes a → IsOutputOfFacts rules bytes b → a ≡ b
  facts_unique _ _ (facts.no_facts e some is) (facts.no_facts f other again) =
      ap (λ e. input_refused forms.Facts (facts_words e)) (same_refusal e f some other is again)
  facts_unique _ _ (facts.no_facts e some is) (facts.no_search told _ are _) = absurd (facts_or_none told e some are is)
  facts_unique _ _ (facts.no_facts e some is) (facts.clash told _ are _) = absurd (facts_or_none told e some are is)
  facts_unique _ _ (facts.no_facts e some is) (facts.rewritten told _ are _) = absurd (facts_or_none told e some are is)
  facts_unique _ _ (facts.no_search told _ are _) (facts.no_facts e some is) = absurd (facts_or_none told e some are is)
  facts_unique _ _ (facts.clash told _ are _) (facts.no_facts e some is) = absurd (facts_or_none told e some are is)
  facts_unique _ _ (facts.rewritten told _ are _) (facts.no_facts e some is) = absurd (facts_or_none told e some are is)
  facts_unique _ _ (facts.no_search a m are comes) (facts.no_search b n again other) = same_facts a b (refuses m) (refuses n) are again comes other
  facts_unique _ _ (facts.no_search a m are comes) (facts.clash b n again other) = same_facts a b (refuses m) (clashes n) are again comes other
  facts_unique _ _ (facts.no_search a m are comes) (facts.rewritten b n again other) = same_facts a b (refuses m) (changes n) are again comes other
  facts_unique _ _ (facts.clash a m are comes) (facts.no_search b n again other) = same_facts a b (clashes m) (refuses n) are again comes other
  facts_unique _ _ (facts.clash a m are comes) (facts.clash b n again other) = same_facts a b (clashes m) (clashes n) are again comes other
  facts_unique _ _ (facts.clash a m are comes) (facts.rewritten b n again other) = same_facts a b (clashes m) (changes n) are again comes other
  facts_unique _ _ (facts.rewritten a m are comes) (facts.no_search b n again other) = same_facts a b (changes m) (refuses n) are again comes other
  facts_unique _ _ (facts.rewritten a m are comes) (facts.clash b n again other) = same_facts a b (changes m) (clashes n) are again comes other
  facts_unique _ _ (facts.rewritten a m are comes) (facts.rewritten b n again other) = same_facts a b (changes m) (changes n) are again comes other

  pub output_unique : (form : Form) (a b : Output) → IsOutput form rules bytes a → IsOutput form rules bytes b → a ≡ b
  output_unique forms.File = file_unique
  output_unique forms.Facts = facts_unique

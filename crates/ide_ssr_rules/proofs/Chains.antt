-- The steps of reading a rule, each after those that accepted.
use Rattle.std.proofs.Common.{◌≡◌, ℕ, List, ◌++◌, Option, Some, None, Result, Ok, ap, ◌∙◌, sym, subst}
use Rattle.std.specs.Option.{option_map}
use Rattle.std.specs.Str.{trim}
use Rattle.ssr_syntax_kinds.specs.declared.reach.Reach.{Reach}
use Rattle.ide_ssr_resolved_rule.specs.declared.constraints.Constraint.{Constraint}
use Rattle.ide_ssr_rules.specs.declared.elements.Element.{Element}
use Rattle.ide_ssr_refusals.specs.declared.error.SsrError.{SsrError}
use Rattle.ide_ssr_rules.specs.declared.kinds.ParsedRule.{ParsedRule}
use Rattle.ide_ssr_rules.specs.Elements.{names_of, constraints_of, side}
use Rattle.ide_ssr_refusals.specs.declared.refusals.Refusal.TheVariants as r
use Rattle.ide_ssr_rules.specs.Kinds.{kinds_of, some_kind}
use Rattle.ide_ssr_rules.specs.MacroCalls.{untested}
use Rattle.ide_ssr_refusals.specs.declared.refusals.Refusal.{Refusal}
use Rattle.ide_ssr_refusals.specs.Refusals.{TellsOf, Answers, ◌>>=◌, unless}
use Rattle.ide_ssr_rules.specs.Rules.{Rule, check_sides, check_uses, check_defined, unconstrained, written, rule_of, rule_reading_of, pattern_reading_of}
use Rattle.ide_ssr_rules.specs.Sides.{sides}
use Rattle.ide_ssr_rules.specs.StandIns.{glued_placeholder, code_of, spelled_stand_in}
use Rattle.ide_ssr_refusals.proofs.Shared.{tells_first, after_ok}

module _ (pattern template : List Element) where
  abbrev tokens_stay : List Element → Result (Unit {0}) Refusal
  tokens_stay elements = unless r.Glued (glued_placeholder elements)

  abbrev names_free : List (List ℕ) → List Element → Result (Unit {0}) Refusal
  names_free names elements = unless r.Reserved (spelled_stand_in names elements)

  abbrev all_names : List (List ℕ)
  all_names = names_of pattern ++ names_of template

  abbrev after_pattern : Unit {0} → Result (Unit {0}) Refusal
  after_pattern _ = tokens_stay template >>= (λ _. names_free all_names pattern >>= (λ _. names_free all_names template))

  pub pattern_glued : (error : SsrError) → TellsOf error (unless r.Glued (glued_placeholder pattern)) → TellsOf error (check_sides pattern template)
  unfolding check_sides
  pattern_glued error tells = tells_first (tokens_stay pattern) after_pattern error tells

  pub template_glued : (error : SsrError) → unless r.Glued (glued_placeholder pattern) ≡ Ok tt → TellsOf error (unless r.Glued (glued_placeholder template)) → TellsOf error (check_sides pattern template)
  unfolding check_sides
  template_glued error stays tells =
      after_ok (λ r. TellsOf error r) (tokens_stay pattern) after_pattern tt stays
      (tells_first (tokens_stay template) (λ _. names_free all_names pattern >>= (λ _. names_free all_names template)) error tells)

  pub pattern_reserved : (error : SsrError) (names : List (List ℕ)) → unless r.Glued (glued_placeholder pattern) ≡ Ok tt → unless r.Glued (glued_placeholder template) ≡ Ok tt → names ≡ names_of pattern ++ names_of template
      → TellsOf error (unless r.Reserved (spelled_stand_in names pattern)) → TellsOf error (check_sides pattern template)
  unfolding check_sides
  pattern_reserved error names stays too are tells =
      after_ok (λ r. TellsOf error r) (tokens_stay pattern) after_pattern tt stays
      (after_ok (λ r. TellsOf error r) (tokens_stay template) (λ _. names_free all_names pattern >>= (λ _. names_free all_names template)) tt too
      (tells_first (names_free all_names pattern) (λ _. names_free all_names template) error
      (subst (λ ns. TellsOf error (names_free ns pattern)) are tells)))

  pub sides_checked : (result : Result (Unit {0}) SsrError) (names kept : List (List ℕ)) → unless r.Glued (glued_placeholder pattern) ≡ Ok tt → unless r.Glued (glued_placeholder template) ≡ Ok tt
      → names ≡ names_of pattern ++ names_of template → unless r.Reserved (spelled_stand_in names pattern) ≡ Ok tt → kept ≡ names
      → Answers result (unless r.Reserved (spelled_stand_in kept template)) → Answers result (check_sides pattern template)
  unfolding check_sides
  sides_checked result names kept stays too are free keeps answers =
      after_ok (λ r. Answers result r) (tokens_stay pattern) after_pattern tt stays
      (after_ok (λ r. Answers result r) (tokens_stay template) (λ _. names_free all_names pattern >>= (λ _. names_free all_names template)) tt too
      (after_ok (λ r. Answers result r) (names_free all_names pattern) (λ _. names_free all_names template) tt (ap (λ ns. names_free ns pattern) (sym are) ∙ free)
      (subst (λ ns. Answers result (names_free ns template)) (keeps ∙ are) answers)))

module _ (reach : Reach) (pattern : List Element) (template : Option (List Element)) where
  abbrev pub kinds_read : Result (List ParsedRule) Refusal
  kinds_read = some_kind (kinds_of reach (code_of pattern) (option_map code_of template))

  abbrev pub rule_with : List ParsedRule → Unit {0} → Result Rule Refusal
  rule_with kinds _ = Ok (record { names = names_of pattern; constraints = constraints_of pattern; kinds = kinds })

  abbrev pub after_kinds : List ParsedRule → Result Rule Refusal
  after_kinds kinds = check_uses pattern (written template) kinds >>= rule_with kinds

  abbrev pub after_sides : Unit {0} → Result Rule Refusal
  after_sides _ = kinds_read >>= after_kinds

  pub sides_refused : (error : SsrError) → TellsOf error (check_sides pattern (written template)) → TellsOf error (rule_of reach pattern template)
  unfolding rule_of
  sides_refused error tells = tells_first (check_sides pattern (written template)) after_sides error tells

  pub kinds_refused : (error : SsrError) → check_sides pattern (written template) ≡ Ok tt → TellsOf error (some_kind (kinds_of reach (code_of pattern) (option_map code_of template)))
      → TellsOf error (rule_of reach pattern template)
  unfolding rule_of
  kinds_refused error checked tells =
      after_ok (λ r. TellsOf error r) (check_sides pattern (written template)) after_sides tt checked (tells_first kinds_read after_kinds error tells)

  pub uses_refused : (error : SsrError) (kinds kept : List ParsedRule) → check_sides pattern (written template) ≡ Ok tt
      → some_kind (kinds_of reach (code_of pattern) (option_map code_of template)) ≡ Ok kinds → kept ≡ kinds
      → TellsOf error (check_uses pattern (written template) kept) → TellsOf error (rule_of reach pattern template)
  unfolding rule_of
  uses_refused error kinds kept checked read same tells =
      after_ok (λ r. TellsOf error r) (check_sides pattern (written template)) after_sides tt checked
      (after_ok (λ r. TellsOf error r) kinds_read after_kinds kinds read
      (tells_first (check_uses pattern (written template) kinds) (rule_with kinds) error
      (subst (λ ks. TellsOf error (check_uses pattern (written template) ks)) same tells)))

  pub rule_made : (kinds used : List ParsedRule) (names kept : List (List ℕ)) (asked : List (List Constraint)) → check_sides pattern (written template) ≡ Ok tt
      → some_kind (kinds_of reach (code_of pattern) (option_map code_of template)) ≡ Ok kinds → used ≡ kinds → check_uses pattern (written template) used ≡ Ok tt
      → names ≡ names_of pattern → kept ≡ names → asked ≡ constraints_of pattern
      → rule_of reach pattern template ≡ Ok (record { names = kept; constraints = asked; kinds = kinds })
  unfolding rule_of
  rule_made kinds used names kept asked checked read same uses are keeps asks =
      let P : Result Rule Refusal → Type 0 = λ r. r ≡ Ok (record { names = kept; constraints = asked; kinds = kinds }) in
      after_ok P (check_sides pattern (written template)) after_sides tt checked
      (after_ok P kinds_read after_kinds kinds read
      (after_ok P (check_uses pattern (written template) kinds) (rule_with kinds) tt (ap (check_uses pattern (written template)) (sym same) ∙ uses)
      (ap (λ ns. Ok (record { names = ns; constraints = constraints_of pattern; kinds = kinds })) (sym (keeps ∙ are))
      ∙ ap (λ asks. Ok (record { names = kept; constraints = asks; kinds = kinds })) (sym asks))))

-- the uses of placeholders
module _ (pattern template : List Element) (kinds : List ParsedRule) where
  abbrev tested : Result (Unit {0}) Refusal
  tested = unless r.ConstraintInMacroCall (untested kinds pattern)

  abbrev template_plain : Result (Unit {0}) Refusal
  template_plain = unconstrained template

  abbrev after_plain : Unit {0} → Result (Unit {0}) Refusal
  after_plain _ = check_defined (names_of pattern) (names_of template)

  abbrev after_tested : Unit {0} → Result (Unit {0}) Refusal
  after_tested _ = template_plain >>= after_plain

  pub constraints_untested : (error : SsrError) → TellsOf error (unless r.ConstraintInMacroCall (untested kinds pattern)) → TellsOf error (check_uses pattern template kinds)
  unfolding check_uses
  constraints_untested error tells = tells_first tested after_tested error tells

  pub template_constrained : (error : SsrError) → unless r.ConstraintInMacroCall (untested kinds pattern) ≡ Ok tt → TellsOf error (unconstrained template)
      → TellsOf error (check_uses pattern template kinds)
  unfolding check_uses
  template_constrained error tests tells =
      after_ok (λ r. TellsOf error r) tested after_tested tt tests (tells_first template_plain after_plain error tells)

  pub uses_checked : (result : Result (Unit {0}) SsrError) (names used : List (List ℕ)) → unless r.ConstraintInMacroCall (untested kinds pattern) ≡ Ok tt
      → unconstrained template ≡ Ok tt → names ≡ names_of pattern → used ≡ names_of template
      → Answers result (check_defined names used) → Answers result (check_uses pattern template kinds)
  unfolding check_uses
  uses_checked result names used tests plain are uses answers =
      after_ok (λ r. Answers result r) tested after_tested tt tests
      (after_ok (λ r. Answers result r) template_plain after_plain tt plain
      (subst (λ us. Answers result (check_defined (names_of pattern) us)) uses (subst (λ ns. Answers result (check_defined ns used)) are answers)))

module _ (reach : Reach) (text : List ℕ) where
  abbrev after_side : List ℕ × List ℕ → List Element → Result Rule Refusal
  after_side texts pattern = side texts.1 >>= (λ template. rule_of reach pattern (Some template))

  abbrev after_split : List ℕ × List ℕ → Result Rule Refusal
  after_split texts = side texts.0 >>= after_side texts

  pub split_refused : (error : SsrError) → TellsOf error (sides text) → TellsOf error (rule_reading_of reach text)
  unfolding rule_reading_of
  split_refused error tells = tells_first (sides text) after_split error tells

  pub pattern_refused : (error : SsrError) (texts : List ℕ × List ℕ) → sides text ≡ Ok texts → TellsOf error (side texts.0) → TellsOf error (rule_reading_of reach text)
  unfolding rule_reading_of
  pattern_refused error texts split tells =
      after_ok (λ r. TellsOf error r) (sides text) after_split texts split (tells_first (side texts.0) (after_side texts) error tells)

  pub template_refused : (error : SsrError) (texts : List ℕ × List ℕ) (pattern : List Element) → sides text ≡ Ok texts → side texts.0 ≡ Ok pattern
      → TellsOf error (side texts.1) → TellsOf error (rule_reading_of reach text)
  unfolding rule_reading_of
  template_refused error texts pattern split read tells =
      after_ok (λ r. TellsOf error r) (sides text) after_split texts split
      (after_ok (λ r. TellsOf error r) (side texts.0) (after_side texts) pattern read (tells_first (side texts.1) (λ template. rule_of reach pattern (Some template)) error tells))

  pub rule_read : (result : Result Rule SsrError) (texts : List ℕ × List ℕ) (pattern template kept stayed : List Element) → sides text ≡ Ok texts → side texts.0 ≡ Ok pattern
      → side texts.1 ≡ Ok template → kept ≡ pattern → stayed ≡ template → Answers result (rule_of reach kept (Some stayed)) → Answers result (rule_reading_of reach text)
  unfolding rule_reading_of
  rule_read result texts pattern template kept stayed split read too keeps stays answers =
      after_ok (λ r. Answers result r) (sides text) after_split texts split
      (after_ok (λ r. Answers result r) (side texts.0) (after_side texts) pattern read
      (after_ok (λ r. Answers result r) (side texts.1) (λ template. rule_of reach pattern (Some template)) template too
      (subst (λ es. Answers result (rule_of reach pattern (Some es))) stays (subst (λ es. Answers result (rule_of reach es (Some stayed))) keeps answers))))

  pub alone_refused : (error : SsrError) (trimmed : List ℕ) → trimmed ≡ trim text → TellsOf error (side trimmed) → TellsOf error (pattern_reading_of reach text)
  unfolding pattern_reading_of
  alone_refused error trimmed is tells =
      tells_first (side (trim text)) (λ pattern. rule_of reach pattern None) error (subst (λ t. TellsOf error (side t)) is tells)

  pub alone_read : (result : Result Rule SsrError) (trimmed : List ℕ) (pattern kept : List Element) → trimmed ≡ trim text → side trimmed ≡ Ok pattern
      → kept ≡ pattern → Answers result (rule_of reach kept None) → Answers result (pattern_reading_of reach text)
  unfolding pattern_reading_of
  alone_read result trimmed pattern kept is read keeps answers =
      after_ok (λ r. Answers result r) (side (trim text)) (λ pattern. rule_of reach pattern None) pattern (ap side (sym is) ∙ read)
      (subst (λ es. Answers result (rule_of reach es None)) keeps answers)

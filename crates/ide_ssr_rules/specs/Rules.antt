-- Rules: the names of their placeholders, what each of these asks, and a pattern and a template for each kind that they can be read as. A search
-- pattern is a rule without a template.
use Rattle.std.specs.Prelude.{ℕ, ◌==◌, ◌&&◌, not, Bool, false, List, [], ◌∷◌, ◌++◌, length, take, Option, Some, None, Result, Ok, Err, unwrap_or, if◌then◌else◌}
use Rattle.std.specs.List.{filter, list_any}
use Rattle.std.specs.Option.{option_map}
use Rattle.std.specs.Str.{trim}
use Rattle.ssr_syntax_kinds.specs.declared.reach.Reach.{Reach}
use Rattle.ssr_syntax_kinds.specs.declared.reach.Reach.TheVariants.{Stated}
use Rattle.ssr_syntax_tree.specs.Syntax.{token_count}
use Rattle.ide_ssr_resolved_rule.specs.declared.constraints.Constraint.{Constraint}
use Rattle.ide_ssr_rules.specs.declared.elements.Element.{Element}
use Rattle.ide_ssr_rules.specs.declared.kinds.ParsedRule.{ParsedRule}
use Rattle.ide_ssr_refusals.specs.declared.refusals.Refusal.TheVariants as r
use Rattle.ide_ssr_resolved_rule.specs.Names.{has}
use Rattle.ide_ssr_rules.specs.Elements.{side, names_of, constraints_of, is_constrained}
use Rattle.ide_ssr_rules.specs.Kinds.{kinds_of, some_kind}
use Rattle.ide_ssr_rules.specs.Listed.{listed}
use Rattle.ide_ssr_rules.specs.MacroCalls.{untested}
use Rattle.ide_ssr_refusals.specs.declared.refusals.Refusal.{Refusal}
use Rattle.ide_ssr_refusals.specs.Refusals.{◌>>=◌, unless}
use Rattle.ide_ssr_rules.specs.Sides.{sides}
use Rattle.ide_ssr_rules.specs.StandIns.{code_of, glued_placeholder, spelled_stand_in}

pub record Rule : Type 0 where
  pub names : List (List ℕ)
  pub constraints : List (List Constraint)
  pub kinds : List ParsedRule

-- whether the pattern is a placeholder alone: it has one token and one placeholder, and each placeholder is one of its tokens
abbrev pub is_placeholder : List (List ℕ) → List ParsedRule → Bool
is_placeholder names [] = false
is_placeholder names (kind ∷ kinds) = (length names == 1) && (token_count kind.pattern.children == 1)

-- By each of its kinds a pattern that is a placeholder alone matches the same nodes. It is searched once by its first kind alone.
abbrev pub once : Rule → Rule
once rule = record rule { kinds = if is_placeholder rule.names rule.kinds then take 1 rule.kinds else rule.kinds }

-- names that a template uses and the pattern lacks
abbrev pub lacking : List (List ℕ) → List (List ℕ) → List (List ℕ)
lacking names used = filter (λ name. not (has names name)) used

abbrev pub none_of : List (List ℕ) → Result (Unit {0}) Refusal
none_of [] = Ok tt
none_of (name ∷ names) = Err (r.Undefined (listed (name ∷ names)))

abbrev pub check_defined : List (List ℕ) → List (List ℕ) → Result (Unit {0}) Refusal
check_defined names used = none_of (lacking names used)

-- no placeholder of a template has constraints
abbrev pub unconstrained : List Element → Result (Unit {0}) Refusal
unconstrained template = if list_any is_constrained template then Err r.ConstraintInTemplate else Ok tt

-- what both sides' placeholders ask for can be given: constraints where a match tests them, and names of the pattern
unfoldable pub check_uses : List Element → List Element → List ParsedRule → Result (Unit {0}) Refusal
check_uses pattern template kinds = do
  _ ← unless r.ConstraintInMacroCall (untested kinds pattern)
  _ ← unconstrained template
  check_defined (names_of pattern) (names_of template)

-- placeholders and the identifiers beside them are told apart where a side is read with stand-ins
unfoldable pub check_sides : List Element → List Element → Result (Unit {0}) Refusal
check_sides pattern template = do
  _ ← unless r.Glued (glued_placeholder pattern)
  _ ← unless r.Glued (glued_placeholder template)
  _ ← unless r.Reserved (spelled_stand_in (names_of pattern ++ names_of template) pattern)
  unless r.Reserved (spelled_stand_in (names_of pattern ++ names_of template) template)

-- what is written behind the pattern: nothing, where there is no template
abbrev pub written : Option (List Element) → List Element
written template = unwrap_or template []

-- the rule of a pattern and its template, if it has one
unfoldable pub rule_of : Reach → List Element → Option (List Element) → Result Rule Refusal
rule_of reach pattern template = do
  _ ← check_sides pattern (written template)
  kinds ← some_kind (kinds_of reach (code_of pattern) (option_map code_of template))
  _ ← check_uses pattern (written template) kinds
  Ok (record { names = names_of pattern; constraints = constraints_of pattern; kinds = kinds })

-- the rule that a text says in a reach, or its first refusal
unfoldable pub rule_reading_of : Reach → List ℕ → Result Rule Refusal
rule_reading_of reach text = do
  texts ← sides text
  pattern ← side texts.0
  template ← side texts.1
  rule_of reach pattern (Some template)

-- the rule that a text says in the stated language
unfoldable pub rule_reading : List ℕ → Result Rule Refusal
rule_reading text = rule_reading_of Stated text

-- the rule that a text says in a reach, as it is searched once
abbrev pub once_reading_of : Reach → List ℕ → Result Rule Refusal
once_reading_of reach text = rule_reading_of reach text >>= λ rule. Ok (once rule)

-- the search pattern that a text says in a reach, or its first refusal: one side, trimmed, without a template
unfoldable pub pattern_reading_of : Reach → List ℕ → Result Rule Refusal
pattern_reading_of reach text = do
  pattern ← side (trim text)
  rule_of reach pattern None

-- the search pattern that a text says in the stated language
unfoldable pub pattern_reading : List ℕ → Result Rule Refusal
pattern_reading text = pattern_reading_of Stated text

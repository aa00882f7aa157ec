-- That an accepted rule uses each placeholder once.
use Rattle.std.proofs.Common.{◌≡◌, ℕ, zero, suc, length, List, [], ◌∷◌, ◌++◌, Bool, true, false, cond, Option, Some, None, Result, Ok, Err, refl, ap, sym, subst, ◌∙◌}
use Rattle.std.specs.Option.{option_map, option_map_or}
use Rattle.ssr_syntax_kinds.specs.declared.reach.Reach.{Reach}
use Rattle.ssr_syntax_tree.specs.Syntax.{Token}
use Rattle.ide_ssr_rules.specs.declared.elements.Element.{Element}
use Rattle.ide_ssr_rules.specs.declared.elements.Element.TheVariants as e
use Rattle.ide_ssr_rules.specs.declared.kinds.ParsedRule.{ParsedRule}
use Rattle.ide_ssr_refusals.specs.declared.refusals.Refusal.TheVariants as r
use Rattle.ide_ssr_rules.specs.Constraints.{Placeholder, Taken, named_placeholder}
use Rattle.ide_ssr_rules.specs.Elements.{is_dollar, after, with_new_name, new_placeholder, elements_within, elements, lexed, fault_in, side, names_of, constraints_of}
use Rattle.ide_ssr_resolved_rule.specs.Names.{has, AreNew}
use Rattle.ide_ssr_rules.specs.Kinds.{kinds_of, some_kind}
use Rattle.ide_ssr_rules.specs.MacroCalls.{untested}
use Rattle.ide_ssr_refusals.specs.declared.refusals.Refusal.{Refusal}
use Rattle.ide_ssr_refusals.specs.Refusals.{◌>>=◌, unless}
use Rattle.ide_ssr_rules.specs.Rules.{Rule, rule_of, rule_reading_of, check_sides, check_uses, check_defined, unconstrained, none_of, lacking, written}
use Rattle.ide_ssr_rules.specs.Sides.{sides}
use Rattle.ide_ssr_rules.specs.StandIns.{code_of}
use Rattle.ide_ssr_rules.specs.Uses.{UsesPlaceholdersOnce}
use Rattle.ide_ssr_rules.proofs.Chains.{rule_with, after_kinds, after_sides}
use Rattle.ide_ssr_rules.proofs.ReadingElements.{behind_dollar}
use Rattle.ide_ssr_refusals.proofs.Shared.{went}

abbrev Fresh : List (List ℕ) → Result (List Element) Refusal → Type 0
Fresh names (Ok es) = AreNew names (names_of es)
Fresh names (Err refusal) = Unit {0}

fresh_token : (names : List (List ℕ)) (token : Token) (rest : Result (List Element) Refusal) → Fresh names rest → Fresh names (after (e.Token token) rest)
fresh_token names token (Ok es) fresh = fresh
fresh_token names token (Err refusal) fresh = tt

fresh_name : (names : List (List ℕ)) (one : Placeholder) (rest : Result (List Element) Refusal) → has names one.name ≡ false → Fresh (names ++ one.name ∷ []) rest → Fresh names (after (e.Placeholder one) rest)
fresh_name names one (Ok es) new fresh = (new, fresh)
fresh_name names one (Err refusal) new fresh = tt

fresh_known : (fuel : ℕ) (names : List (List ℕ)) (known : Bool) (one : Placeholder) (rest : List Token) → has names one.name ≡ known
    → Fresh (names ++ one.name ∷ []) (elements_within fuel (names ++ one.name ∷ []) rest)
    → Fresh names (cond known (Err (r.Repeated one.name)) (Ok (one, rest)) >>= behind_dollar fuel names)
fresh_known fuel names true one rest is fresh = tt
fresh_known fuel names false one rest is fresh = fresh_name names one (elements_within fuel (names ++ one.name ∷ []) rest) is fresh

fresh_behind : (fuel : ℕ) (names : List (List ℕ)) (read : Taken Placeholder)
    → ((ns : List (List ℕ)) (rest : List Token) → Fresh ns (elements_within fuel ns rest))
    → Fresh names ((read >>= (λ taken. with_new_name names taken)) >>= behind_dollar fuel names)
fresh_behind fuel names (Ok taken) fresh =
    fresh_known fuel names (has names taken.0.name) taken.0 taken.1 refl (fresh (names ++ taken.0.name ∷ []) taken.1)
fresh_behind fuel names (Err refusal) fresh = tt

fresh_step : (names : List (List ℕ)) (dollar : Bool) (one other : Result (List Element) Refusal) → Fresh names one → Fresh names other → Fresh names (cond dollar one other)
fresh_step names true one other first second = first
fresh_step names false one other first second = second

fresh_within : (fuel : ℕ) (names : List (List ℕ)) (tokens : List Token) → Fresh names (elements_within fuel names tokens)
fresh_within zero names tokens = tt
fresh_within (suc fuel) names [] = tt
fresh_within (suc fuel) names (token ∷ tokens) =
    fresh_step names (is_dollar token.kind) (new_placeholder names tokens >>= behind_dollar fuel names) (after (e.Token token) (elements_within fuel names tokens))
    (fresh_behind fuel names (named_placeholder tokens) (fresh_within fuel))
    (fresh_token names token (elements_within fuel names tokens) (fresh_within fuel names tokens))

fresh_lexed : (text : List ℕ) (tokens : Option (List Token)) → Fresh [] (option_map_or (elements []) tokens (Err (r.LexerFault (fault_in text))))
unfolding elements
fresh_lexed text None = tt
fresh_lexed text (Some tokens) = fresh_within (length tokens) [] tokens

fresh_side : (text : List ℕ) → Fresh [] (side text)
unfolding side
fresh_side text = fresh_lexed text (lexed text)

pub side_new : (text : List ℕ) (es : List Element) → side text ≡ Ok es → AreNew [] (names_of es)
side_new text es is = subst (Fresh []) is (fresh_side text)

none_lack : (names : List (List ℕ)) (value : Unit {0}) → none_of names ≡ Ok value → names ≡ []
none_lack [] value is = refl
none_lack (name ∷ names) value is = absurd cc

uses_defined : (pattern template : List Element) (kinds : List ParsedRule) → check_uses pattern template kinds ≡ Ok tt
    → lacking (names_of pattern) (names_of template) ≡ []
unfolding check_uses
uses_defined pattern template kinds is =
    let defined : Unit {0} → Result (Unit {0}) Refusal = λ _. check_defined (names_of pattern) (names_of template) in
    let tested = went (unless r.ConstraintInMacroCall (untested kinds pattern)) (λ _. unconstrained template >>= defined) tt is in
    let plain = went (unconstrained template) defined tt tested.next_is in
    none_lack (lacking (names_of pattern) (names_of template)) tt plain.next_is

module _ (reach : Reach) (pattern : List Element) (template : Option (List Element)) where
  pub record Uses (rule : Rule) : Type 0 where
    pub names : rule.names ≡ names_of pattern
    pub kinds : some_kind (kinds_of reach (code_of pattern) (option_map code_of template)) ≡ Ok rule.kinds
    pub defined : lacking (names_of pattern) (names_of (written template)) ≡ []

  pub rule_uses : (rule : Rule) → rule_of reach pattern template ≡ Ok rule → Uses rule
  unfolding rule_of
  rule_uses rule is =
      let kinds = went (check_sides pattern (written template)) (after_sides reach pattern template) rule is in
      let names = went (some_kind (kinds_of reach (code_of pattern) (option_map code_of template))) (after_kinds reach pattern template) rule kinds.next_is in
      let made = went (check_uses pattern (written template) names.found) (rule_with reach pattern template names.found) rule names.next_is in
      let same : record { names = names_of pattern; constraints = constraints_of pattern; kinds = names.found } ≡ rule = cc in
      let kinds_are : names.found ≡ rule.kinds = ap (λ (r : Rule). r.kinds) same in
      record {
        names = ap (λ (r : Rule). r.names) (sym same);
        kinds = names.first_is ∙ ap Ok kinds_are;
        defined = uses_defined pattern (written template) names.found made.first_is;
      }

-- the sides of an accepted rule
pub record Accepted (reach : Reach) (text : List ℕ) (rule : Rule) : Type 0 where
  pub texts : List ℕ × List ℕ
  pub pattern : List Element
  pub template : List Element
  pub split : sides text ≡ Ok texts
  pub pattern_read : side texts.0 ≡ Ok pattern
  pub template_read : side texts.1 ≡ Ok template
  pub rule_is : rule_of reach pattern (Some template) ≡ Ok rule

pub accepted : (reach : Reach) (text : List ℕ) (rule : Rule) → rule_reading_of reach text ≡ Ok rule → Accepted reach text rule
unfolding rule_reading_of
accepted reach text rule is =
    let split = went (sides text) (λ texts. side texts.0 >>= (λ pattern. side texts.1 >>= (λ template. rule_of reach pattern (Some template)))) rule is in
    let pattern = went (side split.found.0) (λ pattern. side split.found.1 >>= (λ template. rule_of reach pattern (Some template))) rule split.next_is in
    let template = went (side split.found.1) (λ template. rule_of reach pattern.found (Some template)) rule pattern.next_is in
    record {
      texts = split.found;
      pattern = pattern.found;
      template = template.found;
      split = split.first_is;
      pattern_read = pattern.first_is;
      template_read = template.first_is;
      rule_is = template.next_is;
    }

pub accepted_uses : (reach : Reach) (text : List ℕ) (rule : Rule) → rule_reading_of reach text ≡ Ok rule → UsesPlaceholdersOnce text rule
accepted_uses reach text rule is =
    let a = accepted reach text rule is in
    let uses = rule_uses reach a.pattern (Some a.template) rule a.rule_is in
    record {
      texts = a.texts;
      pattern = a.pattern;
      template = a.template;
      split = a.split;
      pattern_read = a.pattern_read;
      template_read = a.template_read;
      names = uses.names;
      once = side_new a.texts.0 a.pattern a.pattern_read;
      at_most_once = side_new a.texts.1 a.template a.template_read;
      defined = uses.defined;
    }

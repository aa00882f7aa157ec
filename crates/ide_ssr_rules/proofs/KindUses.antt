-- The kinds of an accepted rule have its placeholders once as they are read.
use Rattle.std.proofs.Common.{◌≡◌, ℕ, List, [], ◌∷◌, ◌++◌, All, Option, Some, None, Result, Ok, refl, sym, subst}
use Rattle.std.specs.Option.{IfSome, option_map}
use Rattle.std.specs.Str.{IsUtf8}
use Rattle.std.proofs.lemmas.List.Elements.{All-weaker}
use Rattle.ssr_syntax_kinds.specs.declared.fragment.Fragment.{Fragment}
use Rattle.ssr_syntax_kinds.specs.declared.reach.Reach.{Reach}
use Rattle.ssr_syntax_tree.specs.Syntax.{Syntax}
use Rattle.ide_ssr_rules.specs.declared.elements.Element.{Element}
use Rattle.ide_ssr_rules.specs.declared.kinds.ParsedRule.{ParsedRule}
use Rattle.ide_ssr_rules.specs.Elements.{names_of}
use Rattle.ide_ssr_rules.specs.Kinds.{kinds_of, some_kind}
use Rattle.ide_ssr_rules.specs.Patterns.{HasEachAtMostOnce, AreReadOnce}
use Rattle.ide_ssr_refusals.specs.declared.refusals.Refusal.TheVariants as r
use Rattle.ide_ssr_refusals.specs.declared.refusals.Refusal.{Refusal}
use Rattle.ide_ssr_refusals.specs.Refusals.{◌>>=◌, unless}
use Rattle.ide_ssr_rules.specs.Rules.{check_sides, written}
use Rattle.ide_ssr_rules.specs.StandIns.{code_of, glued_placeholder, spelled_stand_in}
use Rattle.ide_ssr_resolved_rule.specs.Names.{AreNew}
use Rattle.ide_ssr_rules.proofs.AtMostOnce.{template_at_most}
use Rattle.ide_ssr_rules.proofs.EachOnce.{IsSide, pattern_each, stays_trimmed}
use Rattle.ide_ssr_rules.proofs.KindsRead.{IsTemplateFrom, IsKindFrom, kinds_read}
use Rattle.ide_ssr_refusals.proofs.Shared.{went}

pub some_kinds : (kinds found : List ParsedRule) → some_kind kinds ≡ Ok found → kinds ≡ found
some_kinds [] found h = cc
some_kinds (kind ∷ kinds) found h = cc

all_unless : {X : Type 0} (refusal : X → Refusal) (o : Option X) → unless refusal o ≡ Ok tt → o ≡ None
all_unless refusal None h = refl
all_unless refusal (Some x) h = cc

-- what checked sides are
record AreChecked (pattern template : List Element) : Type 0 where
  pattern_same : glued_placeholder pattern ≡ None
  template_same : glued_placeholder template ≡ None
  pattern_free : spelled_stand_in (names_of pattern ++ names_of template) pattern ≡ None
  template_free : spelled_stand_in (names_of pattern ++ names_of template) template ≡ None

checked : (pattern template : List Element) → check_sides pattern template ≡ Ok tt → AreChecked pattern template
unfolding check_sides
checked pattern template h =
    let names = names_of pattern ++ names_of template in
    let stays : List Element → Result (Unit {0}) Refusal = λ side. unless r.Glued (glued_placeholder side) in
    let free : List Element → Result (Unit {0}) Refusal = λ side. unless r.Reserved (spelled_stand_in names side) in
    let first = went (stays pattern) (λ _. stays template >>= (λ _. free pattern >>= (λ _. free template))) tt h in
    let second = went (stays template) (λ _. free pattern >>= (λ _. free template)) tt first.next_is in
    let third = went (free pattern) (λ _. free template) tt second.next_is in
    record {
      pattern_same = all_unless r.Glued (glued_placeholder pattern) first.first_is;
      template_same = all_unless r.Glued (glued_placeholder template) second.first_is;
      pattern_free = all_unless r.Reserved (spelled_stand_in names pattern) third.first_is;
      template_free = all_unless r.Reserved (spelled_stand_in names template) third.next_is;
    }

-- what is known of a side before it is checked
pub record IsRead (es : List Element) : Type 0 where
  pub utf8 : IsUtf8 (code_of es)
  pub new : AreNew [] (names_of es)

pub are_read : (side : Option (List Element)) → IfSome side (λ es. IsUtf8 (code_of es)) → IfSome side (λ es. AreNew [] (names_of es))
    → IfSome side IsRead
are_read None utf8 new = tt
are_read (Some es) utf8 new = record { utf8 = utf8; new = new }

side_of : (names : List (List ℕ)) (side : List Element) → IsRead side → glued_placeholder side ≡ None → spelled_stand_in names side ≡ None
    → IsSide names side
side_of names side read same free =
    record { utf8 = read.utf8; is_trimmed = stays_trimmed side read.utf8 same; new = read.new; same = same; free = free }

template_once : (reach : Reach) (pattern : List Element) (template : Option (List Element)) → IfSome template IsRead → AreChecked pattern (written template)
    → (category : Fragment) (tree : Option Syntax) → IsTemplateFrom reach (option_map code_of template) category tree
    → HasEachAtMostOnce (names_of pattern) tree
template_once reach pattern None read c category None is = tt
template_once reach pattern None read c category (Some tree) is = absurd is
template_once reach pattern (Some template) read c category None is = absurd is
template_once reach pattern (Some template) read c category (Some tree) is =
    let all = names_of pattern ++ names_of template in
    template_at_most reach category template (names_of pattern) tree (side_of all template read c.template_same c.template_free) is

pub kinds_once : (reach : Reach) (pattern : List Element) (template : Option (List Element)) (names : List (List ℕ)) (kinds : List ParsedRule) → IsRead pattern
    → IfSome template IsRead → check_sides pattern (written template) ≡ Ok tt
    → some_kind (kinds_of reach (code_of pattern) (option_map code_of template)) ≡ Ok kinds → names ≡ names_of pattern → All (AreReadOnce names) kinds
kinds_once reach pattern template names kinds read_pattern read_template sides_checked read are =
    let c = checked pattern (written template) sides_checked in
    let own = names_of pattern in
    let others = names_of (written template) in
    let pattern_is = side_of (own ++ others) pattern read_pattern c.pattern_same c.pattern_free in
    let once : (kind : ParsedRule) → IsKindFrom reach (code_of pattern) (option_map code_of template) kind → AreReadOnce own kind =
    λ kind is. (
      pattern_each reach is.category pattern others kind.pattern pattern_is is.pattern_read,
      template_once reach pattern template read_template c kind.category kind.template is.template_read,
    ) in
    let found = kinds_of reach (code_of pattern) (option_map code_of template) in
    subst (λ ns. All (AreReadOnce ns) kinds) (sym are)
    (subst (All (AreReadOnce own)) (some_kinds found kinds read)
    (All-weaker (IsKindFrom reach (code_of pattern) (option_map code_of template)) (AreReadOnce own) once found
    (kinds_read reach (code_of pattern) (option_map code_of template))))

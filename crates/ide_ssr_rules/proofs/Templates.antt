-- A rule that is read has a template in each kind.
use Rattle.std.proofs.Common.{◌≡◌, ℕ, List, All, Option, Some, None, Ok, refl, subst}
use Rattle.std.specs.Prelude.{IsSome}
use Rattle.std.proofs.lemmas.List.Elements.{All-weaker}
use Rattle.ssr_syntax_kinds.specs.declared.fragment.Fragment.{Fragment}
use Rattle.ssr_syntax_kinds.specs.declared.reach.Reach.{Reach}
use Rattle.ssr_syntax_tree.specs.Syntax.{Syntax}
use Rattle.ide_ssr_rules.specs.declared.kinds.ParsedRule.{ParsedRule}
use Rattle.ide_ssr_rules.specs.Kinds.{kinds_of}
use Rattle.ide_ssr_rules.specs.Rules.{Rule, rule_reading_of}
use Rattle.ide_ssr_rules.specs.StandIns.{code_of}
use Rattle.ide_ssr_rules.proofs.KindsRead.{IsTemplateFrom, IsKindFrom, kinds_read}
use Rattle.ide_ssr_rules.proofs.KindUses.{some_kinds}
use Rattle.ide_ssr_rules.proofs.Uses.{accepted, rule_uses}

abbrev pub HasTemplate : ParsedRule → Type 0
HasTemplate kind = IsSome kind.template

has_template : (reach : Reach) (text : List ℕ) (category : Fragment) (template : Option Syntax) → IsTemplateFrom reach (Some text) category template → IsSome template
has_template reach text category None is = absurd is
has_template reach text category (Some tree) is = refl

kinds_have : (reach : Reach) (pattern template : List ℕ) → All HasTemplate (kinds_of reach pattern (Some template))
kinds_have reach pattern template =
    All-weaker (IsKindFrom reach pattern (Some template)) HasTemplate (λ kind is. has_template reach template kind.category kind.template is.template_read)
    (kinds_of reach pattern (Some template)) (kinds_read reach pattern (Some template))

pub rule_has : (reach : Reach) (text : List ℕ) (rule : Rule) → rule_reading_of reach text ≡ Ok rule → All HasTemplate rule.kinds
rule_has reach text rule is =
    let a = accepted reach text rule is in
    let uses = rule_uses reach a.pattern (Some a.template) rule a.rule_is in
    subst (All HasTemplate) (some_kinds _ rule.kinds uses.kinds) (kinds_have reach (code_of a.pattern) (code_of a.template))

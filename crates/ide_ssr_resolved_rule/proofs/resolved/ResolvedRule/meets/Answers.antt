use Rattle.std.proofs.Common.{◌≡◌, ◌<◌, ◌≤◌, List, [], get_or, length, sym, ap, ◌∙◌, arith}
use Rattle.std.proofs.lemmas.Bool.Decides.{nat_tests}
use Rattle.std.proofs.lemmas.List.{get_or_default, get_or_past}
use Rattle.ide_ssr_resolved_rule.specs.Constraints.{are_met}
use Rattle.ide_ssr_resolved_rule.specs.declared.constraints.Constraint.{Constraint}
use Rattle.ide_ssr_resolved_rule.specs.Resolved.{ResolvedRule, meets}
use Rattle.ide_ssr_resolved_rule.proofs.resolved.ResolvedRule.meets.Goals as goal

pub returns-in-None : goal.returns-in-None
unfolding meets
returns-in-None c =
    let past : length c.self.inside.parts.constraints.items ≤ c.args.placeholder = grind (arith, nat_tests) steps 200000 in
    ap (λ constraints. are_met constraints c.args.kind) (sym (get_or_past c.self.inside.parts.constraints.items c.args.placeholder [] past))
    ∙ ap (λ (rule : ResolvedRule). meets rule c.args.placeholder c.args.kind) c.self.view_is

pub returns-in-Some : goal.returns-in-Some
unfolding meets
returns-in-Some c =
    let own = c.self.inside.parts.constraints.items in
    let within : c.args.placeholder < length own = grind (arith, nat_tests) steps 200000 in
    let there : c.in-Some.constraints.now ≡ get_or own c.args.placeholder c.in-Some.constraints.now =
    c.in-Some.ensures.lookup.1 ∙ ap (λ (sets : List (List Constraint)). get_or sets c.args.placeholder c.in-Some.constraints.now) c.deref.ensures.value in
    c.are_met.ensures
    ∙ ap (λ (constraints : List Constraint). are_met constraints c.args.kind)
    (there ∙ sym (get_or_default own c.args.placeholder [] c.in-Some.constraints.now within))
    ∙ ap (λ (rule : ResolvedRule). meets rule c.args.placeholder c.args.kind) c.self.view_is

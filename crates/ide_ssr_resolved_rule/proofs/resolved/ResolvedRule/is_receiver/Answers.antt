use Rattle.std.proofs.Common.{◌≡◌, ◌<◌, ◌≤◌, Bool, false, List, get_or, length, sym, ap, ◌∙◌, arith}
use Rattle.std.proofs.lemmas.Bool.Decides.{nat_tests}
use Rattle.std.proofs.lemmas.List.{get_or_default, get_or_past}
use Rattle.ide_ssr_resolved_rule.specs.Receivers.{is_receiver}
use Rattle.ide_ssr_resolved_rule.specs.Resolved.{ResolvedRule}
use Rattle.ide_ssr_resolved_rule.proofs.resolved.ResolvedRule.is_receiver.Goals as goal

pub returns-in-None : goal.returns-in-None
unfolding is_receiver
returns-in-None c =
    let past : length c.self.inside.tables.receivers.items ≤ c.args.placeholder = grind (arith, nat_tests) steps 200000 in
    sym (get_or_past c.self.inside.tables.receivers.items c.args.placeholder false past) ∙ c.self.invariant.receivers c.args.placeholder
    ∙ ap (λ (rule : ResolvedRule). is_receiver rule c.args.placeholder) c.self.view_is

pub returns-in-Some : goal.returns-in-Some
unfolding is_receiver
returns-in-Some c =
    let table = c.self.inside.tables.receivers.items in
    let within : c.args.placeholder < length table = grind (arith, nat_tests) steps 200000 in
    let there : c.in-Some.is_receiver.now ≡ get_or table c.args.placeholder c.in-Some.is_receiver.now =
    c.in-Some.ensures.lookup.1 ∙ ap (λ (xs : List Bool). get_or xs c.args.placeholder c.in-Some.is_receiver.now) c.deref.ensures.value in
    there
    ∙ sym (get_or_default table c.args.placeholder false c.in-Some.is_receiver.now within) ∙ c.self.invariant.receivers c.args.placeholder
    ∙ ap (λ (rule : ResolvedRule). is_receiver rule c.args.placeholder) c.self.view_is

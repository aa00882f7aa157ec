use Rattle.std.proofs.Common.{◌≡◌, ◌<◌, ◌++◌, true, false, [], ◌∷◌, length, take, refl, sym, ap, ◌∙◌, subst, arith}
use Rattle.std.proofs.lemmas.Option.{slice_get_read, same_Some}
use Rattle.std.specs.BTreeMap.{get}
use Rattle.std.specs.Option.{option_copied, option_map_or}
use Rattle.std.specs.Prelude.{not, is_some}
use Rattle.ssr_base_trees.specs.contracts.semantics.ResOrd.TheImpl as res_order
use Rattle.ssr_base_trees.proofs.Shared.{some_and, mapped}
use Rattle.ide_ssr_leading.specs.declared.led.Lead.{Lead}
use Rattle.ide_ssr_leading.specs.Leading.{picked_path}
use Rattle.ide_ssr_leading.specs.Private.Leads.{lead_of}
use Rattle.ide_ssr_leading.specs.Private.Finding.{AreLedFoundTo, are_others, usages_for}
use Rattle.ide_ssr_leading.specs.Private.LedRules.{AreFoundBy}
use Rattle.ide_ssr_leading.proofs.ByRule.{to_other, to_led, usages_more, others_more, unmapped, led_names}
use Rattle.ide_ssr_leading.proofs.find.Searched.find_by_usages.Goals as goal

pub loop-place-preserved-in_default : goal.loop-place-preserved-in_default
loop-place-preserved-in_default g c =
    let s = c.args.self.now in
    let rules = s.rules.now in
    let m = g.S.Semantics.meanings c.args.semantics.now in
    let l = c.loop-place in
    let rule = c.rule-item.result in
    let none = unmapped (lead_of rule) (picked_path rule) c.in_default.ensures in
    let within : l.place < length rules = c.loop-place-test.true in
    record {
      known = l.invariant.known;
      found =
          to_other s.workspace.now m s.context.now rules l.place rule (slice_get_read rules (length rules) l.place rule refl within c.rule-item.is) l.found.items none
          l.invariant.found;
      others =
          c.in_ok-push.ensures.items
          ∙ ap (λ fs. fs ++ true ∷ []) l.invariant.others
          ∙ sym (others_more rules l.place rule within (sym c.rule-item.is) ∙ ap (λ o. are_others (take l.place rules) ++ not (is_some o) ∷ []) none);
      count = omega (arith, l.invariant.count, usages_more rules l.place rule within (sym c.rule-item.is) m);
      tried = l.invariant.tried;
    }

pub add_led-requires-clause-led : goal.add_led-requires-clause-led
add_led-requires-clause-led g c =
    let rule = c.rule-item.result in
    let path = mapped (lead_of rule) (picked_path rule) c.in-Some.lead (sym c.in-Some.ensures) in
    led_names rule path.0 path.1

pub loop-place-preserved : goal.loop-place-preserved
loop-place-preserved g c =
    let s = c.args.self.now in
    let rules = s.rules.now in
    let m = g.S.Semantics.meanings c.args.semantics.now in
    let l = c.loop-place in
    let rule = c.rule-item.result in
    let lead = c.in-Some.lead in
    let path = mapped (lead_of rule) (picked_path rule) lead (sym c.in-Some.ensures) in
    let within : l.place < length rules = c.loop-place-test.true in
    let kept = some_and (get ((res_order.ghosts).cmp) c.know_usages.new.known lead.res) (λ usages. usages.items ≡ m.usages lead.res) c.in_ok-know_usages.ensures.has in
    let same = same_Some kept.0 c.unwrap.result.now (sym kept.1 ∙ sym c.get.ensures.value ∙ ap option_copied c.unwrap.ensures) in
    let told : c.deref.result.now ≡ m.usages path.0.res =
    c.deref.ensures.value ∙ ap (λ v. v.items) (sym same) ∙ kept.2 ∙ ap (λ (lead : Lead). m.usages lead.res) (sym path.2) in
    let own : usages_for m rule ≡ length (m.usages path.0.res) = ap (λ o. option_map_or (λ path. length (m.usages path.res)) o 0) path.1 in
    record {
      known = c.in_ok-know_usages.ensures.known;
      found =
          to_led s.workspace.now m s.context.now rules l.place rule (slice_get_read rules (length rules) l.place rule refl within c.rule-item.is) path.0 c.deref.result.now
          l.found.items c.add_led.new.found.items path.1 told
          (subst (λ (lead : Lead). AreFoundBy s.workspace.now m s.context.now rule l.place lead.depth c.deref.result.now l.found.items c.add_led.new.found.items) (sym path.2)
          c.in_ok-add_led.ensures.found)
          l.invariant.found;
      others =
          c.in_ok-push-2.ensures.items
          ∙ ap (λ fs. fs ++ false ∷ []) l.invariant.others
          ∙ sym (others_more rules l.place rule within (sym c.rule-item.is) ∙ ap (λ o. are_others (take l.place rules) ++ not (is_some o) ∷ []) path.1);
      count =
          omega (arith, l.invariant.count, c.in_ok-add_led.ensures.count, usages_more rules l.place rule within (sym c.rule-item.is) m, own, ap length told);
      tried = omega (arith, l.invariant.tried, c.in_ok-add_led.ensures.tried);
    }

pub returns-clause-found : goal.returns-clause-found
returns-clause-found g c =
    let s = c.args.self.now in
    let l = c.loop-place in
    let all : l.place ≡ length s.rules.now = omega arith in
    subst (λ n. AreLedFoundTo s.workspace.now (g.S.Semantics.meanings c.args.semantics.now) s.context.now s.rules.now n l.found.items) all l.invariant.found

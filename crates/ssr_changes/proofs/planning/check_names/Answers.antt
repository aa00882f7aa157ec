use Rattle.std.proofs.Common.{◌≡◌, List, take, true, false, is_some, string_bytes, subst, ap, sym, ◌∙◌, rules}
use Rattle.std.proofs.lemmas.List.{take_all}
use Rattle.ssr_changes.specs.declared.planning.Planned.{Planned}
use Rattle.ssr_changes.specs.Planning.{name_in}
use Rattle.ssr_changes.specs.Naming.{is_below_target, is_inside}
use Rattle.ssr_changes.specs.Private.Planning.{HaveNames}
use Rattle.ssr_changes.proofs.Plans.{among_more, comes_twice, is_among, knows, names_more, names_of}
use Rattle.ssr_changes.proofs.planning.check_names.Goals as goal

pub returns-then-is_some : goal.returns-then-is_some
returns-then-is_some c =
    let files = c.args.files.now.files in
    let i = c.loop-planned.planned-index in
    let p = c.planned-item.result in
    let name = string_bytes c.in_ok-name.name in
    let was : knows c.loop-planned.names name ≡ true = ap is_some (sym c.in_ok-insert.ensures.old) ∙ sym c.is_some.ensures ∙ c.if-is_some.true in
    comes_twice files c.args.plan.now i p c.loop-planned-test.true c.planned-item.is
    (subst (λ name. is_among (names_of files (take i c.args.plan.now)) name ≡ true) c.in_ok-name.ensures (sym (c.loop-planned.invariant.known name) ∙ was))

pub loop-planned-preserved : goal.loop-planned-preserved
loop-planned-preserved c =
    let files = c.args.files.now.files in
    let plan = c.args.plan.now in
    let i = c.loop-planned.planned-index in
    let p = c.planned-item.result in
    let name = string_bytes c.in_ok-name.name in
    let was : knows c.loop-planned.names name ≡ false = ap is_some (sym c.in_ok-insert.ensures.old) ∙ sym c.is_some.ensures ∙ c.if-is_some.false in
    let new : is_among (names_of files (take i plan)) (name_in files p.file) ≡ false =
    subst (λ name. is_among (names_of files (take i plan)) name ≡ false) c.in_ok-name.ensures (sym (c.loop-planned.invariant.known name) ∙ was) in
    let inside : c.is_inside.result ≡ true = search rules in
    let beside : c.is_below_target.result ≡ false = search rules in
    record {
      have =
          names_more files plan i p c.loop-planned-test.true c.planned-item.is
          (subst (λ name. is_inside name ≡ true) c.in_ok-name.ensures (ap is_inside (sym c.as_str.ensures.value) ∙ sym c.is_inside.ensures ∙ inside))
          (subst (λ name. is_below_target name ≡ false) c.in_ok-name.ensures (ap is_below_target (sym c.as_str-in-loop-planned.ensures.value) ∙ sym c.is_below_target.ensures ∙ beside)) new c.loop-planned.invariant.have;
      known =
          among_more files plan i p c.loop-planned-test.true c.planned-item.is c.loop-planned.names c.insert.new.self tt name c.in_ok-name.ensures
          c.in_ok-insert.ensures.updates c.loop-planned.invariant.known;
    }

pub returns : goal.returns
returns c =
    subst (λ (plan : List Planned). HaveNames c.args.files.now.files plan) (take_all _ c.args.plan.now c.loop-planned-test.false) c.loop-planned.invariant.have

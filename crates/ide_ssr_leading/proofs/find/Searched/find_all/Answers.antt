use Rattle.std.proofs.Common.{◌≡◌, ◌∙◌, length, sym, ap, subst, arith, length-append}
use Rattle.ssr_base_trees.specs.Workspace.{trees}
use Rattle.ide_ssr_nesting.specs.Kept.{AreEnough}
use Rattle.ide_ssr_search.specs.Found.{IsFoundOf}
use Rattle.ide_ssr_search.specs.Tries.{IsMostOf}
use Rattle.ide_ssr_leading.specs.Found.{IsLedFound}
use Rattle.ide_ssr_leading.specs.Private.Finding.{are_others}
use Rattle.ide_ssr_leading.proofs.Together.{together, most_split}
use Rattle.ide_ssr_leading.proofs.find.Searched.find_all.Goals as goal

pub returns-clause-count : goal.returns-clause-count
returns-clause-count g c = λ most is.
    let s = c.args.self.now in
    let m = g.S.Semantics.meanings c.args.semantics.now in
    let flags : c.deref.result.now ≡ are_others s.rules.now = c.deref.ensures.value ∙ c.in_ok-led.ensures.others in
    let split = most_split s.workspace.now m s.context.now s.rules.now most is in
    let more = c.in_ok-rest.ensures.count split.0 (subst (λ fs. IsMostOf s.workspace.now s.context.now s.rules.now fs split.0) (sym flags) split.1) in
    omega (arith, more, split.2, c.in_ok-led.ensures.count)

pub returns-clause-led : goal.returns-clause-led
returns-clause-led g c =
    let s = c.args.self.now in
    let m = g.S.Semantics.meanings c.args.semantics.now in
    let flags : c.deref.result.now ≡ are_others s.rules.now = c.deref.ensures.value ∙ c.in_ok-led.ensures.others in
    let rest = c.in_ok-rest.rest.items in
    subst (AreEnough (trees s.workspace.now) (IsLedFound s.workspace.now m s.context.now s.rules.now)) (sym c.in_ok-append.ensures.items)
    (together s.workspace.now m s.context.now s.rules.now c.in_ok-led.led.found.items rest c.in_ok-led.ensures.found
    (subst (λ fs. AreEnough (trees s.workspace.now) (IsFoundOf s.workspace.now m s.context.now s.rules.now fs) rest) flags c.in_ok-rest.ensures.found))

pub returns-clause-tried : goal.returns-clause-tried
returns-clause-tried g c =
    omega (arith, ap length c.in_ok-append.ensures.items, length-append c.in_ok-led.led.found.items c.in_ok-rest.rest.items, c.in_ok-led.ensures.tried, c.in_ok-rest.ensures.tried)

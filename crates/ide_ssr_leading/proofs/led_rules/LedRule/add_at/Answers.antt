use Rattle.std.proofs.Common.{[], ◌∷◌, ◌++◌, sym, subst}
use Rattle.std.specs.Option.{option_map}
use Rattle.ide_ssr_leading.specs.Private.LedRules.{TellsMatch, AreFoundAt}
use Rattle.ide_ssr_leading.proofs.Adding.{one_at}
use Rattle.ide_ssr_leading.proofs.led_rules.LedRule.add_at.Goals as goal

pub returns-clause-found : goal.returns-clause-found
returns-clause-found g c =
    let led = c.args.self.now in
    let m = g.S.Semantics.meanings c.args.semantics.now in
    let x = c.args.node in
    let old = c.args.found.now.items in
    let told = subst (λ o. TellsMatch led.workspace.now m led.context.now led.rule.now x (option_map (λ v. v.items) o)) c.in-Some.is c.in_ok-bindings.ensures.found in
    subst (AreFoundAt led.workspace.now m led.context.now led.rule.now led.place (x ∷ []) old) (sym c.in_ok-push.ensures.items)
    (subst (λ one. AreFoundAt led.workspace.now m led.context.now led.rule.now led.place (x ∷ []) old (old ++ one ∷ [])) (sym c.new.ensures)
    (one_at led.workspace.now m led.context.now led.rule.now led.place x c.in-Some.bindings.items old told))

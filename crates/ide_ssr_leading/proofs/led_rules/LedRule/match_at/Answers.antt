use Rattle.std.proofs.Common.{sym, subst}
use Rattle.std.proofs.lemmas.Bool.{both_ways}
use Rattle.ide_ssr_search.specs.Permitted.{IsOpen}
use Rattle.ide_ssr_leading.proofs.Adding.{permitted_open, ok_told}
use Rattle.ide_ssr_leading.proofs.led_rules.LedRule.match_at.Goals as goal

pub returns-then-not-is_open-clause-found : goal.returns-then-not-is_open-clause-found
returns-then-not-is_open-clause-found g c =
    let led = c.args.self.now in
    λ bindings permitted whole. both_ways c.is_open.result c.if-not-is_open.true
    (c.is_open.ensures.1 (subst (λ restrictions. IsOpen led.workspace.now restrictions c.args.node) (sym c.restrictions.ensures) permitted.open_to_all))

pub returns-clause-found : goal.returns-clause-found
returns-clause-found g c =
    let led = c.args.self.now in
    let is = subst (λ restrictions. IsOpen led.workspace.now restrictions c.args.node) c.restrictions.ensures (c.is_open.ensures.0 c.if-not-is_open.false) in
    ok_told led.workspace.now (g.S.Semantics.meanings c.args.semantics.now) led.context.now led.rule.now c.args.node c.match_whole.result
    (permitted_open led.workspace.now (g.S.Semantics.meanings c.args.semantics.now) led.context.now led.rule.now c.args.node c.requires.led is)
    c.match_whole.ensures.found

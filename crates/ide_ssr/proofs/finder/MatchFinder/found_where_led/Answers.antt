use Rattle.ide_ssr.proofs.Outcome.{led_found}
use Rattle.ide_ssr.proofs.finder.MatchFinder.found_where_led.Goals as goal

pub returns-clause-found : goal.returns-clause-found
returns-clause-found g c =
    led_found g.S.Semantics.meanings _ _ c.self.view_is (λ found. found.items) c.deref.result.now c.find_led.result c.deref.ensures.value c.find_led.ensures.matches
    c.find_led.ensures.found

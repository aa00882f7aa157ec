use Rattle.ide_ssr.proofs.Outcome.{scan_found}
use Rattle.ide_ssr.proofs.finder.MatchFinder.scan_matches.Goals as goal

pub nested-requires : goal.nested-requires
nested-requires g c =
    scan_found g.S.Semantics.meanings _ _ c.self.view_is c.deref.result.now c.in_ok-found.found.items c.deref.ensures.value c.in_ok-found.ensures.matches
    c.in_ok-found.ensures.found

use Rattle.ssr_syntax_places.proofs.Climbing.{stands_looser, stands_uncalled, stands_anywhere}
use Rattle.ssr_syntax_places.proofs.laws.looser.Goals as goal

pub returns : goal.returns
returns c = record { looser = stands_looser; uncalled = stands_uncalled; anywhere = stands_anywhere }

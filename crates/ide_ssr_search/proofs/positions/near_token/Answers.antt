use Rattle.ide_ssr_search.proofs.PositionNodes.{near_none}
use Rattle.ide_ssr_search.proofs.positions.near_token.Goals as goal

pub returns-in-None-clause-near : goal.returns-in-None-clause-near
returns-in-None-clause-near c =
    near_none c.args.tree.now c.args.offset c.token_at.result c.in-None.ensures.none c.token_at.ensures.holds c.token_at.ensures.has c.token_at.ensures.none

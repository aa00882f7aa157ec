use Rattle.std.proofs.Common.{sym, ◌∙◌}
use Rattle.ide_ssr_token_trees.proofs.Rests.{rest_back, parts_back}
use Rattle.ide_ssr_token_trees.proofs.siblings.Siblings.pass.Goals as goal

pub returns-clause-gives : goal.returns-clause-gives
returns-clause-gives c =
    parts_back c.args.tree.now c.next_counted-self.new.self c.next_counted-self.result c.next_counted-self.ensures.held ∙ sym c.next_counted-self.ensures.gives

pub returns-clause-rest : goal.returns-clause-rest
returns-clause-rest c = rest_back _ c.next_counted-self.new.self c.next_counted-self.result c.next_counted-self.ensures.rest c.next_counted-self.ensures.held

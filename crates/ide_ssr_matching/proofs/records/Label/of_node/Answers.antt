use Rattle.ide_ssr_matching.proofs.LabelTexts.{node_texts}
use Rattle.ide_ssr_matching.proofs.records.Label.of_node.Goals as goal

pub returns-clause-texts : goal.returns-clause-texts
returns-clause-texts c =
    node_texts c.args.tree.now c.args.node.0 _ _ c.requires c.tokens_below-tokens.ensures.start c.tokens_below-tokens.ensures.end

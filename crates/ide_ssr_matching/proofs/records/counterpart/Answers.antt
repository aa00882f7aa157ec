use Rattle.ssr_syntax_tree.specs.Places.{node_of}
use Rattle.ide_ssr_matching.specs.Calls.{child_nodes}
use Rattle.ide_ssr_matching.proofs.LabelSteps.{unlabelled_finds}
use Rattle.ide_ssr_matching.proofs.records.counterpart.Goals as goal

pub returns-in-None-clause-node : goal.returns-in-None-clause-node
returns-in-None-clause-node c =
    unlabelled_finds c.args.pattern.now c.args.node.0 (child_nodes (node_of c.args.code.now c.args.list.0)) c.label_of.result c.label_of.ensures.label
    c.in-None.is

use Rattle.std.proofs.Common.{arith, sym, ◌∙◌}
use Rattle.ssr_syntax_tree.specs.Places.{node_of}
use Rattle.ide_ssr_resolved_rule.proofs.Nodes.{only_node, only_leaf, several}
use Rattle.ide_ssr_resolved_rule.proofs.placeholders.+only_token.Goals as goal

pub returns-then-child_count-ne1-clause-token : goal.returns-then-child_count-ne1-clause-token
returns-then-child_count-ne1-clause-token t c =
    sym (several (node_of c.args.tree.now c.args.node.0) (λ one. c.if-child_count-ne1.true (c.child_count.ensures ∙ one)))

pub returns-in-Token-clause-token : goal.returns-in-Token-clause-token
returns-in-Token-clause-token t c =
    sym (only_leaf (node_of c.args.tree.now c.args.node.0) _ _ (sym c.child_count.ensures ∙ c.if-child_count-ne1.false) c.in-Token.ensures.part)

pub only_token-requires : goal.only_token-requires
only_token-requires t c =
    let only = only_node (node_of c.args.tree.now c.args.node.0) _ (sym c.child_count.ensures ∙ c.if-child_count-ne1.false) c.in-Node.ensures.part in
    let fewer = only.smaller in
    (omega (arith, fewer), c.in-Node.ensures.has)

pub returns-in-Node-clause-token : goal.returns-in-Node-clause-token
returns-in-Node-clause-token t c =
    let only = only_node (node_of c.args.tree.now c.args.node.0) _ (sym c.child_count.ensures ∙ c.if-child_count-ne1.false) c.in-Node.ensures.part in
    c.only_token.ensures.token ∙ sym only.same

use Rattle.std.proofs.Common.{◌∷◌, ◌∙◌, ap}
use Rattle.ssr_syntax_tree.specs.declared.number.Element.{Element}
use Rattle.ide_ssr_resolved_rule.proofs.ReceiverTables.{receiver_there}
use Rattle.ide_ssr_resolved_rule.proofs.receivers.receiver_of.Goals as goal

pub returns-in-Some-Node-clause-node : goal.returns-in-Some-Node-clause-node
returns-in-Some-Node-clause-node c =
    receiver_there c.args.tree.now c.args.call.0 _ _ c.in-Some-Node.receiver c.requires c.children.ensures.elements
    (c.in-Some-Node.ensures.steps ∙ ap (λ (e : Element). e ∷ c.next.new.self) c.in-Some-Node.field-0-is)

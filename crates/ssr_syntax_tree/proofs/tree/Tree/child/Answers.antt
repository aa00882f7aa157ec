use Rattle.std.proofs.Common.{sym, ◌∙◌}
use Rattle.std.proofs.lemmas.Iterator.Consumers.{nth_from_yields_List, YieldsList-from_first}
use Rattle.std.proofs.lemmas.Iterator.Adapters.{option_map_id}
use Rattle.ssr_syntax_tree.specs.Places.{node_of, elements_of}
use Rattle.ssr_syntax_tree.proofs.Places.{element_had, part_at}
use Rattle.ssr_syntax_tree.proofs.tree.Tree.child.Goals as goal

pub returns-clause-element : goal.returns-clause-element
returns-clause-element c =
    let elements = elements_of (node_of c.args.self.now c.args.node.0) in
    sym (nth_from_yields_List c.nth.result _ c.args.index c.nth.ensures.ran (YieldsList-from_first (λ element. element) (λ left. left) elements c.children.ensures.elements))
    ∙ option_map_id c.nth.result
    ∙ c.unwrap.ensures

pub returns-clause-has : goal.returns-clause-has
returns-clause-has c =
    element_had c.args.self.now c.args.node.0 c.requires.has_node c.args.index c.unwrap.result (returns-clause-element c)

pub returns-clause-part : goal.returns-clause-part
returns-clause-part c =
    part_at c.args.self.now c.args.node.0 c.requires.has_node c.args.index c.unwrap.result (returns-clause-element c)

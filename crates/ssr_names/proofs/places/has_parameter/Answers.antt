use Rattle.ssr_syntax_tree.specs.Places.{node_of}
use Rattle.ssr_names.proofs.Binding.{not_listed}
use Rattle.ssr_names.proofs.places.has_parameter.Goals as goal

pub returns-in-Some : goal.returns-in-Some
returns-in-Some c = λ free has.
    not_listed c.args.tree.now c.args.node.0 c.args.name.now (node_of c.args.tree.now c.in-Some.list.0) c.in-Some.ensures.node (c.lists_parameter.ensures free) has

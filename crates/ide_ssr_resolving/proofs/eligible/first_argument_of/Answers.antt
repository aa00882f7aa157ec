use Rattle.ide_ssr_resolving.proofs.FirstArguments.{no_call, call_above}
use Rattle.ide_ssr_resolving.proofs.eligible.first_argument_of.Goals as goal

pub returns-in-None : goal.returns-in-None
returns-in-None c = no_call c.args.tree.now c.args.node.0 c.in-None.ensures.first

pub returns-in-Some : goal.returns-in-Some
returns-in-Some c =
    call_above c.args.tree.now c.args.node.0 c.in-Some.arguments c.unwrap_or.result c.parent.result c.in-Some.ensures.first c.parent.ensures.root
    c.parent.ensures.value c.unwrap_or.ensures

use Rattle.ide_ssr_debugging.proofs.Showing.{shown_nodes}
use Rattle.ide_ssr_debugging.proofs.shown.shown_nodes.Goals as goal

pub put_in_order-requires-clause-nodes : goal.put_in_order-requires-clause-nodes
put_in_order-requires-clause-nodes c = shown_nodes c.args.workspace.now c.args.file c.args.snippet.now c.in_ok-shown.shown.items c.in_ok-shown.ensures.are

pub returns-clause-are : goal.returns-clause-are
returns-clause-are c = λ x. (
  (λ at. (c.in_ok-shown.ensures.are x).0 ((c.put_in_order.ensures.same x).0 at)),
  (λ shown. (c.put_in_order.ensures.same x).1 ((c.in_ok-shown.ensures.are x).1 shown)),
)

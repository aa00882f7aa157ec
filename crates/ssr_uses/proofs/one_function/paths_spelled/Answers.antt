use Rattle.std.proofs.Common.{◌+◌, sym, ap, ◌∙◌, subst, arith}
use Rattle.ssr_syntax_tree.specs.Places.{HasNode}
use Rattle.ssr_uses.proofs.Spelled.{AreUpTo, passed, taken}
use Rattle.ssr_uses.proofs.one_function.paths_spelled.Goals as goal
use Rattle.ssr_uses.proofs.one_function.paths_spelled.Goals.{then-is_path+in_ok-push, else-is_path}

pub loop-node-preserved : goal.loop-node-preserved
loop-node-preserved c =
    let code = c.args.tree.now in
    let node = c.loop-node.node in
    let has : HasNode code node = omega arith in
    elim c.if-is_path.branch [
      | then-is_path+in_ok-push w ↦
          let items = ap (λ v. v.items) w.paths-is ∙ w.in_ok-push.ensures.items in
          taken code c.args.number c.args.spelled.now node _ _ c.loop-node.invariant has (c.is_path.ensures.0 w.if-is_path.true) items
      | else-is_path w ↦
          let items = ap (λ v. v.items) w.paths-is in
          subst (AreUpTo code c.args.number c.args.spelled.now (node + 1)) (sym items)
          (passed code c.args.number c.args.spelled.now node _ c.loop-node.invariant (λ is. let true_too = c.is_path.ensures.1 is in let is_false = w.if-is_path.false in (cc)))
    ]

pub returns : goal.returns
returns c path =
    let are = c.loop-node.invariant path in
    ((λ has. (are.0 has).0), (λ is. are.1 (is, omega arith)))

use Rattle.std.proofs.Common.{Some, None, refl, ap, ◌∙◌}
use Rattle.std.specs.Option.{option_map}
use Rattle.ide_ssr_resolving.proofs.QualifiedCalls.{callee_called}
use Rattle.ide_ssr_resolving.proofs.qualified_calls.called_by.Goals as goal

pub returns-in_err-callee-clause-call : goal.returns-in_err-callee-clause-call
returns-in_err-callee-clause-call c =
    ap (option_map (λ call. call.0)) c.from_residual.ensures
    ∙ callee_called c.args.tree.now c.args.path.0 None None c.in_err-callee.ensures.first refl

pub returns-clause-call : goal.returns-clause-call
returns-clause-call c = callee_called c.args.tree.now c.args.path.0 (Some c.in_ok-callee.callee.0) _ c.in_ok-callee.ensures.first c.first_in-2.ensures.first

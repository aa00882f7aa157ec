use Rattle.std.proofs.Common.{◌≡◌, Err, sym, ap, ◌∙◌}
use Rattle.ssr_base_trees.specs.Workspace.{Workspace}
use Rattle.ssr_base.specs.Building.{checked_call}
use Rattle.ssr_base.proofs.Adding.{other_refusal}
use Rattle.ssr_base.proofs.workspace.Workspace.add_as.Goals as goal

pub returns-in_err-call-clause-memory : goal.returns-in_err-call-clause-memory
returns-in_err-call-clause-memory c =
    let w = c.args.self.now in
    let x = c.args.expansion.now in
    let e = c.in_err-call.field-0.0 in
    let view : c.self.inside.trees ≡ w = c.self.view_is in
    let is : checked_call w x ≡ Err e = sym (c.in_err-call.ensures ∙ ap (λ (w : Workspace). checked_call w x) view) in
    other_refusal w x c.args.tree c.from_residual-in_err-call.result e c.from_residual-in_err-call.ensures.1 is

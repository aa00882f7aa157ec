use Rattle.std.proofs.Common.{List, ℕ, ◌∙◌, subst, IfOk, string_bytes}
use Rattle.ssr_diff.specs.Patch.{IsDiff}
use Rattle.ssr_diff.proofs.diff.unified_diff.Goals as goal

pub returns-in-Ok : goal.returns-in-Ok
returns-in-Ok c =
    subst (λ (t : List ℕ). IfOk c.diff_between.result (λ diff. IsDiff c.args.name.now c.args.old.now t (string_bytes diff)))
    (c.as_str.ensures.value ∙ c.in-Ok.ensures.text) c.diff_between.ensures

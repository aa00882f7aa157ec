use Rattle.std.proofs.Common.{◌≤◌, None, length, sym, ap, ◌∙◌, arith, rules}
use Rattle.std.proofs.lemmas.Grind.{common_steps}
use Rattle.std.proofs.lemmas.Bool.Decides.{nat_tests}
use Rattle.std.proofs.lemmas.List.{get_or_past}
use Rattle.ide_ssr_resolved_rule.specs.Resolved.{ResolvedRule}
use Rattle.ide_ssr_resolved_rule.specs.UsedPaths.{res_at}
use Rattle.ide_ssr_resolved_rule.proofs.resolved.ResolvedRule.pattern_res.Goals as goal

pub returns-in-None : goal.returns-in-None
returns-in-None c =
    let past : length c.self.inside.tables.res_by_node.items ≤ c.args.node.0 = grind (arith, nat_tests) steps 200000 in
    sym (get_or_past c.self.inside.tables.res_by_node.items c.args.node.0 None past) ∙ c.self.invariant.res_by_node c.args.node.0
    ∙ ap (λ (rule : ResolvedRule). res_at rule.pattern_paths c.args.node) c.self.view_is

pub returns-in-Some : goal.returns-in-Some
returns-in-Some c = first_of (search rules steps 500000, grind (arith, common_steps) steps 500000)

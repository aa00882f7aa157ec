use Rattle.ide_ssr_rules.proofs.constraints.+read_constraint.Given as goal

abbrev pub decreases-read_constraint : goal.decreases-read_constraint
decreases-read_constraint l = l.left

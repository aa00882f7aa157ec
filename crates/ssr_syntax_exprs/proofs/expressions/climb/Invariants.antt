-- The whole climb is the ranks that are left.
use Rattle.std.proofs.Common.{◌≡◌, ◌-◌}
use Rattle.ssr_syntax_exprs.specs.Expressions.{climb}
use Rattle.ssr_syntax_forms.specs.Runs.{run}
use Rattle.ssr_syntax_exprs.proofs.Ranks.{climb_from}
use Rattle.ssr_syntax_exprs.proofs.expressions.climb.Given as goal

abbrev pub invariant-ranks : goal.invariant-ranks
invariant-ranks g l =
    run (g.R.Reader.reads l.goals) (climb l.place l.limit) l.m l.fn.p
    ≡ climb_from l.place (g.R.Reader.reads l.goals) l.m l.rank (l.limit - l.rank) l.p

abbrev pub decreases-ranks : goal.decreases-ranks
decreases-ranks g l = l.limit - l.rank

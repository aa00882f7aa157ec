use Rattle.ssr_facts.proofs.Best.{up_to, not_after, not_before, is_there}
use Rattle.ssr_facts.proofs.kept.last_worse.Goals as goal

pub returns-else-is_as_good-clause-passed : goal.returns-else-is_as_good-clause-passed
returns-else-is_as_good-clause-passed c =
    let known = c.range.ensures.in_range tt in
    let entry = known.3 _ _ c.in_ok-end.ensures.steps in
    λ k v le has. record {
      end = c.in_ok-end.end.now;
      scope = c.in_ok-end.last.now;
      is = entry.1;
      within = not_after c.in_ok-end.end.now c.args.scope.now.end entry.0.1;
      behind = not_before c.in_ok-end.end.now k (known.4 _ _ c.in_ok-end.ensures.steps k (tt, up_to k c.args.scope.now.end le) (is_there has));
      better = c.is_as_good.ensures.worse c.if-is_as_good.false;
    }

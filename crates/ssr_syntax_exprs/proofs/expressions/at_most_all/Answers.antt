use Rattle.std.proofs.Common.{rules}
use Rattle.ssr_syntax_exprs.proofs.Ranks.{few_ranks, all_ranks}
use Rattle.ssr_syntax_exprs.proofs.expressions.at_most_all.Goals as goal

pub returns-else-rank-lt-RANKS : goal.returns-else-rank-lt-RANKS
returns-else-rank-lt-RANKS c = search (rules, few_ranks, all_ranks) steps 200000

use Rattle.std.proofs.Common.{ap, ◌∙◌, ◌==◌}
use Rattle.ssr_syntax_kinds.proofs.RowCounts.{kinds_counted}
use Rattle.ssr_syntax_kinds.proofs.token_rows.TokenRows.is_empty.Goals as goal

pub returns : goal.returns
returns c = c.is_empty.ensures ∙ ap (λ n. n == 0) (kinds_counted c.self.inside c.args.self.now c.self.invariant c.self.view_is)

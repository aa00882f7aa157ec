use Rattle.std.proofs.Common.{◌∙◌}
use Rattle.ssr_syntax_kinds.proofs.RowCounts.{kinds_counted}
use Rattle.ssr_syntax_kinds.proofs.token_rows.TokenRows.len.Goals as goal

pub returns : goal.returns
returns c = c.len.ensures ∙ kinds_counted c.self.inside c.args.self.now c.self.invariant c.self.view_is

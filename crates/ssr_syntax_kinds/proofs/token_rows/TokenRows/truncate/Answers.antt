use Rattle.ssr_syntax_kinds.proofs.Zips.{zip2-take}
use Rattle.ssr_syntax_kinds.specs.TokenRows.{row_with}
use Rattle.ssr_syntax_kinds.proofs.token_rows.TokenRows.truncate.Goals as goal

pub returns : goal.returns
returns c =
    rw (c.truncate.ensures.items, c.truncate-2.ensures.items, ← c.self.view_is)
    (zip2-take row_with c.args.count c.self.inside.kinds.items c.self.inside.starts.items)

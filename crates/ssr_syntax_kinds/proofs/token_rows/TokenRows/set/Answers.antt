use Rattle.std.proofs.Common.{arith}
use Rattle.ssr_syntax_kinds.proofs.Zips.{zip2-set}
use Rattle.ssr_syntax_kinds.proofs.RowCounts.{kinds_counted, starts_counted}
use Rattle.ssr_syntax_kinds.specs.TokenRows.{row_with}
use Rattle.ssr_syntax_kinds.proofs.token_rows.TokenRows.set.Goals as goal

pub index_mut-requires : goal.index_mut-requires
index_mut-requires c = omega (arith, c.requires, kinds_counted c.self.inside c.args.self.now c.self.invariant c.self.view_is)

pub index_mut-requires-2 : goal.index_mut-requires-2
index_mut-requires-2 c = omega (arith, c.requires, starts_counted c.self.inside c.args.self.now c.self.invariant c.self.view_is)

pub returns : goal.returns
returns c =
    rw (← c.self.view_is)
    (zip2-set row_with c.self.inside.kinds.items c.self.inside.starts.items c.args.number c.args.row.kind c.args.row.start c.self.invariant)

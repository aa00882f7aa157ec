use Rattle.std.proofs.Common.{arith}
use Rattle.ssr_syntax_kinds.proofs.Zips.{slice_get-zip2}
use Rattle.ssr_syntax_kinds.proofs.RowCounts.{kinds_counted, starts_counted}
use Rattle.ssr_syntax_kinds.specs.TokenRows.{row_with}
use Rattle.ssr_syntax_kinds.proofs.token_rows.TokenRows.row.Goals as goal

pub index-requires : goal.index-requires
index-requires c = omega (arith, c.requires, kinds_counted c.self.inside c.args.self.now c.self.invariant c.self.view_is)

pub index-requires-2 : goal.index-requires-2
index-requires-2 c = omega (arith, c.requires, starts_counted c.self.inside c.args.self.now c.self.invariant c.self.view_is)

pub returns : goal.returns
returns c =
    rw (← c.self.view_is)
    (slice_get-zip2 row_with c.self.inside.kinds.items c.self.inside.starts.items c.args.number c.index.result.now c.index-2.result.now c.self.invariant
    (omega (arith, c.requires, c.self.inside.kinds.ok, kinds_counted c.self.inside c.args.self.now c.self.invariant c.self.view_is))
    c.index.ensures c.index-2.ensures)

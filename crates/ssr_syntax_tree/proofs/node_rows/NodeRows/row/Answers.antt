use Rattle.std.proofs.Common.{arith}
use Rattle.ssr_syntax_kinds.proofs.Zips.{slice_get-zip2}
use Rattle.ssr_syntax_tree.specs.Private.NodeRows.{row_with}
use Rattle.ssr_syntax_tree.proofs.RowCounts.{kinds_counted, places_counted}
use Rattle.ssr_syntax_tree.proofs.node_rows.NodeRows.row.Goals as goal

pub index-place-requires : goal.index-place-requires
index-place-requires c = omega (arith, c.requires, places_counted c.self.inside c.args.self.now c.self.invariant c.self.view_is)

pub index-requires : goal.index-requires
index-requires c = omega (arith, c.requires, kinds_counted c.self.inside c.args.self.now c.self.invariant c.self.view_is)

pub returns : goal.returns
returns c =
    rw (← c.self.view_is)
    (slice_get-zip2 row_with c.self.inside.kinds.items c.self.inside.places.items c.args.number c.index.result.now c.index-place.result.now c.self.invariant
    (omega (arith, c.requires, c.self.inside.kinds.ok, kinds_counted c.self.inside c.args.self.now c.self.invariant c.self.view_is))
    c.index.ensures
    c.index-place.ensures)

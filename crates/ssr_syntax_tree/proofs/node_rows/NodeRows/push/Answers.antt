use Rattle.ssr_syntax_kinds.proofs.Zips.{zip2-push}
use Rattle.ssr_syntax_tree.specs.Private.NodeRows.{row_with}
use Rattle.ssr_syntax_tree.proofs.node_rows.NodeRows.push.Goals as goal

pub returns-in-Ok : goal.returns-in-Ok
returns-in-Ok c =
    rw (c.in_ok-push.ensures.items, c.in-Ok.ensures.items, c.place_of.ensures, ← c.self.view_is)
    (zip2-push row_with c.self.inside.kinds.items c.self.inside.places.items c.args.row.kind _ c.self.invariant)

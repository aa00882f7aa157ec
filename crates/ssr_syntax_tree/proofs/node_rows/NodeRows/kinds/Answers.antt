use Rattle.std.proofs.Common.{◌∙◌, map, sym, ap, refl}
use Rattle.ssr_syntax_kinds.proofs.Zips.{map-zip2}
use Rattle.ssr_syntax_tree.specs.Private.NodeRows.{row_with}
use Rattle.ssr_syntax_tree.proofs.node_rows.NodeRows.kinds.Goals as goal

pub returns : goal.returns
returns c =
    c.as_slice.ensures.value
    ∙ sym (map-zip2 row_with (λ row. row.kind) c.self.inside.kinds.items c.self.inside.places.items (λ kind place. refl) c.self.invariant)
    ∙ ap (map (λ row. row.kind)) c.self.view_is

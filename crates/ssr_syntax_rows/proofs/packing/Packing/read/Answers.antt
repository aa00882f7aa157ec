use Rattle.std.proofs.Common.{◌+◌, ◌∷◌, ap, sym, drop, ◌∙◌}
use Rattle.std.proofs.lemmas.List.{drop_more}
use Rattle.std.proofs.lemmas.Option.{get_or_from_slice_get, slice_get_within}
use Rattle.ssr_syntax_rows.proofs.packing.Packing.read.Goals as goal

pub returns-clause-row : goal.returns-clause-row
returns-clause-row c =
    let rows = c.self.inside.rows in
    let first = c.self.inside.unread in
    let row = c.row-row.result in
    sym (ap (λ packing. packing.unread) c.self.view_is)
    ∙ drop_more rows first row (slice_get_within rows first row c.row-row.ensures)
    ∙ ap (λ r. r ∷ drop (first + 1) rows) (get_or_from_slice_get rows first row row c.row-row.ensures)

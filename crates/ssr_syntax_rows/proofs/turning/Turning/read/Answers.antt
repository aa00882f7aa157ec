use Rattle.std.proofs.Common.{◌≡◌, ◌+◌, ◌-◌, ◌++◌, ◌∷◌, [], ap, arith, sym, take, ◌∙◌}
use Rattle.std.proofs.lemmas.List.{take_more}
use Rattle.std.proofs.lemmas.Option.{get_or_from_slice_get, slice_get_within}
use Rattle.ssr_syntax_rows.proofs.turning.Turning.read.Goals as goal

pub returns-clause-row : goal.returns-clause-row
returns-clause-row c =
    let rows = c.self.inside.rows in
    let last = c.self.inside.unread - 1 in
    let row = c.row.result in
    let count : c.self.inside.unread ≡ last + 1 = omega arith in
    sym (ap (λ turning. turning.unread) c.self.view_is)
    ∙ ap (λ n. take n rows) count
    ∙ take_more rows last row (slice_get_within rows last row c.row.ensures)
    ∙ ap (λ read. take last rows ++ read ∷ []) (get_or_from_slice_get rows last row row c.row.ensures)

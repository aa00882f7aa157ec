use Rattle.std.proofs.Common.{ap, sym, refl, ◌∙◌, map}
use Rattle.ssr_syntax_kinds.proofs.Zips.{map-zip2}
use Rattle.ssr_syntax_kinds.specs.TokenRows.{row_with}
use Rattle.ssr_syntax_kinds.proofs.token_rows.TokenRows.kinds.Goals as goal

pub returns : goal.returns
returns c =
    c.as_slice.ensures.value
    ∙ sym (map-zip2 row_with (λ row. row.kind) c.self.inside.kinds.items c.self.inside.starts.items (λ kind start. refl) c.self.invariant)
    ∙ ap (map (λ row. row.kind)) c.self.view_is

use Rattle.std.proofs.Common.{◌∷◌, ◌++◌, [], take, ap, sym, ◌∙◌}
use Rattle.std.proofs.lemmas.List.{take_more}
use Rattle.std.proofs.lemmas.Option.{get_or_from_slice_get, slice_get_within}
use Rattle.ssr_syntax.proofs.fragment_text.copied.Goals as goal

pub loop-number-preserved : goal.loop-number-preserved
loop-number-preserved c =
    let rows = c.args.rows.now in
    let number = c.loop-number.number in
    let row = c.row.result in
    c.in_ok-push.ensures
    ∙ ap (λ copy. copy ++ row ∷ []) c.loop-number.invariant
    ∙ ap (λ next. take number rows ++ next ∷ []) (sym (get_or_from_slice_get rows number row row c.row.ensures))
    ∙ sym (take_more rows number row (slice_get_within rows number row c.row.ensures))

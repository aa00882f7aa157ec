use Rattle.std.proofs.Common.{ap, arith, length}
use Rattle.std.proofs.lemmas.List.{length-map}
use Rattle.std.proofs.lemmas.Option.{slice_get-get_or}
use Rattle.ssr_syntax_tree.proofs.node_rows.NodeRows.kind.Goals as goal

pub returns : goal.returns
returns c =
    rw (← c.kinds.ensures)
    (slice_get-get_or c.kinds.result.now c.args.number _ (omega (arith, c.requires, ap length c.kinds.ensures, length-map c.args.self.now (λ row. row.kind))))

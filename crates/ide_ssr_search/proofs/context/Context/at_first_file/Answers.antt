use Rattle.std.proofs.Common.{◌<◌, length, arith}
use Rattle.ide_ssr_search.proofs.FirstFile.{makes_first}
use Rattle.ide_ssr_search.proofs.context.Context.at_first_file.Goals as goal

pub returns : goal.returns
returns g c =
    let w = c.args.workspace.now in
    let some : 0 < length w.files = omega arith in
    makes_first w (g.S.Semantics.meanings c.args.semantics.now) c.new.result.items c.at.result c.new.ensures.items some c.at.ensures

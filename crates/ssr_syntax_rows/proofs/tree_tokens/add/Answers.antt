use Rattle.std.proofs.Common.{arith}
use Rattle.ssr_syntax_rows.proofs.TreeTokens.{row_put_alone}
use Rattle.ssr_syntax_rows.proofs.tree_tokens.add.Goals as goal

pub returns-in_default-clause-packed : goal.returns-in_default-clause-packed
returns-in_default-clause-packed c others =
    row_put_alone c.args.left c.args.next.now c.args.rows.now.packed c.put.new.self.packed c.args.token others
    (omega (arith, c.if-left-gt0.false)) c.in_default.ensures.cases c.put.ensures.packed

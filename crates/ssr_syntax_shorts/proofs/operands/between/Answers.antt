use Rattle.std.proofs.Common.{◌≡◌, true, ap, sym, ◌∙◌}
use Rattle.ssr_syntax_kinds.specs.Kinds.{same_kind}
use Rattle.ssr_syntax_kinds.specs.declared.kinds.SyntaxKind.TheVariants as k
use Rattle.ssr_syntax_exprs.specs.Expressions.{ranks}
use Rattle.ssr_syntax.specs.Operands.{row_in}
use Rattle.ssr_syntax_shorts.proofs.Below.{kind_at, mark_kind}
use Rattle.ssr_syntax_shorts.proofs.Enough.{binary_enough}
use Rattle.ssr_syntax_shorts.proofs.operands.between.Goals as goal

pub returns-then-is_own : goal.returns-then-is_own
returns-then-is_own c =
    let s = c.args.walk.now.tree.now in
    let names = c.args.walk.now.names.now in
    let node = c.args.spot.node in
    let kind : same_kind (kind_at s node) k.BIN_EXPR ≡ true = ap (λ w. same_kind w k.BIN_EXPR) (sym c.kind.ensures) ∙ sym c.is.ensures.same ∙ c.if-is.true in
    let rank : row_in ranks (mark_kind s c.args.operator) ≡ c.in_ok-rank.rank = ap (row_in ranks) (sym c.token_kind.ensures) ∙ c.in_ok-rank.ensures.0 in
    binary_enough s names node c.args.spot.callable c.args.spot.most c.requires.has c.args.left c.args.right c.args.operator c.operand-left.result c.operand.result
    c.requires.shape c.in_ok-rank.rank rank c.in_ok-rank.ensures.1 c.if-spot-rank.false kind (c.is_own.ensures c.if-is_own.true)
    c.operand-left.ensures.node c.operand-left.ensures.need c.operand.ensures.node c.operand.ensures.need

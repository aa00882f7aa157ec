use Rattle.std.proofs.Common.{◌≡◌, true, ap, sym, ◌∙◌}
use Rattle.ssr_syntax_kinds.specs.Kinds.{same_kind}
use Rattle.ssr_syntax_kinds.specs.declared.kinds.SyntaxKind.TheVariants as k
use Rattle.ssr_syntax_shorts.proofs.Below.{kind_at}
use Rattle.ssr_syntax_shorts.proofs.Enough.{try_enough}
use Rattle.ssr_syntax_shorts.proofs.operands.questioned.Goals as goal

pub returns-then-is_mark : goal.returns-then-is_mark
returns-then-is_mark c =
    let s = c.args.walk.now.tree.now in
    let names = c.args.walk.now.names.now in
    let node = c.args.spot.node in
    let kind : same_kind (kind_at s node) k.TRY_EXPR ≡ true = ap (λ w. same_kind w k.TRY_EXPR) (sym c.kind.ensures) ∙ sym c.is.ensures.same ∙ c.if-is.true in
    try_enough s names node c.args.spot.callable c.args.spot.most c.requires.has c.args.left c.args.question c.operand.result c.requires.shape c.if-spot-lt1.false kind
    (c.is_mark.ensures c.if-is_mark.true) c.operand.ensures.node c.operand.ensures.need

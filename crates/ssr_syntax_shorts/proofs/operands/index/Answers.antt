use Rattle.std.proofs.Common.{◌≡◌, true, ap, sym, ◌∙◌}
use Rattle.ssr_syntax_kinds.specs.Kinds.{same_kind}
use Rattle.ssr_syntax_kinds.specs.declared.kinds.SyntaxKind.TheVariants as k
use Rattle.ssr_syntax_shorts.proofs.Below.{kind_at}
use Rattle.ssr_syntax_shorts.proofs.Enough.{index_enough}
use Rattle.ssr_syntax_shorts.proofs.operands.index.Goals as goal

pub returns-then-is_mark-2 : goal.returns-then-is_mark-2
returns-then-is_mark-2 c =
    let s = c.args.walk.now.tree.now in
    let names = c.args.walk.now.names.now in
    let node = c.args.spot.node in
    let kind : same_kind (kind_at s node) k.INDEX_EXPR ≡ true = ap (λ w. same_kind w k.INDEX_EXPR) (sym c.kind.ensures) ∙ sym c.is.ensures.same ∙ c.if-is.true in
    index_enough s names node c.args.spot.callable c.args.spot.most c.requires.has c.args.left c.args.opening c.args.within c.args.closing c.operand.result c.inside.result
    c.requires.shape c.if-spot-lt1.false kind (c.is_mark.ensures c.if-is_mark.true) (c.is_mark-then-is_mark.ensures c.if-is_mark-2.true)
    c.operand.ensures.node c.operand.ensures.need c.inside.ensures.node c.inside.ensures.need

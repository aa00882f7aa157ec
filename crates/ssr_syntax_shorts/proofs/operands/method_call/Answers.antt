use Rattle.std.proofs.Common.{◌≡◌, true, ap, sym, ◌∙◌}
use Rattle.ssr_syntax_kinds.specs.Kinds.{same_kind}
use Rattle.ssr_syntax_kinds.specs.declared.kinds.SyntaxKind.TheVariants as k
use Rattle.ssr_syntax_shorts.proofs.Below.{kind_at}
use Rattle.ssr_syntax_shorts.proofs.Enough.{method_enough}
use Rattle.ssr_syntax_shorts.proofs.operands.method_call.Goals as goal

pub returns-then-is_name_ref : goal.returns-then-is_name_ref
returns-then-is_name_ref c =
    let s = c.args.walk.now.tree.now in
    let names = c.args.walk.now.names.now in
    let node = c.args.spot.node in
    let kind : same_kind (kind_at s node) k.METHOD_CALL_EXPR ≡ true = ap (λ w. same_kind w k.METHOD_CALL_EXPR) (sym c.kind.ensures) ∙ sym c.is.ensures.same ∙ c.if-is.true in
    method_enough s names node c.args.spot.callable c.args.spot.most c.requires.has c.args.left c.args.dot c.args.name c.args.arguments c.operand.result c.list.result
    c.requires.shape c.if-spot-lt1.false kind (c.is_mark.ensures c.if-is_mark.true) (c.is_name_ref.ensures c.if-is_name_ref.true)
    c.operand.ensures.node c.operand.ensures.need c.list.ensures.node c.list.ensures.need

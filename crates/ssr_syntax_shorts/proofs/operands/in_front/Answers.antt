use Rattle.std.proofs.Common.{◌≡◌, true, ap, sym, ◌∙◌}
use Rattle.ssr_syntax_kinds.specs.Kinds.{same_kind}
use Rattle.ssr_syntax_kinds.specs.declared.kinds.SyntaxKind.TheVariants as k
use Rattle.ssr_syntax_shorts.proofs.Below.{kind_at}
use Rattle.ssr_syntax_shorts.proofs.Enough.{prefix_enough, reference_enough}
use Rattle.ssr_syntax_shorts.proofs.operands.in_front.Goals as goal

pub returns-then-is_mark : goal.returns-then-is_mark
returns-then-is_mark c =
    let s = c.args.walk.now.tree.now in
    let names = c.args.walk.now.names.now in
    let node = c.args.spot.node in
    let kind : same_kind (kind_at s node) k.PREFIX_EXPR ≡ true = ap (λ w. same_kind w k.PREFIX_EXPR) (sym c.kind-kind.ensures) ∙ sym c.is.ensures.same ∙ c.if-is.true in
    prefix_enough s names node c.args.spot.callable c.args.spot.most c.requires.has c.args.operator c.args.right c.operand.result c.requires.shape c.if-spot-lt2.false kind
    (c.is_mark.ensures c.if-is_mark.true) c.operand.ensures.node c.operand.ensures.need

pub returns-then-is_mark-2 : goal.returns-then-is_mark-2
returns-then-is_mark-2 c =
    let s = c.args.walk.now.tree.now in
    let names = c.args.walk.now.names.now in
    let node = c.args.spot.node in
    let kind : same_kind (kind_at s node) k.REF_EXPR ≡ true = ap (λ w. same_kind w k.REF_EXPR) (sym c.kind-kind.ensures) ∙ sym c.is-2.ensures.same ∙ c.if-is-2.true in
    reference_enough s names node c.args.spot.callable c.args.spot.most c.requires.has c.args.operator c.args.right c.operand-then-is_mark-2.result c.requires.shape c.if-spot-lt2.false kind
    (c.is_mark-then-is-2.ensures c.if-is_mark-2.true) c.operand-then-is_mark-2.ensures.node c.operand-then-is_mark-2.ensures.need

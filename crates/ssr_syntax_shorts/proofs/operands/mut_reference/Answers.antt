use Rattle.std.proofs.Common.{◌≡◌, true, ap, sym, ◌∙◌}
use Rattle.ssr_syntax_kinds.specs.Kinds.{same_kind}
use Rattle.ssr_syntax_kinds.specs.declared.kinds.SyntaxKind.TheVariants as k
use Rattle.ssr_syntax_shorts.proofs.Below.{kind_at}
use Rattle.ssr_syntax_shorts.proofs.Enough.{mut_enough}
use Rattle.ssr_syntax_shorts.proofs.operands.mut_reference.Goals as goal

pub returns-then-is_mark-2 : goal.returns-then-is_mark-2
returns-then-is_mark-2 c =
    let s = c.args.walk.now.tree.now in
    let names = c.args.walk.now.names.now in
    let node = c.args.spot.node in
    let kind : same_kind (kind_at s node) k.REF_EXPR ≡ true = ap (λ w. same_kind w k.REF_EXPR) (sym c.kind.ensures) ∙ sym c.is.ensures.same ∙ c.if-is.true in
    mut_enough s names node c.args.spot.callable c.args.spot.most c.requires.has c.args.ampersand c.args.word c.args.right c.operand.result c.requires.shape c.if-spot-lt2.false kind
    (c.is_mark.ensures c.if-is_mark.true) (c.is_mark-then-is_mark.ensures c.if-is_mark-2.true) c.operand.ensures.node c.operand.ensures.need

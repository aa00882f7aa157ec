use Rattle.std.proofs.Common.{◌≡◌, true, ap, sym, ◌∙◌}
use Rattle.ssr_syntax_kinds.specs.Kinds.{same_kind}
use Rattle.ssr_syntax_kinds.specs.declared.kinds.SyntaxKind.TheVariants as k
use Rattle.ssr_syntax_types.specs.Literals.{literals}
use Rattle.ssr_syntax_shorts.proofs.Below.{kind_at}
use Rattle.ssr_syntax_shorts.proofs.Enough.{literal_enough}
use Rattle.ssr_syntax_shorts.proofs.operands.literal.Goals as goal

pub returns-then-is_mark : goal.returns-then-is_mark
unfolding literals
returns-then-is_mark c =
    let s = c.args.walk.now.tree.now in
    let names = c.args.walk.now.names.now in
    let node = c.args.spot.node in
    let kind : same_kind (kind_at s node) k.LITERAL ≡ true = ap (λ w. same_kind w k.LITERAL) (sym c.kind.ensures) ∙ sym c.is.ensures.same ∙ c.if-is.true in
    literal_enough s names node c.args.spot.callable c.args.spot.most c.requires.has c.args.token c.requires.shape kind (c.is_mark.ensures c.if-is_mark.true)

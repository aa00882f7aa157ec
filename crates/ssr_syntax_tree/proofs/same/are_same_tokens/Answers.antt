use Rattle.std.proofs.Common.{refl, arith, rules}
use Rattle.ssr_syntax_tree.proofs.Agreeing.{agree_more, agree_all}
use Rattle.ssr_syntax_tree.proofs.same.are_same_tokens.Goals as goal

pub loop-number-init : goal.loop-number-init
loop-number-init c = refl

pub loop-number-preserved : goal.loop-number-preserved
loop-number-preserved c =
    agree_more c.args.one.now c.args.other.now c.loop-number.number c.row.result c.row-in-loop-number.result
    c.row.ensures c.row-in-loop-number.ensures (c.if-not-is_same_token.ensures.0 (search rules)) c.loop-number.invariant

pub returns : goal.returns
returns c =
    (λ _. agree_all c.args.one.now c.args.other.now c.loop-number.number (omega arith) (omega arith) c.loop-number.invariant, λ _. search rules)

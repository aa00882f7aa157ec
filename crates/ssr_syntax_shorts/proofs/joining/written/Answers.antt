use Rattle.std.proofs.Common.{◌∙◌, length, take, ap, arith}
use Rattle.std.proofs.lemmas.List.{take_all}
use Rattle.ssr_syntax_shorts.specs.Made.{plain_of, put_together}
use Rattle.ssr_syntax_shorts.specs.Private.Joining.{IsAt, parts_of}
use Rattle.ssr_syntax_shorts.proofs.JoinedParts.{placed_at, wrote_more}
use Rattle.ssr_syntax_shorts.proofs.joining.written.Goals as goal

pub returns : goal.returns
returns c = λ reach long read are.
    c.loop-placed.invariant reach long read are
    ∙ ap (λ l. put_together read.syntax 0 (parts_of l)) (take_all c.loop-placed.placed-index c.args.parts.now (omega arith))

pub loop-placed-preserved : goal.loop-placed-preserved
loop-placed-preserved c = λ reach long read are.
    let all = c.args.parts.now in
    let i = c.loop-placed.placed-index in
    let part = c.placed-item.result in
    let at = length (plain_of (parts_of (take i all))) in
    let places = placed_at (IsAt c.args.tree.now.names) 0 at all i part are (omega arith) c.placed-item.is (omega arith) in
    c.in_ok-push.ensures
    ∙ wrote_more read.syntax all i part c.loop-placed.made c.in-Some.loose (omega arith) c.placed-item.is (c.loop-placed.invariant reach long read are)
    (c.in-Some.ensures reach long at read places.0 places.1)

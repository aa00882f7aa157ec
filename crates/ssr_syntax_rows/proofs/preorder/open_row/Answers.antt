use Rattle.std.proofs.Common.{arith, ◌∙◌, ap, length}
use Rattle.std.specs.Prelude.{reverse}
use Rattle.ssr_syntax_rows.specs.Private.OpenNodes.{opened}
use Rattle.ssr_syntax_rows.proofs.Placed.{goes_on, goes_on_written}
use Rattle.ssr_syntax_rows.proofs.preorder.open_row.Goals as goal

pub returns-then-row-eq0-clause-opened : goal.returns-then-row-eq0-clause-opened
returns-then-row-eq0-clause-opened c =
    goes_on_written c.args.row.now c.args.place c.args.above.now.items
    c.close_open.new.above.items c.args.rows.now.turned c.close_open.new.rows.turned c.opened-inner.result
    c.close_open.ensures.closed.0 c.close_open.ensures.closed.1 (omega (arith, c.len.ensures, c.if-len-gt-MOST_DEEP.false))
    (c.opened-inner.ensures ∙ ap (λ l. opened c.args.row.now c.args.place (reverse l)) c.deref.ensures.value)
    c.put.new.self.turned (omega (arith, ap (λ o. o.start) c.opened-inner.ensures, c.if-row-eq0.true)) c.put.ensures.turned

pub returns-else-row-eq0-clause-opened : goal.returns-else-row-eq0-clause-opened
returns-else-row-eq0-clause-opened c =
    goes_on c.args.row.now c.args.place c.args.above.now.items
    c.close_open.new.above.items c.args.rows.now.turned c.close_open.new.rows.turned c.opened-inner.result
    c.close_open.ensures.closed.0 c.close_open.ensures.closed.1 (omega (arith, c.len.ensures, c.if-len-gt-MOST_DEEP.false))
    (c.opened-inner.ensures ∙ ap (λ l. opened c.args.row.now c.args.place (reverse l)) c.deref.ensures.value)
    c.push_reserved.new.self.items c.push_reserved.ensures.items

pub push_reserved-requires : goal.push_reserved-requires
push_reserved-requires c =
    let above = c.close_open.new.above in
    let enough = c.requires.places (length above.items)
    (omega (arith, above.ok.0, c.len.ensures, c.if-len-gt-MOST_DEEP.false)) (omega (arith, c.requires.room, c.close_open.ensures.fewer)) in
    omega (arith, enough, above.ok.0, c.close_open.ensures.places)

use Rattle.std.proofs.Common.{arith, ap, sym, ◌≡◌, ◌∙◌, ◌++◌, [], ◌∷◌, length, length-append}
use Rattle.std.specs.Prelude.{reverse}
use Rattle.std.proofs.lemmas.List.{reverse-append, length-reverse}
use Rattle.ssr_syntax_tree.specs.Syntax.{most_deep}
use Rattle.ssr_syntax_rows.specs.Private.OpenNodes.{from_right, is_deeper}
use Rattle.ssr_syntax_rows.proofs.Placed.{closed_at_end, all_closed}
use Rattle.ssr_syntax_rows.proofs.preorder.from_right.Goals as goal

pub returns-clause-turned : goal.returns-clause-turned
returns-clause-turned c =
    closed_at_end c.loop-row.rows.unread c.args.rows.unread c.args.above.items
    c.loop-row.above.items c.close_open.new.above.items c.args.rows.turned c.read.new.self.turned c.close_open.new.rows
    c.in_default.ensures.all.0 (rw (c.read.ensures.turned) c.loop-row.invariant.0) c.loop-row.invariant.1 c.close_open.ensures.closed

pub returns-clause-full : goal.returns-clause-full
returns-clause-full c =
    omega (
      arith,
      c.close_open.ensures.room,
      c.loop-row.invariant.3,
      ap (λ t. t.room) c.in_default.ensures.all.1,
      all_closed c.loop-row.above.items c.close_open.new.above.items c.close_open.ensures.closed.0,
    )

pub loop-row-preserved : goal.loop-row-preserved
loop-row-preserved c =
    let went = c.in_ok-open_row.ensures.opened.1 (reverse c.read.new.self.unread) (length-reverse c.read.new.self.unread ∙ sym c.unread.ensures) in
    let front : reverse c.loop-row.rows.unread ≡ c.in-Some.row ∷ reverse c.read.new.self.unread =
    ap reverse c.in-Some.ensures.row ∙ reverse-append c.read.new.self.unread (c.in-Some.row ∷ []) in (
      ap (λ l. c.open_row.new.rows.turned ++ from_right (reverse c.open_row.new.above.items) (reverse l)) c.open_row.ensures.unread
          ∙ went.0
          ∙ ap (λ l. c.read.new.self.turned ++ from_right (reverse c.loop-row.above.items) l) (sym front)
          ∙ ap (λ l. l ++ from_right (reverse c.loop-row.above.items) (reverse c.loop-row.rows.unread)) c.read.ensures.turned
          ∙ c.loop-row.invariant.0,
      ap (λ l. is_deeper most_deep (reverse c.open_row.new.above.items) (reverse l)) c.open_row.ensures.unread
          ∙ went.1
          ∙ ap (λ l. is_deeper most_deep (reverse c.loop-row.above.items) l) (sym front)
          ∙ c.loop-row.invariant.1,
      omega (
        arith,
        ap length c.open_row.ensures.unread,
        ap length c.in-Some.ensures.row,
        length-append c.read.new.self.unread (c.in-Some.row ∷ []),
        c.loop-row.invariant.2,
      ),
      c.in_ok-open_row.ensures.room,
      λ n deep less.
          let before = c.loop-row.invariant.4 n deep
          (omega (
            arith,
            less,
            ap length c.open_row.ensures.unread,
            ap length c.in-Some.ensures.row,
            length-append c.read.new.self.unread (c.in-Some.row ∷ []),
            c.open_row.ensures.one_more,
            c.in_ok-open_row.ensures.room,
            c.loop-row.invariant.3,
          )) in
          omega (arith, before, c.open_row.ensures.places),
    )

pub open_row-requires-clause-places : goal.open_row-requires-clause-places
open_row-requires-clause-places c = λ n deep less.
    c.loop-row.invariant.4 n deep
    (omega (
      arith,
      less,
      c.in-Some.ensures.room,
      ap length c.in-Some.ensures.row,
      length-append c.read.new.self.unread (c.in-Some.row ∷ []),
    ))

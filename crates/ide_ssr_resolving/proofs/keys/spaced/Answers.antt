use Rattle.std.proofs.Common.{arith, ap, sym, ◌∙◌}
use Rattle.ssr_syntax_kinds.specs.Kinds.{is_trivia}
use Rattle.ide_ssr_resolving.proofs.Pieces.{text_more, text_passed, spaced_is}
use Rattle.ide_ssr_resolving.proofs.keys.spaced.Goals as goal
use Rattle.ide_ssr_resolving.proofs.keys.spaced.Goals.{then-not-is_trivia+in_ok-push, else-not-is_trivia}

pub loop-number-preserved : goal.loop-number-preserved
loop-number-preserved c =
    let tree = c.args.tree.now in
    let first = c.args.piece.first in
    let number = c.loop-number.number in
    elim c.if-not-is_trivia.branch [
      | then-not-is_trivia+in_ok-push w ↦
          rw w.texts-is
          (text_more _ tree first number _ _ _ (omega arith) (omega arith)
          (ap is_trivia (sym c.token_kind.ensures) ∙ sym c.is_trivia.ensures ∙ w.if-not-is_trivia.true) w.token_text.ensures c.loop-number.invariant
          w.in_ok-push.ensures.items)
      | else-not-is_trivia w ↦
          rw w.texts-is
          (text_passed _ tree first number _ (omega arith) (omega arith)
          (ap is_trivia (sym c.token_kind.ensures) ∙ sym c.is_trivia.ensures ∙ w.if-not-is_trivia.false) c.loop-number.invariant)
    ]

pub returns : goal.returns
returns c =
    spaced_is _ c.args.tree.now c.args.piece.first c.loop-number.number c.args.piece.past _ _ _ (omega arith) c.in_ok-text.ensures.ok
    c.as_slice.ensures.value c.loop-number.invariant

use Rattle.std.proofs.Common.{◌∷◌, ◌∙◌, ◌+◌, ◌<◌, ◌≤◌, ap, arith, sym}
use Rattle.ssr_syntax_kinds.specs.Kinds.{is_trivia}
use Rattle.ssr_syntax_tree.specs.Syntax.{token_count}
use Rattle.ide_ssr_matching.specs.Private.Records.{label_texts}
use Rattle.ide_ssr_matching.proofs.LabelTexts.{text_next, text_passed}
use Rattle.ide_ssr_matching.proofs.records.Label.next_text.Goals as goal

pub overflow_add-self : goal.overflow_add-self
overflow_add-self c = omega (arith, c.loop-self-test.true, c.loop-self.invariant.past, c.fits-self)

pub returns-then-not-is_trivia-clause-gives : goal.returns-then-not-is_trivia-clause-gives
returns-then-not-is_trivia-clause-gives c =
    let tree = c.args.tree.now in
    let label = c.loop-self.self in
    let some : label.first < label.past = omega (arith, c.loop-self-test.true) in
    let within : label.past ≤ token_count tree.children = c.loop-self.invariant.has.1 in
    c.loop-self.invariant.texts
    ∙ text_next tree label.first label.past (omega arith) some
    (ap is_trivia (sym c.token_kind.ensures) ∙ sym c.is_trivia.ensures ∙ c.if-not-is_trivia.true)
    ∙ ap (λ text. text ∷ label_texts tree (record { first = label.first + 1; past = label.past })) (sym c.token_text.ensures)

pub loop-self-preserved : goal.loop-self-preserved
loop-self-preserved c =
    let tree = c.args.tree.now in
    let label = c.loop-self.self in
    let some : label.first < label.past = omega (arith, c.loop-self-test.true) in
    let within : label.past ≤ token_count tree.children = c.loop-self.invariant.has.1 in
    record {
      texts =
          c.loop-self.invariant.texts
          ∙ text_passed tree label.first label.past (omega arith) some
          (ap is_trivia (sym c.token_kind.ensures) ∙ sym c.is_trivia.ensures ∙ c.if-not-is_trivia.false);
      has = (omega arith, within);
      past = c.loop-self.invariant.past;
    }

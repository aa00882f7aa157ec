use Rattle.std.proofs.Common.{subst, sym, arith, rules}
use Rattle.std.specs.List.{All}
use Rattle.ssr_base_trees.specs.Changes.{FitsText, IsReplaced}
use Rattle.ssr_base_trees.proofs.Changes.{IsReplaced-replaced}
use Rattle.ssr_base_trees.proofs.edit.TextEdit.apply.Goals as goal

pub returns-clause-answer : goal.returns-clause-answer
returns-clause-answer c =
    let fit : All (FitsText c.args.text.now) c.args.self.now = c.if-not-fits.ensures.fits.0 (search rules steps 200000) in (
      fit,
      subst (IsReplaced 0 c.args.text.now c.args.self.now) (sym c.in_ok-written.ensures)
          (IsReplaced-replaced c.args.text.now 0 c.args.self.now c.fits.ensures.order (omega arith) fit),
    )

pub returns-then-not-fits-clause-answer : goal.returns-then-not-fits-clause-answer
returns-then-not-fits-clause-answer c = λ fit. search (rules, c.if-not-fits.ensures.fits.1 fit) steps 400000

pub returns-then-not-fits-clause-text : goal.returns-then-not-fits-clause-text
returns-then-not-fits-clause-text c = tt

use Rattle.std.proofs.Common.{sym, subst}
use Rattle.ssr_names_items.specs.declared.table.ImportNo.{ImportNo}
use Rattle.ssr_names.specs.Settled.{AreAnswers}
use Rattle.ssr_names.proofs.imports.looked_up.Goals as goal

pub returns-clause-found : goal.returns-clause-found
returns-clause-found c =
    let space = c.args.space.now in
    let row = c.in-Some.import.now in
    record {
      row = row;
      is = sym c.in-Some.ensures;
      held = sym c.in-Some-answers_at.ensures;
      answers = subst (λ (i : ImportNo). AreAnswers space i row c.in_ok-found.found) c.import_no.ensures c.in_ok-found.ensures;
    }

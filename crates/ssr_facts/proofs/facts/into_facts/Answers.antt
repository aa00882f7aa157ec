use Rattle.std.proofs.Common.{map, Err, Ok, refl, sym, ap, subst, ◌∙◌}
use Rattle.std.proofs.lemmas.Result.{err_from_is_err_and}
use Rattle.std.specs.Option.{option_map}
use Rattle.ssr_base_trees.specs.Workspace.{file_span_of}
use Rattle.ssr_facts_rows.specs.declared.sources.FileRow.{FileRow}
use Rattle.ssr_facts_rows.specs.Sources.{plain_expansion}
use Rattle.ssr_facts_rows.specs.Facts.{plain_facts}
use Rattle.ssr_facts.specs.Provider.{provided}
use Rattle.ssr_facts.specs.Reading.{Answers}
use Rattle.ssr_facts.specs.Private.Reading.{Builds, IsToldIfNamed}
use Rattle.ssr_facts.proofs.Answered.{refused, answered_facts, answered_shape, sources_are, names_are}
use Rattle.ssr_facts.proofs.facts.into_facts.Goals as goal

pub returns-in_err-workspace : goal.returns-in_err-workspace
returns-in_err-workspace c =
    let rows = c.args.rows in
    let texts = c.in_ok-names.texts.items in
    let xs = c.in_ok-expansions.expansions.items in
    let told = err_from_is_err_and c.from_residual-in_err-workspace.result c.from_residual-in_err-workspace.ensures.1 in
    let sources =
    sources_are rows texts xs
    (c.in_ok-names.ensures.texts ∙ ap (λ v. map (λ (file : FileRow). file.text) v.items) c.taken-2.ensures)
    (c.in_ok-expansions.ensures ∙ ap (λ v. map plain_expansion v.items) c.taken.ensures) in
    subst (Answers (Ok (plain_facts rows))) (sym told.1)
    (refused (plain_facts rows) texts xs sources told.0 (subst (λ e. Builds texts xs (Err e)) (sym told.2) c.in_err-workspace.ensures))

pub returns-in-Some : goal.returns-in-Some
returns-in-Some c =
    let rows = c.args.rows in
    let texts = c.in_ok-names.texts.items in
    let xs = c.in_ok-expansions.expansions.items in
    let meant = subst (λ o. IsToldIfNamed c.in_ok-workspace.workspace (plain_facts rows) (option_map provided o)) c.in-Some.is c.in_ok-semantics.ensures in
    answered_facts (plain_facts rows) texts xs
    (sources_are rows texts xs
    (c.in_ok-names.ensures.texts ∙ ap (λ v. map (λ (file : FileRow). file.text) v.items) c.taken-2.ensures)
    (c.in_ok-expansions.ensures ∙ ap (λ v. map plain_expansion v.items) c.taken.ensures))
    c.in_ok-workspace.workspace c.in_ok-workspace.ensures _ meant.0
    (record {
      workspace = refl;
      meanings = meant.1;
      names =
          names_are rows c.in_ok-names.names.items
          (c.in_ok-names.ensures.names ∙ ap (λ v. map (λ (file : FileRow). file.name) v.items) c.taken-2.ensures);
      position = c.unwrap_or-position.ensures;
      ranges = ap (λ v. map file_span_of v.items) c.taken-ranges.ensures;
    })

pub returns-in-None : goal.returns-in-None
returns-in-None c =
    let rows = c.args.rows in
    let texts = c.in_ok-names.texts.items in
    let xs = c.in_ok-expansions.expansions.items in
    answered_shape (plain_facts rows) texts xs
    (sources_are rows texts xs
    (c.in_ok-names.ensures.texts ∙ ap (λ v. map (λ (file : FileRow). file.text) v.items) c.taken-2.ensures)
    (c.in_ok-expansions.ensures ∙ ap (λ v. map plain_expansion v.items) c.taken.ensures))
    c.in_ok-workspace.workspace c.in_ok-workspace.ensures
    (subst (λ o. IsToldIfNamed c.in_ok-workspace.workspace (plain_facts rows) (option_map provided o)) c.in-None.is c.in_ok-semantics.ensures)

use Rattle.std.proofs.Common.{sym, ◌∙◌}
use Rattle.ssr_facts.specs.Private.Nodes.{at_place}
use Rattle.ssr_facts.proofs.Told.{named_by_rows}
use Rattle.ssr_facts.proofs.facts.semantics.Goals as goal

pub returns-then-not-all_named : goal.returns-then-not-all_named
returns-then-not-all_named c =
    sym (named_by_rows c.args.workspace.now c.args.rows (at_place c.in_ok-paths.paths) (at_place c.in_ok-calls.calls) c.in_ok-paths.ensures c.in_ok-calls.ensures)
    ∙ sym c.all_named.ensures ∙ c.if-not-all_named.true

pub returns : goal.returns
returns c = (
  sym (named_by_rows c.args.workspace.now c.args.rows (at_place c.in_ok-paths.paths) (at_place c.in_ok-calls.calls) c.in_ok-paths.ensures c.in_ok-calls.ensures)
      ∙ sym c.all_named.ensures ∙ c.if-not-all_named.false,
  c.in_ok-new.ensures ∙ c.in_ok-tables.ensures,
)

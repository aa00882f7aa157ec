use Rattle.std.proofs.Common.{rules}
use Rattle.ssr_uses.specs.ByFacts.{AreEditsByFacts}
use Rattle.ssr_uses.proofs.by_facts.edits_by_facts.Goals as goal

pub returns : goal.returns
returns c = record {
  facts = c.in_ok-workspace.field-0;
  are_read = search rules;
  are_edits = search rules;
}

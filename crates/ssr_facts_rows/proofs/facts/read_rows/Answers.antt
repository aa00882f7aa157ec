use Rattle.std.proofs.Common.{sym, true≢false}
use Rattle.ssr_facts_rows.proofs.Told.{told, no_json}
use Rattle.ssr_facts_rows.proofs.facts.read_rows.Goals as goal

pub returns-in-Ok : goal.returns-in-Ok
returns-in-Ok c = told _ _ _ c.in-Ok.ensures.ok.0 c.in-Ok.ensures.ok.1 c.from_json.ensures

pub returns-in-Err-2 : goal.returns-in-Err-2
returns-in-Err-2 c = no_json _ (c.in-Err.ensures.err (λ memory. true≢false (sym (c.if-is_memory.ensures.1 memory))))

use Rattle.std.proofs.Common.{◌≡◌, map}
use Rattle.ssr_facts_rows.specs.Sources.{plain_expansion}
use Rattle.ssr_facts.specs.Sources.{row_of_expansion}
use Rattle.ssr_facts.proofs.sources.expansions.Given as goal

abbrev pub invariant-loop-row : goal.invariant-loop-row
invariant-loop-row l = map row_of_expansion l.expansions.items ≡ map plain_expansion l.yielded

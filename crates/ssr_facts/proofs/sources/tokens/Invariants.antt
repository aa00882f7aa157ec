use Rattle.std.proofs.Common.{◌≡◌, map}
use Rattle.ssr_facts_rows.specs.Sources.{plain_token}
use Rattle.ssr_facts.specs.Sources.{row_of_token}
use Rattle.ssr_facts.proofs.sources.tokens.Given as goal

abbrev pub invariant-loop-row : goal.invariant-loop-row
invariant-loop-row l = map row_of_token l.tokens.items ≡ map plain_token l.yielded

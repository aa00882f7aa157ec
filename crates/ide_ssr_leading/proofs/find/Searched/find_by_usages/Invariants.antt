use Rattle.std.proofs.Common.{◌≡◌, ◌+◌, ◌≤◌, length, take}
use Rattle.ide_ssr_leading.specs.Private.Finding.{AreLedFoundTo, are_others, usages_in}
use Rattle.ide_ssr_leading.specs.Private.Usages.{KnowsUsages}
use Rattle.ide_ssr_leading.proofs.find.Searched.find_by_usages.Given as goal

abbrev pub invariant-loop-place : goal.invariant-loop-place
invariant-loop-place g l = record {
  known : KnowsUsages (g.S.Semantics.meanings l.semantics) l.known;
  found : AreLedFoundTo l.self.workspace.now (g.S.Semantics.meanings l.semantics) l.self.context.now l.self.rules.now l.place l.found.items;
  others : l.others.items ≡ are_others (take l.place l.self.rules.now);
  count : l.tries ≤ l.initial.tries + usages_in (g.S.Semantics.meanings l.semantics) (take l.place l.self.rules.now);
  tried : l.initial.tries + length l.found.items ≤ l.tries;
}

use Rattle.std.proofs.Common.{map, string_bytes, take}
use Rattle.ssr_changes.specs.Private.Finding.{AddsTexts}
use Rattle.ssr_changes.proofs.finding.add_all.Given as goal

abbrev pub invariant-loop-number : goal.invariant-loop-number
invariant-loop-number g l = AddsTexts g.S.Semantics.meanings l.form (take l.number (map string_bytes l.texts)) l.initial.finder l.finder l.owners.items

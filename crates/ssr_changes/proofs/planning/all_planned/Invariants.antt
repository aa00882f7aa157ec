use Rattle.std.proofs.Common.{take}
use Rattle.ssr_changes.specs.Private.Planning.{ArePlanned}
use Rattle.ssr_changes.proofs.planning.all_planned.Given as goal

abbrev pub invariant-loop-change : goal.invariant-loop-change
invariant-loop-change l = ArePlanned l.files.files (take l.change-index l.made) l.plan.items

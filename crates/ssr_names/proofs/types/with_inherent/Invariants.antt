use Rattle.std.specs.Prelude.{All}
use Rattle.ssr_names.specs.Declarations.{IsMember}
use Rattle.ssr_names.proofs.types.with_inherent.Given as goal

abbrev pub invariant-loop-number : goal.invariant-loop-number
invariant-loop-number l = All (IsMember l.space.table.now) l.members.items

use Rattle.std.specs.Prelude.{All}
use Rattle.ssr_names.specs.Declarations.{IsMember}
use Rattle.ssr_names.proofs.preparing.members.Given as goal

abbrev pub invariant-loop-number : goal.invariant-loop-number
invariant-loop-number l = All (IsMember l.table) l.members.items

use Rattle.std.specs.Prelude.{All}
use Rattle.ssr_names.specs.Declarations.{IsCrate}
use Rattle.ssr_names.proofs.preparing.libraries.Given as goal

abbrev pub invariant-loop-own : goal.invariant-loop-own
invariant-loop-own l = All (IsCrate l.table) l.known.items

use Rattle.std.specs.Prelude.{All}
use Rattle.ssr_names.specs.Declarations.{IsCrate}
use Rattle.ssr_names.proofs.preparing.crates.Given as goal

abbrev pub invariant-loop-name : goal.invariant-loop-name
invariant-loop-name l = All (IsCrate l.table) l.known.items

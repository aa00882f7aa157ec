use Rattle.std.specs.Prelude.{All}
use Rattle.ssr_names.specs.Declarations.{IsMacroItem}
use Rattle.ssr_names.proofs.preparing.macros.Given as goal

abbrev pub invariant-loop-number : goal.invariant-loop-number
invariant-loop-number l = All (IsMacroItem l.table) l.macros.items

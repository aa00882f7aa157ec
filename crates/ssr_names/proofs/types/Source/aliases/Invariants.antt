use Rattle.std.specs.Prelude.{All}
use Rattle.ssr_names.specs.Declarations.{IsTypeAlias}
use Rattle.ssr_names.proofs.types.Source.aliases.Given as goal

abbrev pub invariant-loop-number : goal.invariant-loop-number
invariant-loop-number l = All (IsTypeAlias l.space.table.now) l.aliases.items

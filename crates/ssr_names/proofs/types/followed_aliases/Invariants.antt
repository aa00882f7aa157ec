use Rattle.std.specs.Prelude.{All}
use Rattle.ssr_names.specs.Declarations.{IsTypeAlias}
use Rattle.ssr_names.proofs.types.followed_aliases.Given as goal

abbrev pub invariant-loop-alias : goal.invariant-loop-alias
invariant-loop-alias l = All (IsTypeAlias l.space.table.now) l.aliases.items

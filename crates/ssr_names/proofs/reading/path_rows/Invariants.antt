use Rattle.std.proofs.Common.{List}
use Rattle.std.specs.Prelude.{All}
use Rattle.ssr_base_trees.specs.Workspace.{PlacedTree}
use Rattle.ssr_names_items.specs.declared.table.Name.{Name}
use Rattle.ssr_names.specs.declared.scopes.TreeScopes.{TreeScopes}
use Rattle.ssr_names.specs.Private.Locals.{IsRight, HasNoLocal}
use Rattle.ssr_names.specs.Private.Rows.{AreKnown, TellsRow}
use Rattle.ssr_names.proofs.reading.path_rows.Given as goal

abbrev pub invariant-loop-row : goal.invariant-loop-row
invariant-loop-row l = record {
  local : (trees : List PlacedTree) → All (IsRight trees) l.found → HasNoLocal trees l.rows.known.entries;
  told : (stranger : Name) (scopes : List TreeScopes) (trees : List PlacedTree) → All (TellsRow l.space stranger scopes trees) l.found
      → AreKnown l.space stranger scopes trees l.wanted.definitions.items l.rows.known;
}

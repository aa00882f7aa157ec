use Rattle.std.specs.Prelude.{All}
use Rattle.ssr_base_trees.specs.Workspace.{trees}
use Rattle.ssr_names.specs.Private.Locals.{IsRight}
use Rattle.ssr_names.specs.Private.Rows.{TellsRow}
use Rattle.ssr_names.proofs.resolving.Resolver.rows.Given as goal

abbrev pub invariant-loop-word : goal.invariant-loop-word
invariant-loop-word l = record {
  local : All (IsRight (trees l.locals.trees.now)) l.rows.items;
  told : All (TellsRow l.self.space.now l.self.source.now.stranger l.self.scopes.now.trees.items (trees l.self.source.now.trees.now)) l.rows.items;
}

-- They are read in the stated language.
use Rattle.std.proofs.lemmas.List.Elements.{All-weaker}
use Rattle.ssr_syntax_kinds.specs.declared.reach.Reach.TheVariants.{Stated}
use Rattle.ssr_syntax.specs.Reading.{IsRead, IsReadOf}
use Rattle.ssr_syntax.proofs.Shared.{read_stated}
use Rattle.ssr_base.proofs.workspace.Workspace.of_trees.Goals as goal

pub of_trees_of-requires-clause-read : goal.of_trees_of-requires-clause-read
of_trees_of-requires-clause-read c = All-weaker IsRead (IsReadOf Stated) read_stated c.args.trees.items c.requires.read

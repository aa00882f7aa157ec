use Rattle.std.proofs.Common.{ap, sym, ◌∙◌}
use Rattle.ssr_base_trees.specs.Workspace.{trees}
use Rattle.ide_ssr_bindings.specs.Found.{range_of_held}
use Rattle.ide_ssr_bindings.proofs.bindings.Binding.original_range.Goals as goal

pub returns-in-Node : goal.returns-in-Node
returns-in-Node c = c.original_range.ensures ∙ sym (ap (range_of_held (trees c.args.workspace.now) c.args.tree) c.in-Node.is)

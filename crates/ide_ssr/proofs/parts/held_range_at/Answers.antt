use Rattle.std.proofs.Common.{sym, ◌∙◌}
use Rattle.ssr_base_trees.specs.Workspace.{file_span_of}
use Rattle.ide_ssr_rewriting.proofs.Shared.{held_in_file}
use Rattle.ide_ssr.proofs.parts.held_range_at.Goals as goal

pub returns : goal.returns
returns c =
    let is = sym c.original_range.ensures ∙ c.there.ensures in
    record { is = is; in_file = held_in_file c.args.workspace.now c.args.tree c.args.binding.held (file_span_of c.there.result) c.requires.built is }

use Rattle.std.proofs.Common.{◌≡◌, drop}
use Rattle.ssr_base_trees.specs.Applied.{changes_of}
use Rattle.ide_ssr_edited.specs.Expected.{swaps_for}
use Rattle.ide_ssr_edited.proofs.Swaps.{behind}
use Rattle.ide_ssr_edited.proofs.expected.RewrittenFile.swaps.Given as goal

abbrev pub invariant-loop-number : goal.invariant-loop-number
invariant-loop-number l =
    let rules = l.self.rules.now in
    let file = l.self.file.0 in
    let changes = changes_of l.changes in
    behind l.swaps.items (swaps_for l.kept rules file (drop l.number l.places) (drop l.number changes)) ≡ swaps_for l.kept rules file l.places changes

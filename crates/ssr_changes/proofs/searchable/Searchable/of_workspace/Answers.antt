use Rattle.std.proofs.Common.{List, subst, sym}
use Rattle.ssr_changes.specs.Files.{AreSearched, File}
use Rattle.ssr_changes.proofs.FileLists.{they_are_made}
use Rattle.ssr_changes.proofs.searchable.Searchable.of_workspace.Goals as goal

pub invariant_of-result : goal.invariant_of-result
invariant_of-result c =
    subst (λ (files : List File). AreSearched c.args.workspace.files files) (sym c.in_ok-files.ensures) (they_are_made _ c.args.workspace.files)

use Rattle.std.proofs.Common.{◌<◌, length, slice_get, ap, subst, sym, ◌∙◌}
use Rattle.ssr_changes.specs.Files.{Searchable}
use Rattle.ssr_changes.proofs.FileLists.{file_at, searched_at}
use Rattle.ssr_changes.proofs.searchable.Searchable.file.Goals as goal

pub returns-clause-searched : goal.returns-clause-searched
returns-clause-searched c =
    let files = c.self.inside.files.items in
    let n = c.args.file in
    let file = c.index.result.now in
    let less : n < length files = subst (λ (s : Searchable). n < length s.files) (sym c.self.view_is) c.requires in
    λ tree is.
    searched_at c.self.inside.workspace.files files n file c.self.invariant (file_at files n file less c.index.ensures) tree
    (ap (λ (s : Searchable). slice_get s.workspace.files n) c.self.view_is ∙ is)

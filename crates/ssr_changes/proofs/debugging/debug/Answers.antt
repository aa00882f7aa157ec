use Rattle.ssr_changes.proofs.Matches.{are_told}
use Rattle.ssr_changes.proofs.debugging.debug.Goals as goal

pub returns : goal.returns
returns g c =
    are_told g.S.Semantics.meanings c.args.semantics.now c.args.position c.new.result.items c.workspace-workspace.result.now c.args.files.now.workspace _
    c.in_ok-finder.finder c.add_all.new.finder c.in_ok-owners.owners.items c.deref.result.now c.args.snippet.now _ c.workspace-workspace.ensures.workspace
    c.new.ensures.items c.in_ok-finder.ensures c.in_ok-owners.ensures c.deref.ensures.value c.in_ok-all_entries.ensures

use Rattle.std.proofs.Common.{List, ℕ, map, ap, ◌∙◌}
use Rattle.ide_ssr.specs.declared.matches.Match.{Match}
use Rattle.ide_ssr.specs.Finder.{finder_of}
use Rattle.ide_ssr.specs.Flattened.{ShowEachOnce}
use Rattle.ssr_changes.specs.Matching.{found_of}
use Rattle.ssr_changes.proofs.Matches.{are_found}
use Rattle.ssr_changes.proofs.matching.all_matches.Goals as goal

pub returns : goal.returns
returns g c =
    let files = c.args.files.now.files in
    let owners = c.in_ok-owners.owners.items in
    are_found g.S.Semantics.meanings c.args.sought.form c.args.semantics.now c.args.position c.args.ranges.items ShowEachOnce c.workspace.result.now
    c.args.files.now.workspace _ files c.in_ok-finder.finder c.add_all.new.finder owners c.in_ok-found.found.matches.items _ c.workspace.ensures.workspace
    c.in_ok-finder.ensures c.in_ok-owners.ensures
    (c.in_ok-found.ensures.each_once (finder_of g.S.Semantics.meanings c.add_all.new.finder) c.in_ok-nested.ensures.shows)
    (c.in_ok-places.ensures ∙ ap (λ (os : List ℕ). map (found_of os files) c.deref-2.result.now) c.deref.ensures.value
    ∙ ap (λ (ms : List Match). map (found_of owners files) ms) c.deref-2.ensures.value)

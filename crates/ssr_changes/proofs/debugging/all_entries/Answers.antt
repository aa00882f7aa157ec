use Rattle.std.proofs.Common.{◌≡◌, List, length, map, sym, ap, subst, arith}
use Rattle.ide_ssr.specs.Finder.{finder_of}
use Rattle.ssr_changes.specs.declared.debugging.DebugEntry.{DebugEntry}
use Rattle.ssr_changes.specs.Debugging.{AreToldUpTo, none, told_by}
use Rattle.ssr_changes.proofs.Matches.{told_more}
use Rattle.ssr_changes.proofs.debugging.all_entries.Goals as goal

pub loop-file-init : goal.loop-file-init
loop-file-init g c =
    subst (λ (es : List DebugEntry). AreToldUpTo (finder_of g.S.Semantics.meanings c.args.finder.now) c.args.owners.now c.args.snippet.now 0 (map told_by es))
    (sym c.new-entries.ensures.items) none

pub loop-file-preserved : goal.loop-file-preserved
loop-file-preserved g c =
    told_more (finder_of g.S.Semantics.meanings c.args.finder.now) c.args.owners.now c.args.snippet.now c.loop-file.file c.args.workspace.now
    (map told_by c.loop-file.entries.items) _ c.in_ok-told.told.items c.deref.result.now c.requires c.loop-file.invariant c.in_ok-told.ensures
    c.deref.ensures.value c.in_ok-push_entries.ensures

pub returns : goal.returns
returns g c =
    let all : c.loop-file.file ≡ length c.args.workspace.now.files = omega (arith, c.file_count-file-end.ensures.count, c.loop-file-test.false, c.loop-file.auto.file-end) in
    subst (λ n. AreToldUpTo (finder_of g.S.Semantics.meanings c.args.finder.now) c.args.owners.now c.args.snippet.now n (map told_by c.loop-file.entries.items)) all
    c.loop-file.invariant

use Rattle.std.proofs.Common.{◌≡◌, ◌+◌, ◌≢◌, sym, ◌∙◌, subst, arith}
use Rattle.ssr_base_trees.specs.Workspace.{trees, file_of}
use Rattle.ssr_base_trees.proofs.Shared.{tree_within}
use Rattle.ide_ssr_debugging.specs.Private.Shown.{AreShownBefore}
use Rattle.ide_ssr_debugging.proofs.Showing.{shown_none, shown_elsewhere, shown_all}
use Rattle.ide_ssr_debugging.proofs.shown.found_nodes.Goals as goal
use Rattle.ide_ssr_debugging.proofs.shown.found_nodes.Goals.{then-file_of-file+in_ok-add_shown, else-file_of-file}

pub overflow_add-number : goal.overflow_add-number
overflow_add-number c = omega (arith, tree_within c.args.workspace.now c.loop-tree.number c.in-Some.tree.now c.in-Some.ensures)

pub loop-tree-smaller : goal.loop-tree-smaller
loop-tree-smaller c = omega (arith, tree_within c.args.workspace.now c.loop-tree.number c.in-Some.tree.now c.in-Some.ensures)

pub loop-tree-preserved : goal.loop-tree-preserved
loop-tree-preserved c =
    let w = c.args.workspace.now in
    let t = c.loop-tree.number in
    record {
      within = omega (arith, tree_within w t c.in-Some.tree.now c.in-Some.ensures);
      shown = elim c.if-file_of-file.branch [
        | then-file_of-file+in_ok-add_shown b ↦
            let same : c.if-file_of-file.shown.items ≡ b.add_shown.new.shown.items = cc in
            subst (AreShownBefore w c.args.file c.args.snippet.now (t + 1) 0) (sym same) b.in_ok-add_shown.ensures
        | else-file_of-file b ↦
            let same : c.if-file_of-file.shown.items ≡ c.loop-tree.shown.items = cc in
            let other : file_of (trees w) t ≢ c.args.file.0 = λ is. b.if-file_of-file.false (c.file_of.ensures ∙ is) in
            subst (AreShownBefore w c.args.file c.args.snippet.now (t + 1) 0) (sym same)
            (shown_elsewhere w c.args.file c.args.snippet.now t c.loop-tree.shown.items other c.loop-tree.invariant.shown)
      ];
    }

pub returns-clause-are : goal.returns-clause-are
returns-clause-are c =
    shown_all c.args.workspace.now c.args.file c.args.snippet.now c.loop-tree.number c.loop-tree.shown.items c.in_default.ensures c.loop-tree.invariant.shown

use Rattle.std.proofs.Common.{◌≡◌, ◌+◌, ◌++◌, ◌∷◌, [], sym, ◌∙◌, subst, arith}
use Rattle.std.proofs.lemmas.Bool.{false≢true}
use Rattle.ssr_base_trees.specs.Workspace.{node_id}
use Rattle.ide_ssr_debugging.specs.Private.Shown.{AreShownBefore}
use Rattle.ide_ssr_debugging.proofs.Showing.{shown_root, shown_more, shown_not, shown_tree}
use Rattle.ide_ssr_debugging.proofs.shown.add_shown.Goals as goal
use Rattle.ide_ssr_debugging.proofs.shown.add_shown.Goals.{then-is_shown+in_ok-push, else-is_shown}

pub loop-n-init : goal.loop-n-init
loop-n-init c = shown_root c.args.workspace.now c.args.file c.args.snippet.now c.args.number c.args.shown.now.items c.requires.shown

pub loop-n-preserved : goal.loop-n-preserved
loop-n-preserved c =
    let w = c.args.workspace.now in
    let n = c.loop-n.n in
    let xs = c.loop-n.shown.items in
    elim c.if-is_shown.branch [
      | then-is_shown+in_ok-push w' ↦
          let pushed : c.if-is_shown.shown.items ≡ xs ++ node_id c.args.number n ∷ [] = let items = w'.in_ok-push.ensures.items in let is = w'.shown-is in cc (items, is) in
          subst (AreShownBefore w c.args.file c.args.snippet.now c.args.number (n + 1)) (sym pushed)
          (shown_more w c.args.file c.args.snippet.now c.args.number n xs c.loop-n.invariant (c.is_shown.ensures.0 w'.if-is_shown.true))
      | else-is_shown w' ↦
          let same : c.if-is_shown.shown.items ≡ xs = cc in
          subst (AreShownBefore w c.args.file c.args.snippet.now c.args.number (n + 1)) (sym same)
          (shown_not w c.args.file c.args.snippet.now c.args.number n xs c.loop-n.invariant
          (λ shown. false≢true (sym w'.if-is_shown.false ∙ c.is_shown.ensures.1 shown)))
    ]

pub returns : goal.returns
returns c =
    shown_tree c.args.workspace.now c.args.file c.args.snippet.now c.args.number c.loop-n.n c.args.tree.now c.loop-n.shown.items
    c.requires.tree (omega arith) c.loop-n.invariant

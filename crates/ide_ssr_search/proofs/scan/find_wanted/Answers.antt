use Rattle.std.proofs.Common.{◌+◌, sym, subst, arith, rules}
use Rattle.std.proofs.lemmas.Grind.{common_steps}
use Rattle.std.specs.Prelude.{◌↔◌, IsTrue}
use Rattle.std.specs.Option.{IsSomeAnd}
use Rattle.ssr_base_trees.specs.Workspace.{trees, node_id}
use Rattle.ssr_base_trees.specs.Laws.{IsBelow}
use Rattle.ssr_base_trees.proofs.Shared.{tree_within}
use Rattle.ide_ssr_search.specs.Private.KnownTrees.{KnowsShut, KnowsInside}
use Rattle.ide_ssr_search.specs.Private.Scan.{AreFoundBefore, KeepsLimits}
use Rattle.ide_ssr_search.proofs.Calls.{inside_more}
use Rattle.ide_ssr_search.proofs.Finding.{found_enough}
use Rattle.ide_ssr_search.proofs.Counting.{kept_on, kept_all}
use Rattle.ide_ssr_search.proofs.scan.find_wanted.Goals as goal

pub loop-tree-smaller : goal.loop-tree-smaller
loop-tree-smaller g c = omega (arith, tree_within c.args.workspace.now c.loop-tree.number c.in-Some.tree.now c.in-Some.ensures)

pub loop-tree-preserved : goal.loop-tree-preserved
loop-tree-preserved g c =
    let w = c.args.workspace.now in
    let context = c.args.context.now in
    let rules = c.args.wanted.rules.now in
    let wanted = c.args.wanted.flags.now in
    let m = g.S.Semantics.meanings c.args.semantics.now in
    let t = c.loop-tree.number in
    let scan = c.new-known.result in
    let known = c.new-known.ensures in
    let ms = c.add_found.new.found.items in
    let all = c.in_ok-tried.ensures in
    record {
      within = omega (arith, tree_within w t c.in-Some.tree.now c.in-Some.ensures);
      found =
          subst (λ w. AreFoundBefore w m context rules wanted (t + 1) 0 0 ms) known.workspace
          (subst (λ x. AreFoundBefore scan.workspace.now m x rules wanted (t + 1) 0 0 ms) known.context
          (subst (λ n. AreFoundBefore scan.workspace.now m scan.context.now rules wanted (n + 1) 0 0 ms) known.number
          (subst (λ rs. AreFoundBefore scan.workspace.now m scan.context.now rs wanted (scan.number + 1) 0 0 ms) all.rules
          (subst (λ fs. AreFoundBefore scan.workspace.now m scan.context.now c.in_ok-tried.tried.rules.now fs (scan.number + 1) 0 0 ms) all.wanted c.in_ok-add_found.ensures.found))));
      count =
          kept_on w context rules wanted 0 0 t 0 (t + 1) 0 0 c.args.tries.now c.loop-tree.tries c.add_found.new.tries c.loop-tree.invariant.count
          (subst (λ w. KeepsLimits w context rules wanted t 0 (t + 1) 0 0 c.loop-tree.tries c.add_found.new.tries) known.workspace
          (subst (λ x. KeepsLimits scan.workspace.now x rules wanted t 0 (t + 1) 0 0 c.loop-tree.tries c.add_found.new.tries) known.context
          (subst (λ n. KeepsLimits scan.workspace.now scan.context.now rules wanted n 0 (n + 1) 0 0 c.loop-tree.tries c.add_found.new.tries) known.number
          (subst (λ rs. KeepsLimits scan.workspace.now scan.context.now rs wanted scan.number 0 (scan.number + 1) 0 0 c.loop-tree.tries c.add_found.new.tries) all.rules
          (subst (λ fs. KeepsLimits scan.workspace.now scan.context.now c.in_ok-tried.tried.rules.now fs scan.number 0 (scan.number + 1) 0 0 c.loop-tree.tries c.add_found.new.tries) all.wanted
          c.in_ok-add_found.ensures.count)))));
      tried = omega (arith, c.loop-tree.invariant.tried, c.in_ok-add_found.ensures.tried);
      shut =
          subst (λ w. KnowsShut w (t + 1) 0 c.add_found.new.shut) known.workspace
          (subst (λ n. KnowsShut scan.workspace.now (n + 1) 0 c.add_found.new.shut) known.number c.in_ok-add_found.ensures.shut);
      inside =
          subst (KnowsInside w context (t + 1)) (sym c.in_ok-push.ensures.items)
          (inside_more w context t c.loop-tree.inside.items scan.inside c.loop-tree.invariant.inside
          (subst (λ w. IsTrue scan.inside ↔ IsSomeAnd context.function (IsBelow (trees w) (node_id t 0))) known.workspace
          (subst (λ x. IsTrue scan.inside ↔ IsSomeAnd x.function (IsBelow (trees scan.workspace.now) (node_id t 0))) known.context
          (subst (λ n. IsTrue scan.inside ↔ IsSomeAnd scan.context.now.function (IsBelow (trees scan.workspace.now) (node_id n 0))) known.number known.known.inside))));
    }

pub returns-clause-found : goal.returns-clause-found
returns-clause-found g c =
    found_enough c.args.workspace.now (g.S.Semantics.meanings c.args.semantics.now) c.args.context.now c.args.wanted.rules.now c.args.wanted.flags.now c.loop-tree.number c.loop-tree.found.items
    c.in_default.ensures c.loop-tree.invariant.found

pub returns-clause-in_order : goal.returns-clause-in_order
returns-clause-in_order g c = c.loop-tree.invariant.found.in_order

pub returns-clause-count : goal.returns-clause-count
returns-clause-count g c = λ most is.
    kept_all c.args.workspace.now c.args.context.now c.args.wanted.rules.now c.args.wanted.flags.now c.loop-tree.number 0 c.args.tries.now c.loop-tree.tries most c.loop-tree.invariant.count is

pub returns-clause-tried : goal.returns-clause-tried
returns-clause-tried g c = c.loop-tree.invariant.tried

pub add_found-requires-clause-shut : goal.add_found-requires-clause-shut
add_found-requires-clause-shut g c =
    let w = c.args.workspace.now in
    let known = c.new-known.ensures in
    subst (λ w. KnowsShut w c.new-known.result.number 0 c.loop-tree.shut) (sym known.workspace)
    (subst (λ n. KnowsShut w n 0 c.loop-tree.shut) (sym known.number) c.loop-tree.invariant.shut)

pub loop-tree-init : goal.loop-tree-init
loop-tree-init g c = first_of (search rules steps 1000000, grind (arith, common_steps) steps 1000000)

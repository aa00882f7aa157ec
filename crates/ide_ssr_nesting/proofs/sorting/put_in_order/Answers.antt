use Rattle.std.proofs.Common.{AllPairs, refl, subst, rules}
use Rattle.std.proofs.lemmas.Fn.{always_returns_same, dedup_same}
use Rattle.ssr_base_trees.specs.Workspace.{trees}
use Rattle.ide_ssr_nesting.specs.Kept.{ComesBefore}
use Rattle.ide_ssr_nesting.specs.Private.Sorting.{is_ahead}
use Rattle.ide_ssr_nesting.proofs.Ahead.{ahead_order}
use Rattle.ide_ssr_nesting.proofs.Sorted.{repeats, sorted_once}
use Rattle.ide_ssr_nesting.proofs.sorting.put_in_order.Goals as goal

pub returns-then-are_in_order-clause-in_order : goal.returns-then-are_in_order-clause-in_order
returns-then-are_in_order-clause-in_order c =
    subst (AllPairs (ComesBefore (trees c.args.workspace.now))) c.deref.ensures.value (c.if-are_in_order.ensures refl)

pub returns-clause-in_order : goal.returns-clause-in_order
returns-clause-in_order c =
    let ts = trees c.args.workspace.now in
    let once = dedup_same _ repeats _ (λ x y b f' x' y' k. search rules) _ _ c.dedup_by.ensures.filtered in
    let up = c.sort_unstable_by.ensures.sorted (is_ahead ts) (ahead_order ts) (always_returns_same _ _ _ (λ a r f' k. search rules)) in
    rw once (sorted_once ts c.requires.built.grown c.args.found.now.items _ c.requires.matches c.sort_unstable_by.ensures.permutation up).0

pub returns-clause-same : goal.returns-clause-same
returns-clause-same c =
    let ts = trees c.args.workspace.now in
    let once = dedup_same _ repeats _ (λ x y b f' x' y' k. search rules) _ _ c.dedup_by.ensures.filtered in
    let up = c.sort_unstable_by.ensures.sorted (is_ahead ts) (ahead_order ts) (always_returns_same _ _ _ (λ a r f' k. search rules)) in
    rw once (sorted_once ts c.requires.built.grown c.args.found.now.items _ c.requires.matches c.sort_unstable_by.ensures.permutation up).1

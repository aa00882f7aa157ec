use Rattle.std.proofs.Common.{◌≡◌, ℕ, ◌<◌, ◌≤◌, Some, true, ap, subst, ◌∙◌, inl, inr, arith, eqb-true}
use Rattle.std.proofs.lemmas.Bool.{cases_lt, and_parts}
use Rattle.std.specs.BTreeMap.{get}
use Rattle.std.specs.Map.{lookup}
use Rattle.std.specs.Option.{option_map}
use Rattle.std.specs.Ordering.{nat_cmp}
use Rattle.std.specs.Prelude.{slice_get}
use Rattle.ssr_syntax_tree.specs.Places.{HasNode, node_of, start_of, end_of}
use Rattle.ssr_base_trees.specs.Workspace.{node_id, same_id}
use Rattle.ssr_base.proofs.Shared.{starts_sorted}
use Rattle.ssr_facts.specs.declared.scopes.Scope.{Scope}
use Rattle.ssr_facts.specs.Private.Scopes.{IsBestAt, IsFirst, id_of}
use Rattle.ssr_facts.proofs.ByTree.{told_more, lookup_more}
use Rattle.ssr_facts.proofs.Sweep.{sweep_best, told_if_same, untold_if_same}
use Rattle.ssr_facts.proofs.scopes.add_scopes.Goals as goal
use Rattle.ssr_facts.proofs.scopes.add_scopes.Goals.{in-Some+in_ok-push, in_default}

pub loop-node-preserved : goal.loop-node-preserved
loop-node-preserved c =
    let tree = c.args.tree.now in
    let scopes = c.args.scopes.now in
    let n = c.loop-node.node in
    let id = node_id c.args.number n in
    let next = c.in_ok-next.next in
    let known = c.loop-node.invariant in
    let more = c.in_ok-next.ensures in
    let has : HasNode tree n = omega (arith, c.node_count-node-end.ensures) in
    let kept = more.kept known.kept in
    let begun : (m k : ℕ) (v : Scope) → HasNode tree m → n ≤ m → k < next → slice_get scopes k ≡ Some v → v.start ≤ start_of tree (node_of tree m) =
    λ m k v has_m le lt is. elim (cases_lt k c.loop-node.next) [
      | inl before ↦ known.begun m k v has_m le before is
      | inr behind ↦ omega (arith, more.begun k v behind lt is, c.range-range.ensures.start, starts_sorted tree n m has_m le)
    ] in
    let first : IsBestAt tree n scopes c.first_from.result =
    sweep_best scopes next more.within.1 (get nat_cmp c.keep_begun.new.kept) (start_of tree (node_of tree n)) (end_of tree (node_of tree n)) c.first_from.result kept c.requires
    (λ k v lt is. begun n k v has (omega arith) lt is)
    (λ v is. omega (arith, more.waiting v is, c.range-range.ensures.start))
    (subst (λ (end : ℕ). IsFirst (get nat_cmp c.keep_begun.new.kept) end c.first_from.result) c.range-range.ensures.end c.first_from.ensures) in
    record {
      within = more.within.1;
      kept = kept;
      begun = λ m k v has_m le lt is. begun m k v has_m (omega arith) lt is;
      told = λ x best is.
          let same : same_id x id ≡ true → IsBestAt tree n scopes best =
          λ e. subst (λ (m : ℕ). IsBestAt tree m scopes best) (eqb-true x.node.0 n (and_parts _ _ e).1) is in
          told_more c.args.number (λ _. option_map id_of best) x n (lookup (same_id x) c.args.told.now.items) (lookup (same_id x) c.loop-node.told.items)
          (lookup (same_id x) c.match-first_from.told.items) (known.told x best is)
          (elim c.match-first_from.branch [
            | in-Some+in_ok-push w ↦
                ap (λ v. lookup (same_id x) v.items) w.told-is ∙ ap (lookup (same_id x)) w.in_ok-push.ensures.items
                ∙ lookup_more c.loop-node.told.items id (id_of w.in-Some.scope) x
                ∙ told_if_same (same_id x id) (lookup (same_id x) c.loop-node.told.items) _ _ scopes best w.in-Some.scope same
                (subst (IsBestAt tree n scopes) w.in-Some.is first)
            | in_default w ↦
                ap (λ v. lookup (same_id x) v.items) w.told-is
                ∙ untold_if_same (same_id x id) (lookup (same_id x) c.loop-node.told.items) _ _ scopes best same (subst (IsBestAt tree n scopes) w.in_default.is first)
          ]);
    }

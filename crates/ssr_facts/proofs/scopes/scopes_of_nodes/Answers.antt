use Rattle.std.proofs.Common.{◌+◌, arith, sym, ap, subst, ◌∙◌}
use Rattle.std.specs.Map.{lookup}
use Rattle.std.specs.Option.{option_map, option_or}
use Rattle.std.specs.Prelude.{IsPermutation}
use Rattle.ssr_syntax_tree.specs.Syntax.{node_count}
use Rattle.ssr_base_trees.specs.Workspace.{same_id}
use Rattle.ssr_facts.specs.Scopes.{scope_of}
use Rattle.ssr_facts.specs.Private.Nodes.{place_at, told_up_to}
use Rattle.ssr_facts.specs.Private.Scopes.{scopes_in, IsBest}
use Rattle.ssr_facts.proofs.Places.{nodes_told, nodes_untold, all_told}
use Rattle.ssr_facts.proofs.Shortest.{numbered, shortest_from, scope_is_best, scope_is, best_sorted}
use Rattle.ssr_facts.proofs.scopes.scopes_of_nodes.Goals as goal
use Rattle.ssr_facts.proofs.scopes.scopes_of_nodes.Goals.{in-Some+in_ok-scopes+in_ok-add_scopes, in_default}

pub loop-number-preserved : goal.loop-number-preserved
loop-number-preserved c =
    let rows = c.args.rows.now in
    let t = c.loop-number.number in
    λ x. elim c.match-tree.branch [
      | in-Some+in_ok-scopes+in_ok-add_scopes w ↦
          let tree = w.in-Some.tree.now in
          let place = place_at t tree x.node.0 in
          let best = option_map numbered (shortest_from place 0 rows) in
          nodes_told c.args.workspace.now t (scope_of rows) x (lookup (same_id x) c.loop-number.told.items) (lookup (same_id x) c.match-tree.told.items) (c.loop-number.invariant x)
          tree (sym w.in-Some.ensures)
          (ap (λ v. lookup (same_id x) v.items) w.told-is
          ∙ w.in_ok-add_scopes.ensures x best
          (subst (λ scopes. IsBest place.start place.end scopes best) (sym w.deref.ensures.value)
          (best_sorted place.start place.end (scopes_in t 0 rows) w.in_ok-scopes.scopes.items best
          (subst (λ xs. IsPermutation xs w.in_ok-scopes.scopes.items) (c.in_ok-by_tree.ensures t) w.in_ok-scopes.ensures.same) (scope_is_best place rows)))
          ∙ ap (λ o. option_or (lookup (same_id x) c.loop-number.told.items) (told_up_to t (1 + node_count tree.children) (λ _. o) x)) (scope_is place rows))
      | in_default w ↦
          nodes_untold c.args.workspace.now t (scope_of rows) x (lookup (same_id x) c.loop-number.told.items) (lookup (same_id x) c.match-tree.told.items) (c.loop-number.invariant x)
          (sym w.in_default.ensures) (ap (λ v. lookup (same_id x) v.items) w.told-is)
    ]

pub returns : goal.returns
returns c =
    λ x. all_told c.args.workspace.now (scope_of c.args.rows.now) x c.loop-number.number (lookup (same_id x) c.loop-number.told.items)
    (omega (arith, c.loop-number-test.false, c.tree_count-count.ensures)) (c.loop-number.invariant x)

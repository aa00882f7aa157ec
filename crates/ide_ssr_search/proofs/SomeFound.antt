-- What is found in a workspace that is built is some list: its trees, their nodes and the rules are gone through in order.
use Rattle.std.proofs.Common.{Bool, true, ◌≡◌, ℕ, zero, suc, ◌+◌, inl, inr, List, [], ◌∷◌, ◌++◌, length, Option, Some, None, refl, sym, ap, arith}
use Rattle.std.specs.Prelude.{replicate}
use Rattle.std.specs.Option.{option_map}
use Rattle.ssr_syntax_tree.specs.Syntax.{Syntax, node_count}
use Rattle.ssr_syntax_tree.specs.Places.{HasNode, node_of, root_of}
use Rattle.ssr_syntax_tree.proofs.Lists.{stands_at}
use Rattle.ssr_base_trees.specs.Meanings.{Meanings}
use Rattle.ssr_base_trees.specs.Workspace.{Workspace, PlacedTree, trees, with_number, tree_of, node_id}
use Rattle.ssr_base_trees.specs.Built.{IsBuilt}
use Rattle.ssr_base_trees.proofs.Shared.{placed_within, placed_there}
use Rattle.ide_ssr_resolved_rule.specs.Resolved.{ResolvedRule}
use Rattle.ide_ssr_bindings.specs.declared.bindings.Binding.{Binding}
use Rattle.ide_ssr_matching.specs.Bindings.{bindings_of}
use Rattle.ide_ssr_bindings.specs.Found.{FoundMatch}
use Rattle.ide_ssr_search.specs.Context.{Context}
use Rattle.ide_ssr_search.specs.Found.{AreFound}
use Rattle.ide_ssr_search.specs.Private.Scan.{AreFoundBut, TellsMatch, found_of}
use Rattle.ide_ssr_bindings.proofs.Shared.{is_tree, of_tree}
use Rattle.ide_ssr_search.proofs.Placed.{whole, not_matched, not_placed, not_written}
use Rattle.ide_ssr_search.proofs.Finding.{found_none, added_by, found_at, found_in, all_wanted, found_of_all}
use Rattle.ide_ssr_search.proofs.Deciding.{is_permitted, is_placed_match, can_be_written}

module _ (w : Workspace) (b : IsBuilt w) (meanings : Meanings) (context : Context) (rules : List ResolvedRule) where
  -- what the placeholders of a rule hold at a node, or that it has no match there
  module _ (rule : ResolvedRule) (t n : ℕ) (s : Syntax) (tree : tree_of w t ≡ Some s) (has : HasNode s n) where
    abbrev Told : Type 0
    Told = (bindings : Option (List Binding)) × TellsMatch w meanings context rule (node_id t n) bindings

    told : Told
    told = by (bindings_of meanings t rule (root_of rule.pattern) (node_of s n)) refl
      where
        by : (o : Option (List Binding)) → bindings_of meanings t rule (root_of rule.pattern) (node_of s n) ≡ o → Told
        by None none = (None, λ bindings permitted. not_matched w meanings s rule (node_id t n) tree (sym none) bindings)
        by (Some bindings) is =
            elim (is_permitted w b (node_id t n) (of_tree (trees w) t s (λ s. HasNode s n) (is_tree w t s tree) has) context rule) [
              | inr not_here ↦ (None, λ _ permitted. absurd (not_here permitted))
              | inl permitted ↦
                  elim (is_placed_match (trees w) (node_id t n) bindings) [
                    | inl placed ↦
                        elim (can_be_written meanings rule (node_id t n)) [
                          | inl written ↦ (Some bindings, (permitted, whole w meanings s rule (node_id t n) bindings tree (sym is) placed written))
                          | inr not ↦ (None, λ others _. not_written (trees w) meanings rule (node_id t n) not others)
                        ]
                    | inr out ↦ (None, λ others _. not_placed w meanings s rule (node_id t n) bindings tree (sym is) out others)
                  ]
            ]

  -- ** One step after another, of which so many are left.

  abbrev wanted : List Bool
  wanted = replicate (length rules) true

  -- nothing is left out
  abbrev Never : List FoundMatch → FoundMatch → Type 0
  Never ms f = ⊥

  stays_never : (ms : List FoundMatch) (new f : FoundMatch) → Never ms f → Never (ms ++ new ∷ []) f
  stays_never ms new f out = out

  abbrev Further : ℕ → ℕ → Type 0
  Further t n = (ms : List FoundMatch) × AreFoundBut Never w meanings context rules wanted t n 0 ms

  module _ (t : ℕ) (s : Syntax) (tree : tree_of w t ≡ Some s) where
    rules_tried : (n : ℕ) → HasNode s n → (left place : ℕ) → place + left ≡ length rules → (ms : List FoundMatch) → AreFoundBut Never w meanings context rules wanted t n place ms → Further t (n + 1)
    rules_tried n has zero place all ms so_far = (ms, found_at w meanings context rules wanted Never stays_never t n place ms (omega arith) so_far)
    rules_tried n has (suc left) place all ms so_far =
        let rule = stands_at rules place (omega arith) in
        let match = told rule.0 t n s tree has in
        rules_tried n has left (place + 1) (omega arith) (ms ++ found_of place (node_id t n) match.0)
        (added_by w meanings context rules wanted Never stays_never t n place s rule.0 ms match.0 tree rule.1 (all_wanted (length rules) place (omega arith)) so_far match.1)

    nodes_tried : (left n : ℕ) → n + left ≡ 1 + node_count s.children → (ms : List FoundMatch) → AreFoundBut Never w meanings context rules wanted t n 0 ms → Further (t + 1) 0
    nodes_tried zero n all ms so_far = (ms, found_in w meanings context rules wanted Never stays_never t n s ms tree (omega arith) so_far)
    nodes_tried (suc left) n all ms so_far =
        let next = rules_tried n (omega arith) (length rules) 0 (omega arith) ms so_far in
        nodes_tried left (n + 1) (omega arith) next.0 next.1

  trees_tried : (left t : ℕ) → t + left ≡ length (trees w) → (ms : List FoundMatch) → AreFoundBut Never w meanings context rules wanted t 0 0 ms → (found : List FoundMatch) × AreFound w meanings context rules found
  trees_tried zero t all ms so_far = (ms, found_of_all w meanings context rules t ms (none_there (with_number (trees w) t) refl) so_far)
    where
      none_there : (o : Option PlacedTree) → with_number (trees w) t ≡ o → None ≡ option_map (λ (p : PlacedTree). p.syntax) o
      none_there None is = refl
      none_there (Some p) is = absurd (omega (arith, placed_within (trees w) t p is))
  trees_tried (suc left) t all ms so_far =
      let p = placed_there (trees w) t (omega arith) in
      let next = nodes_tried t p.0.syntax (ap (option_map (λ (p : PlacedTree). p.syntax)) p.1) (1 + node_count p.0.syntax.children) 0 (omega arith) ms so_far in
      trees_tried left (t + 1) (omega arith) next.0 next.1

  pub some_found : (found : List FoundMatch) × AreFound w meanings context rules found
  some_found = trees_tried (length (trees w)) 0 (omega arith) [] (found_none w meanings context rules wanted Never stays_never)

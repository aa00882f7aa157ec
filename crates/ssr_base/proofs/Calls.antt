-- How the call of an expansion is checked.
use Rattle.std.proofs.Common.{◌≡◌, ℕ, ◌+◌, Bool, true, false, List, map, length, Option, Some, None, Result, Ok, Err, refl, sym, ap, ◌∙◌, arith, ltb-false}
use Rattle.std.specs.Prelude.{nat_lt, not, is_some, if◌then◌else◌}
use Rattle.std.specs.List.{list_all}
use Rattle.std.specs.Option.{option_map, option_and_then, ok_or}
use Rattle.ssr_syntax_kinds.specs.declared.range.TextRange.{TextRange}
use Rattle.ssr_syntax_tree.specs.Syntax.{Syntax}
use Rattle.ssr_syntax_tree.specs.Places.{Node, HasNode}
use Rattle.ssr_syntax.specs.declared.expansions.ExpToken.{ExpToken}
use Rattle.ssr_base_trees.specs.declared.ids.NodeId.{NodeId}
use Rattle.ssr_base.specs.declared.building.Expansion.{Expansion}
use Rattle.ssr_base.specs.declared.workspace_error.WorkspaceError.{WorkspaceError}
use Rattle.ssr_base.specs.declared.workspace_error.WorkspaceError.TheVariants as errors
use Rattle.ssr_base_trees.specs.Workspace.{Workspace, trees, with_number, tree_of, text_at_top, nesting, node_id, expansion_of}
use Rattle.ssr_base_trees.specs.Built.{most_nested}
use Rattle.ssr_base.specs.Building.{◌>>=◌, unless, first_call, if_free, free_call, origin_of, checked_call}
use Rattle.ssr_base_trees.specs.Origins.{fits_origin}
use Rattle.ssr_base_trees.specs.Growth.{IsFree}
use Rattle.ssr_base_trees.proofs.Shared.{length-trees, some_and, placed_within}
use Rattle.ssr_base.proofs.Chosen.{chosen_free}

no_tree_no_call : (w : Workspace) (t : ℕ) (range : TextRange) → None ≡ tree_of w t → free_call w t range ≡ None
unfolding free_call
no_tree_no_call w t range none =
    ap (λ o. option_and_then (if_free w) (option_and_then (λ tree. option_map (λ node. node_id t node.number) (first_call tree range)) o)) (sym none)

call_of_node : (t : ℕ) (o : Option Node) (found : Option ℕ) → found ≡ option_map (λ node. node.number) o → option_map (λ node. node_id t node.number) o ≡ option_map (node_id t) found
call_of_node t None found e = ap (option_map (node_id t)) (sym e)
call_of_node t (Some node) found e = ap (option_map (node_id t)) (sym e)

found_call : (w : Workspace) (t : ℕ) (range : TextRange) (tree : Syntax) (found : Option ℕ) → Some tree ≡ tree_of w t
    → found ≡ option_map (λ node. node.number) (first_call tree range) → free_call w t range ≡ option_and_then (if_free w) (option_map (node_id t) found)
unfolding free_call
found_call w t range tree found is call =
    ap (λ o. option_and_then (if_free w) (option_and_then (λ s. option_map (λ node. node_id t node.number) (first_call s range)) o)) (sym is)
    ∙ ap (option_and_then (if_free w)) (call_of_node t (first_call tree range) found call)

pub free_no_tree : (w : Workspace) (t : ℕ) (range : TextRange) → None ≡ tree_of w t → None ≡ free_call w t range
free_no_tree w t range none = sym (no_tree_no_call w t range none)

pub free_no_call : (w : Workspace) (t : ℕ) (range : TextRange) (tree : Syntax) → Some tree ≡ tree_of w t
    → None ≡ option_map (λ (node : Node). node.number) (first_call tree range) → None ≡ free_call w t range
free_no_call w t range tree is none = sym (found_call w t range tree None is none)

pub free_taken : (w : Workspace) (t n : ℕ) (range : TextRange) (tree : Syntax) (root : NodeId) → Some tree ≡ tree_of w t
    → Some n ≡ option_map (λ node. node.number) (first_call tree range) → Some root ≡ expansion_of w (node_id t n) → None ≡ free_call w t range
free_taken w t n range tree root is call taken =
    sym (found_call w t range tree (Some n) is call ∙ ap (λ o. if is_some o then None else Some (node_id t n)) (sym taken))

pub free_found : (w : Workspace) (t n : ℕ) (range : TextRange) (tree : Syntax) → Some tree ≡ tree_of w t
    → Some n ≡ option_map (λ node. node.number) (first_call tree range) → None ≡ expansion_of w (node_id t n) → Some (node_id t n) ≡ free_call w t range
free_found w t n range tree is call free =
    sym (found_call w t range tree (Some n) is call ∙ ap (λ o. if is_some o then None else Some (node_id t n)) (sym free))

-- ** What is checked of it, one after another.

module _ (w : Workspace) (x : Expansion) where
  abbrev pub number : ℕ
  number = length w.expansions

  abbrev pub fit : NodeId → Bool
  fit call = list_all (fits_origin (text_at_top (trees w) call.tree)) (map origin_of x.tokens.items)

  abbrev pub deep : NodeId → Bool
  deep call = nat_lt most_nested (1 + nesting (trees w) call.tree)

  abbrev pub checked : Option NodeId → Result NodeId WorkspaceError
  checked found =
      ok_or found (errors.Call number) >>= (λ call.
      unless (deep call) (errors.Nested number) >>= (λ _.
      unless (not (fit call)) (errors.Origin number) >>= (λ _. Ok call)))

  checked_is : (found : Option NodeId) → found ≡ free_call w x.call.0 x.call.1 → checked found ≡ checked_call w x
  unfolding checked_call
  checked_is found e = ap checked e

  pub checked_none : None ≡ free_call w x.call.0 x.call.1 → Err (errors.Call number) ≡ checked_call w x
  checked_none none = checked_is None none

  pub checked_deep : (call : NodeId) → Some call ≡ free_call w x.call.0 x.call.1 → deep call ≡ true → Err (errors.Nested number) ≡ checked_call w x
  checked_deep call found is =
      sym (ap (λ b. unless b (errors.Nested number) >>= (λ _. unless (not (fit call)) (errors.Origin number) >>= (λ _. Ok call))) is)
      ∙ checked_is (Some call) found

  checked_fit : (call : NodeId) (b : Bool) → Some call ≡ free_call w x.call.0 x.call.1 → deep call ≡ false → b ≡ fit call
      → (unless (not b) (errors.Origin number) >>= (λ _. Ok call)) ≡ checked_call w x
  checked_fit call b found shallow is =
      ap (λ c. unless (not c) (errors.Origin number) >>= (λ _. Ok call)) is
      ∙ sym (ap (λ c. unless c (errors.Nested number) >>= (λ _. unless (not (fit call)) (errors.Origin number) >>= (λ _. Ok call))) shallow)
      ∙ checked_is (Some call) found

  pub checked_unfit : (call : NodeId) → Some call ≡ free_call w x.call.0 x.call.1 → deep call ≡ false → false ≡ fit call → Err (errors.Origin number) ≡ checked_call w x
  checked_unfit call found shallow is = checked_fit call false found shallow is

  pub checked_ok : (call : NodeId) → Some call ≡ free_call w x.call.0 x.call.1 → deep call ≡ false → true ≡ fit call → Ok call ≡ checked_call w x
  checked_ok call found shallow is = checked_fit call true found shallow is

  -- the test of the origins, as it is made
  pub fit_read : (call : NodeId) (text : List ℕ) (tokens : List ExpToken) (tested : Bool) → tested ≡ list_all (fits_origin text) (map origin_of tokens)
      → text ≡ text_at_top (trees w) call.tree → tokens ≡ x.tokens.items → tested ≡ fit call
  fit_read call text tokens tested is top all =
      is
      ∙ ap (λ text. list_all (fits_origin text) (map origin_of tokens)) top
      ∙ ap (λ tokens. list_all (fits_origin (text_at_top (trees w) call.tree)) (map origin_of tokens)) all

  -- what is known of an accepted call
  parts : (c call : NodeId) (b f : Bool) → (unless b (errors.Nested number) >>= (λ _. unless (not f) (errors.Origin number) >>= (λ _. Ok c))) ≡ Ok call
      → (b ≡ false) × (f ≡ true) × (c ≡ call)
  parts c call true f e = cc
  parts c call false true e = (refl, refl, cc)
  parts c call false false e = cc

  accepted_from : (call : NodeId) (found : Option NodeId) → checked found ≡ Ok call → (found ≡ Some call) × (deep call ≡ false) × (fit call ≡ true)
  accepted_from call None e = cc
  accepted_from call (Some c) e =
      let told = parts c call (deep c) (fit c) e in
      (ap Some told.2, sym (ap deep told.2) ∙ told.0, sym (ap fit told.2) ∙ told.1)

  pub accepted : (call : NodeId) → checked_call w x ≡ Ok call → (free_call w x.call.0 x.call.1 ≡ Some call) × (deep call ≡ false) × (fit call ≡ true)
  unfolding checked_call
  accepted call e = accepted_from call (free_call w x.call.0 x.call.1) e

pub checked_free : (w : Workspace) (x : Expansion) (call : NodeId) → Ok call ≡ checked_call w x → IsFree w call
checked_free w x call e =
    let told = accepted w x call (sym e) in
    let chosen = chosen_free w x.call.0 x.call.1 call told.0 in
    let tree = some_and (with_number (trees w) call.tree) (λ p. HasNode p.syntax call.node.0) chosen.0.node in
    record {
      earlier = omega (arith, placed_within (trees w) call.tree tree.0 tree.1, length-trees w);
      nested = omega (arith, ltb-false most_nested (1 + nesting (trees w) call.tree) told.1);
      free = chosen.1;
    }

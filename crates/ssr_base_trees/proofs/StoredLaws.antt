-- Laws of what a workspace stores of its expansions.
use Rattle.std.proofs.Common.{◌≡◌, ℕ, zero, suc, ◌+◌, ◌<◌, ◌≤◌, Bool, true, false, if◌then◌else◌, cond, List, [], ◌∷◌, ◌-◌, length, map, take, drop, slice_get, Option, Some, None, sym, ap, ◌∙◌, arith, inl, inr, lt-ltb, le-ltb}
use Rattle.std.proofs.lemmas.List.{drop-map, take-map, length-map}
use Rattle.ssr_syntax_tree.proofs.Lists.{all_at}
use Rattle.std.proofs.lemmas.Bool.{cases_lt, cases_Bool}
use Rattle.std.proofs.lemmas.Option.{slice_get_within, same_Some}
use Rattle.std.specs.List.{position_from, slice_range}
use Rattle.std.specs.Option.{option_map, option_and_then}
use Rattle.ssr_syntax_tree.specs.Syntax.{Syntax, node_count, token_count}
use Rattle.ssr_syntax_tree.specs.Places.{node_of}
use Rattle.ssr_base_trees.specs.declared.ids.NodeId.{NodeId}
use Rattle.ssr_base_trees.specs.declared.ids.TokenRun.{TokenRun}
use Rattle.ssr_base_trees.specs.declared.covers.Cover.{Cover as StoredCover}
use Rattle.ssr_base_trees.specs.declared.trees.Expanded.{Expanded as Stored}
use Rattle.ssr_base_trees.specs.Origins.{cover_of, covered, plain_cover, plain_origin}
use Rattle.ssr_base_trees.specs.Private.Stored.{expanded_of, IsStoredAt}
use Rattle.ssr_base_trees.specs.Built.{HasOrigins, IsBuilt}
use Rattle.ssr_base_trees.specs.Workspace.{Workspace, PlacedTree, of_file, of_expansion, trees, with_number, tree_of, has_node, told_of, own_span, original_in, original, has_run, own_run_span, original_run_in, original_run}
use Rattle.ssr_base_trees.proofs.Numbers.{placed_at, placed-file, placed_past}

pub stored_planted : (w : Workspace) (t : ℕ) (e : Stored) → IsStoredAt w t e → with_number (trees w) t ≡ Some (of_expansion (expanded_of e))
stored_planted w t e is = placed_at w t (expanded_of e) is.behind is.is

pub stored_tree : (w : Workspace) (t : ℕ) (e : Stored) → IsStoredAt w t e → Some e.tree ≡ tree_of w t
stored_tree w t e is = sym (ap (option_map (λ p. p.syntax)) (stored_planted w t e is))

pub stored_call : (w : Workspace) (t : ℕ) (e : Stored) → IsStoredAt w t e → Some e.call ≡ option_and_then (λ p. p.call) (with_number (trees w) t)
stored_call w t e is = sym (ap (option_and_then (λ p. p.call)) (stored_planted w t e is))

-- a place that is found lies in the list
pub position_within : {A : Type 0} (test : A → Bool) (i n : ℕ) (xs : List A) → position_from test i xs ≡ Some n → n < i + length xs
position_within test i n [] is = cc
position_within test i n (x ∷ xs) is =
    elim (cases_Bool (test x)) [
      | inl here ↦
          let at : Some i ≡ Some n = ap (λ b. cond b (Some i) (position_from test (i + 1) xs)) (sym here) ∙ is in
          omega (arith, same_Some i n at)
      | inr other ↦
          let later : position_from test (i + 1) xs ≡ Some n = ap (λ b. cond b (Some i) (position_from test (i + 1) xs)) (sym other) ∙ is in
          omega (arith, position_within test (i + 1) n xs later)
    ]

-- ** Where a node comes from, before it is told in which file.

told_in : {A : Type 0} (tell : PlacedTree → Option A) (w : Workspace) (x : NodeId) (p : PlacedTree) → with_number (trees w) x.tree ≡ Some p
    → told_of tell (trees w) x ≡ (if has_node p.syntax x.node.0 then tell p else None)
told_in tell w x p is = ap (option_and_then (λ q. if has_node q.syntax x.node.0 then tell q else None)) is

if_true : {A : Type 0} (b : Bool) (x y : A) → b ≡ true → (if b then x else y) ≡ x
if_true b x y is = ap (λ c. if c then x else y) is

if_false : {A : Type 0} (b : Bool) (x y : A) → b ≡ false → (if b then x else y) ≡ y
if_false b x y is = ap (λ c. if c then x else y) is

pub original_covered : (w : Workspace) (x : NodeId) (e : Stored) (cover : StoredCover) → IsStoredAt w x.tree e
    → slice_get e.covers.items x.node.0 ≡ Some cover → original (trees w) x ≡ covered (plain_cover cover)
original_covered w x e cover is at =
    let n = x.node.0 in
    let within : n < 1 + node_count e.tree.children = omega (arith, slice_get_within e.covers.items n cover at, is.covers.counted) in
    told_in (λ p. original_in p (node_of p.syntax n)) w x (of_expansion (expanded_of e)) (stored_planted w x.tree e is)
    ∙ if_true (has_node e.tree n) (original_in (of_expansion (expanded_of e)) (node_of e.tree n)) None (lt-ltb n (1 + node_count e.tree.children) within)
    ∙ ap covered (sym (is.covers.each n cover (omega arith) at))

pub original_past : (w : Workspace) (x : NodeId) (e : Stored) → IsStoredAt w x.tree e → slice_get e.covers.items x.node.0 ≡ None → original (trees w) x ≡ None
original_past w x e is at =
    let n = x.node.0 in
    let past : 1 + node_count e.tree.children ≤ n = omega (arith, is.covers.counted, get_past e.covers.items n at) in
    told_in (λ p. original_in p (node_of p.syntax n)) w x (of_expansion (expanded_of e)) (stored_planted w x.tree e is)
    ∙ if_false (has_node e.tree n) (original_in (of_expansion (expanded_of e)) (node_of e.tree n)) None (le-ltb n (1 + node_count e.tree.children) past)
  where
    get_past : {A : Type 0} (xs : List A) (n : ℕ) → slice_get xs n ≡ None → length xs ≤ n
    get_past xs n none =
        elim (cases_lt n (length xs)) [
          | inl within ↦ absurd (some_element xs n within none)
          | inr past ↦ past
        ]
      where
        some_element : {A : Type 0} (xs : List A) (n : ℕ) → n < length xs → slice_get xs n ≡ None → ⊥
        some_element [] n h e = omega arith
        some_element (x ∷ xs) zero h e = cc
        some_element (x ∷ xs) (suc n) h e = some_element xs n (omega arith) e

pub original_of_file : (w : Workspace) (x : NodeId) (s : Syntax) → slice_get w.files x.tree ≡ Some s
    → original (trees w) x ≡ (if has_node s x.node.0 then Some (own_span s (node_of s x.node.0)) else None)
original_of_file w x s at =
    let within = slice_get_within w.files x.tree s at in
    told_in (λ p. original_in p (node_of p.syntax x.node.0)) w x (of_file s) (placed-file w x.tree within ∙ ap (option_map of_file) at)

none_planted : (w : Workspace) (t : ℕ) → (length w.files ≤ t → length w.files + length w.expansions ≤ t) → slice_get w.files t ≡ None → with_number (trees w) t ≡ None
none_planted w t free at =
    elim (cases_lt t (length w.files)) [
      | inl file ↦ placed-file w t file ∙ ap (option_map of_file) at
      | inr behind ↦ placed_past w t (free behind)
    ]

pub original_absent : (w : Workspace) (x : NodeId) → (length w.files ≤ x.tree → length w.files + length w.expansions ≤ x.tree)
    → slice_get w.files x.tree ≡ None → original (trees w) x ≡ None
original_absent w x free at =
    ap (option_and_then (λ q. if has_node q.syntax x.node.0 then original_in q (node_of q.syntax x.node.0) else None)) (none_planted w x.tree free at)

-- ** Where tokens come from.

-- there is an origin for each token, or the lack of it
pub stored_counted : (w : Workspace) (t : ℕ) (e : Stored) → IsBuilt w → IsStoredAt w t e → length e.origins.items ≡ token_count e.tree.children
stored_counted w t e built is =
    sym (length-map e.origins.items plain_origin)
    ∙ (all_at (HasOrigins (trees w)) w.expansions (t - length w.files) (expanded_of e) built.origins is.is).counted

run_in : (w : Workspace) (t : ℕ) (run : TokenRun) (p : PlacedTree) → with_number (trees w) t ≡ Some p
    → original_run (trees w) t run ≡ (if has_run p.syntax run then original_run_in p run else None)
run_in w t run p is = ap (option_and_then (λ q. if has_run q.syntax run then original_run_in q run else None)) is

pub run_covered : (w : Workspace) (t : ℕ) (e : Stored) (run : TokenRun) → IsStoredAt w t e → has_run e.tree run ≡ true
    → original_run (trees w) t run ≡ covered (cover_of (map plain_origin (slice_range e.origins.items run.first (run.first + run.count))))
run_covered w t e run is has =
    run_in w t run (of_expansion (expanded_of e)) (stored_planted w t e is)
    ∙ if_true (has_run e.tree run) (original_run_in (of_expansion (expanded_of e)) run) None has
    ∙ ap (λ origins. covered (cover_of (take run.count origins))) (drop-map plain_origin run.first e.origins.items)
    ∙ ap (λ origins. covered (cover_of origins)) (take-map plain_origin run.count (drop run.first e.origins.items))
    ∙ ap (λ n. covered (cover_of (map plain_origin (take n (drop run.first e.origins.items))))) (let counted : run.count ≡ run.first + run.count - run.first = omega arith in counted)

pub run_lacking : (w : Workspace) (t : ℕ) (e : Stored) (run : TokenRun) → IsStoredAt w t e → has_run e.tree run ≡ false → original_run (trees w) t run ≡ None
run_lacking w t e run is lacks =
    run_in w t run (of_expansion (expanded_of e)) (stored_planted w t e is)
    ∙ if_false (has_run e.tree run) (original_run_in (of_expansion (expanded_of e)) run) None lacks

pub run_of_file : (w : Workspace) (t : ℕ) (run : TokenRun) (s : Syntax) → slice_get w.files t ≡ Some s
    → original_run (trees w) t run ≡ (if has_run s run then Some (own_run_span s run) else None)
run_of_file w t run s at =
    run_in w t run (of_file s) (placed-file w t (slice_get_within w.files t s at) ∙ ap (option_map of_file) at)

pub run_absent : (w : Workspace) (t : ℕ) (run : TokenRun) → (length w.files ≤ t → length w.files + length w.expansions ≤ t)
    → slice_get w.files t ≡ None → original_run (trees w) t run ≡ None
run_absent w t run free at =
    ap (option_and_then (λ q. if has_run q.syntax run then original_run_in q run else None)) (none_planted w t free at)

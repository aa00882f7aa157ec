-- What is stored stays right where one expansion more is stored.
use Rattle.std.proofs.Common.{◌≡◌, ℕ, suc, ◌+◌, ◌-◌, ◌<◌, ◌≤◌, ◌==◌, ◌&&◌, Bool, true, false, cond, List, [], ◌∷◌, ◌++◌, length, map, slice_get, Option, Some, None, refl, sym, ap, ◌∙◌, subst, inl, inr, arith, eq-eqb, ne_eqb, le-ltb, lt-ltb}
use Rattle.std.proofs.lemmas.Bool.{cases_lt, cases_order, cases_Bool}
use Rattle.std.proofs.lemmas.List.{map-append, length-map, length-append}
use Rattle.std.proofs.lemmas.Option.{slice_get-map, slice_get_within, same_Some}
use Rattle.std.specs.BTreeMap.{BTreeMap, get, is_at}
use Rattle.std.specs.Map.{lookup}
use Rattle.std.specs.List.{position_from}
use Rattle.std.specs.Option.{option_map}
use Rattle.std.specs.Ordering.{nat_cmp, ordering_then, is_eq}
use Rattle.std.specs.declared.cmp.Ordering.{Ordering}
use Rattle.std.specs.declared.cmp.Ordering.TheVariants.{Less, Equal, Greater}
use Rattle.ssr_syntax_kinds.specs.declared.reach.Reach.{Reach}
use Rattle.ssr_syntax_tree.specs.Syntax.{Syntax}
use Rattle.ssr_base_trees.specs.declared.ids.NodeId.{NodeId}
use Rattle.ssr_base_trees.specs.contracts.ids.NodeIdOrd.TheImpl as id_order
use Rattle.ssr_base_trees.specs.declared.trees.Expanded.{Expanded as Stored}
use Rattle.ssr_base_trees.specs.Workspace.{Expanded, Workspace, of_expansion, trees, file_of, nesting, same_id, node_id, expansion_of}
use Rattle.ssr_base_trees.specs.Origins.{plain_origin}
use Rattle.ssr_base_trees.specs.Private.Covers.{AreCovers}
use Rattle.ssr_base_trees.specs.Built.{most_trees, most_nested, IsBuilt}
use Rattle.ssr_base_trees.specs.Growth.{IsOfCall}
use Rattle.ssr_base_trees.specs.declared.trees.Trees.TheInside.{Inside}
use Rattle.ssr_base_trees.specs.Private.Stored.{expanded_of, workspace_of, IsStoredAt, IsStored}
use Rattle.ssr_base_trees.proofs.Built.{built_expansion}
use Rattle.ssr_base_trees.proofs.Numbers.{same_nodes, slice_get-append_left, slice_get_push, length-trees, trees_more, file_of-earlier, nesting-earlier}

-- what the stored expansions show
abbrev pub shown : Reach → List Syntax → List Stored → Workspace
shown reach files es = record { reach = reach; files = files; expansions = map expanded_of es }

module _ (reach : Reach) (files : List Syntax) (es : List Stored) (new : Stored) where
  trees_shown : trees (shown reach files (es ++ new ∷ [])) ≡ of_expansion (expanded_of new) ∷ trees (shown reach files es)
  trees_shown =
      ap (λ (xs : List Expanded). trees (record { reach = reach; files = files; expansions = xs })) (map-append expanded_of es (new ∷ []))
      ∙ trees_more reach files (map expanded_of es) (expanded_of new)

  count_shown : length (trees (shown reach files es)) ≡ length files + length es
  count_shown = length-trees (shown reach files es) ∙ ap (λ n. length files + n) (length-map es expanded_of)

  file_of-old : (t : ℕ) → t < length files + length es → file_of (trees (shown reach files (es ++ new ∷ []))) t ≡ file_of (trees (shown reach files es)) t
  file_of-old t h =
      ap (λ ts. file_of ts t) trees_shown ∙ file_of-earlier (of_expansion (expanded_of new)) (trees (shown reach files es)) t (omega (arith, count_shown))

  nesting-old : (t : ℕ) → t < length files + length es → nesting (trees (shown reach files (es ++ new ∷ []))) t ≡ nesting (trees (shown reach files es)) t
  nesting-old t h =
      ap (λ ts. nesting ts t) trees_shown ∙ nesting-earlier (of_expansion (expanded_of new)) (trees (shown reach files es)) t (omega (arith, count_shown))

  file_of-new : (t : ℕ) → t ≡ length files + length es → file_of (trees (shown reach files (es ++ new ∷ []))) t ≡ file_of (trees (shown reach files es)) new.call.tree
  file_of-new t h =
      ap (λ ts. file_of ts t) trees_shown
      ∙ ap (λ b. cond b (file_of (trees (shown reach files es)) new.call.tree) (file_of (trees (shown reach files es)) t))
      (eq-eqb t (length (trees (shown reach files es))) (h ∙ sym count_shown))

  nesting-new : (t : ℕ) → t ≡ length files + length es → nesting (trees (shown reach files (es ++ new ∷ []))) t ≡ 1 + nesting (trees (shown reach files es)) new.call.tree
  nesting-new t h =
      ap (λ ts. nesting ts t) trees_shown
      ∙ ap (λ b. cond b (1 + nesting (trees (shown reach files es)) new.call.tree) (nesting (trees (shown reach files es)) t))
      (eq-eqb t (length (trees (shown reach files es))) (h ∙ sym count_shown))

  pub each_more : ((t : ℕ) (e : Stored) → length files ≤ t → slice_get es (t - length files) ≡ Some e → IsStoredAt (shown reach files es) t e)
      → AreCovers new.tree (map plain_origin new.origins.items) new.covers.items
      → new.file ≡ file_of (trees (shown reach files es)) new.call.tree
      → new.nesting ≡ nesting (trees (shown reach files es)) new.call.tree + 1
      → (t : ℕ) (e : Stored) → length files ≤ t → slice_get (es ++ new ∷ []) (t - length files) ≡ Some e → IsStoredAt (shown reach files (es ++ new ∷ [])) t e
  each_more each covers file nested t e behind is =
      elim (cases_lt (t - length files) (length es)) [
        | inl old ↦
            let before = each t e behind (sym (slice_get-append_left es (new ∷ []) (t - length files) old) ∙ is) in
            record {
              behind = behind;
              is = slice_get-map expanded_of (es ++ new ∷ []) (t - length files) ∙ ap (option_map expanded_of) is;
              covers = before.covers;
              file = before.file ∙ sym (file_of-old t (omega arith));
              nesting = before.nesting ∙ sym (nesting-old t (omega arith));
            }
        | inr late ↦
            let within = slice_get_within (es ++ new ∷ []) (t - length files) e is in
            let last : t - length files ≡ length es = omega (arith, length-append es (new ∷ [])) in
            let same : new ≡ e = same_Some new e (sym (slice_get_push es new) ∙ ap (slice_get (es ++ new ∷ [])) (sym last) ∙ is) in
            record {
              behind = behind;
              is = slice_get-map expanded_of (es ++ new ∷ []) (t - length files) ∙ ap (option_map expanded_of) is;
              covers = subst (λ (e : Stored). AreCovers e.tree (map plain_origin e.origins.items) e.covers.items) same covers;
              file = ap (λ (e : Stored). e.file) (sym same) ∙ file ∙ sym (file_of-new t (omega arith));
              nesting =
                  let more : nesting (trees (shown reach files es)) new.call.tree + 1 ≡ 1 + nesting (trees (shown reach files es)) new.call.tree = omega arith in
                  ap (λ (e : Stored). e.nesting) (sym same) ∙ nested ∙ more ∙ sym (nesting-new t (omega arith));
            }
      ]

-- ** The expansions by their calls.

position_found : {A : Type 0} (test : A → Bool) (i n : ℕ) (xs ys : List A) → position_from test i xs ≡ Some n → position_from test i (xs ++ ys) ≡ Some n
position_found test i n [] ys is = cc
position_found test i n (x ∷ xs) ys is = step (test x) (position_from test (i + 1) xs) (position_from test (i + 1) (xs ++ ys)) (position_found test (i + 1) n xs ys) is
  where
    step : (b : Bool) (front whole : Option ℕ) → (front ≡ Some n → whole ≡ Some n) → cond b (Some i) front ≡ Some n → cond b (Some i) whole ≡ Some n
    step true front whole later h = h
    step false front whole later h = later h

position_none : {A : Type 0} (test : A → Bool) (i : ℕ) (xs ys : List A) → position_from test i xs ≡ None → position_from test i (xs ++ ys) ≡ position_from test (i + length xs) ys
position_none test i [] ys is = ap (λ n. position_from test n ys) (let same : i ≡ i + 0 = omega arith in same)
position_none test i (x ∷ xs) ys is =
    let next : i + 1 + length xs ≡ i + suc (length xs) = omega arith in
    step (test x) (position_from test (i + 1) xs) (position_from test (i + 1) (xs ++ ys)) (position_from test (i + 1 + length xs) ys) (position_none test (i + 1) xs ys) is
    ∙ ap (λ n. position_from test n ys) next
  where
    step : (b : Bool) (front whole behind : Option ℕ) → (front ≡ None → whole ≡ behind) → cond b (Some i) front ≡ None → cond b (Some i) whole ≡ behind
    step true front whole behind later h = cc
    step false front whole behind later h = later h

-- the order of nodes tells which are the same
is_eq-then : (o p : Ordering) → is_eq (ordering_then o p) ≡ (is_eq o && is_eq p)
is_eq-then Less p = refl
is_eq-then Equal p = refl
is_eq-then Greater p = refl

is_eq-nat_cmp : (x y : ℕ) → is_eq (nat_cmp x y) ≡ (y == x)
is_eq-nat_cmp x y =
    elim (cases_order x y) [
      | inl same ↦
          rw (le-ltb x y (omega arith)) (rw (eq-eqb x y same) (sym (eq-eqb y x (sym same))))
      | inr apart ↦
          elim apart [
            | inl less ↦ rw (lt-ltb x y less) (sym (ne_eqb y x (λ e. omega arith)))
            | inr more ↦ rw (le-ltb x y (omega arith)) (rw (ne_eqb x y (λ e. omega arith)) (sym (ne_eqb y x (λ e. omega arith))))
          ]
    ]

same_by_order : (a b : NodeId) → is_eq ((id_order.ghosts).cmp a b) ≡ same_id b a
same_by_order a b =
    is_eq-then (nat_cmp a.tree b.tree) (nat_cmp a.node.0 b.node.0)
    ∙ ap (λ c. c && is_eq (nat_cmp a.node.0 b.node.0)) (is_eq-nat_cmp a.tree b.tree)
    ∙ ap (λ c. (b.tree == a.tree) && c) (is_eq-nat_cmp a.node.0 b.node.0)

-- the place of a node's expansion among those that are stored
abbrev pub place_of : NodeId → List Stored → Option ℕ
place_of q es = position_from (λ e. same_id q e.call) 0 (map expanded_of es)

place_more : (q : NodeId) (es : List Stored) (new : Stored) → place_of new.call es ≡ None
    → place_of q (es ++ new ∷ []) ≡ cond (same_id q new.call) (Some (length es)) (place_of q es)
place_more q es new free =
    ap (position_from test 0) (map-append expanded_of es (new ∷ []))
    ∙ elim (cases_Bool (same_id q new.call)) [
      | inl same ↦
          let none : place_of q es ≡ None = ap (λ c. place_of c es) (same_nodes q new.call same) ∙ free in
          position_none test 0 (map expanded_of es) (expanded_of new ∷ []) none
          ∙ ap (λ n. cond (same_id q new.call) (Some n) None) count
          ∙ ap (λ b. cond b (Some (length es)) None) same
          ∙ sym (ap (λ b. cond b (Some (length es)) (place_of q es)) same)
      | inr other ↦ at_other other (place_of q es) refl ∙ sym (ap (λ b. cond b (Some (length es)) (place_of q es)) other)
    ]
  where
    test : Expanded → Bool
    test e = same_id q e.call

    count : 0 + length (map expanded_of es) ≡ length es
    count = omega (arith, length-map es expanded_of)

    at_other : same_id q new.call ≡ false → (o : Option ℕ) → place_of q es ≡ o → position_from test 0 (map expanded_of es ++ expanded_of new ∷ []) ≡ place_of q es
    at_other other None is =
        position_none test 0 (map expanded_of es) (expanded_of new ∷ []) is
        ∙ ap (λ b. cond b (Some (0 + length (map expanded_of es))) None) other
        ∙ sym is
    at_other other (Some n) is = position_found test 0 n (map expanded_of es) (expanded_of new ∷ []) is ∙ sym is

pub calls_more : (calls more : BTreeMap NodeId ℕ) (es : List Stored) (new : Stored) (number : ℕ)
    → ((q : NodeId) → get ((id_order.ghosts).cmp) calls q ≡ place_of q es)
    → ((q : NodeId) → get ((id_order.ghosts).cmp) more q ≡ cond (is_at ((id_order.ghosts).cmp new.call) q) (Some number) (get ((id_order.ghosts).cmp) calls q))
    → number ≡ length es → place_of new.call es ≡ None → (q : NodeId) → get ((id_order.ghosts).cmp) more q ≡ place_of q (es ++ new ∷ [])
calls_more calls more es new number each updates is free q =
    updates q
    ∙ ap (λ b. cond b (Some number) (get ((id_order.ghosts).cmp) calls q)) (same_by_order new.call q)
    ∙ ap (λ n. cond (same_id q new.call) (Some n) (get ((id_order.ghosts).cmp) calls q)) is
    ∙ ap (cond (same_id q new.call) (Some (length es))) (each q)
    ∙ sym (place_more q es new free)

-- a call without an expansion has no place
pub no_place : (reach : Reach) (files : List Syntax) (es : List Stored) (call : NodeId) → expansion_of (shown reach files es) call ≡ None → place_of call es ≡ None
no_place reach files es call none = placed (place_of call es) none
  where
    placed : (o : Option ℕ) → option_map (λ n. node_id (length files + n) 0) o ≡ None → o ≡ None
    placed None e = refl
    placed (Some n) e = cc

-- ** All of it.

-- what holds of what is stored holds where the same is stored
pub stored_same : (a b : Inside) → IsStored a → b.reach ≡ a.reach → b.files.items ≡ a.files.items → b.expansions.items ≡ a.expansions.items → b.calls.entries ≡ a.calls.entries → IsStored b
stored_same a b stored reaches files expansions calls =
    let Each : Reach → List Syntax → List Stored → Type 0 = λ r fs es. (t : ℕ) (e : Stored) → length fs ≤ t → slice_get es (t - length fs) ≡ Some e → IsStoredAt (shown r fs es) t e in
    let view : workspace_of b ≡ workspace_of a =
    ap (λ (r : Reach). shown r b.files.items b.expansions.items) reaches
    ∙ ap (λ (fs : List Syntax). shown a.reach fs b.expansions.items) files ∙ ap (shown a.reach a.files.items) expansions in
    record {
      built = subst IsBuilt (sym view) stored.built;
      few = omega (arith, ap length files, ap length expansions, stored.few);
      each =
          subst (λ (r : Reach). Each r b.files.items b.expansions.items) (sym reaches)
          (subst (λ (fs : List Syntax). Each a.reach fs b.expansions.items) (sym files)
          (subst (Each a.reach a.files.items) (sym expansions) stored.each));
      calls = λ q.
          ap (λ (entries : List (NodeId × ℕ)). lookup (is_at ((id_order.ghosts).cmp q)) entries) calls
          ∙ stored.calls q
          ∙ ap (place_of q) (sym expansions);
    }

pub stored_more : (a b : Inside) (w : Workspace) (new : Stored) (number : ℕ) → IsStored a → workspace_of a ≡ w
    → b.reach ≡ a.reach → b.files.items ≡ a.files.items → b.expansions.items ≡ a.expansions.items ++ new ∷ []
    → ((q : NodeId) → get ((id_order.ghosts).cmp) b.calls q ≡ cond (is_at ((id_order.ghosts).cmp new.call) q) (Some number) (get ((id_order.ghosts).cmp) a.calls q))
    → length w.files + length w.expansions < most_trees → expansion_of w new.call ≡ None → nesting (trees w) new.call.tree < most_nested → IsOfCall w (expanded_of new)
    → AreCovers new.tree (map plain_origin new.origins.items) new.covers.items
    → new.file ≡ file_of (trees w) new.call.tree → new.nesting ≡ nesting (trees w) new.call.tree + 1 → number ≡ length w.expansions → IsStored b
stored_more a b w new number stored view reaches files expansions updates room free deep of_call covers file nested is = record {
  built = subst IsBuilt (sym grown) (built_expansion w (expanded_of new) (omega arith) (subst IsBuilt view stored.built) of_call free (omega arith));
  few = omega (arith, ap length files, ap length expansions, length-append es (new ∷ []), count, ap (λ w. length w.files) view, room);
  each =
      subst (λ (r : Reach). Each r b.files.items b.expansions.items) (sym reaches)
      (subst (λ (fs : List Syntax). Each a.reach fs b.expansions.items) (sym files)
      (subst (Each a.reach a.files.items) (sym expansions)
      (each_more a.reach a.files.items es new stored.each covers
      (file ∙ ap (λ w. file_of (trees w) new.call.tree) (sym view))
      (nested ∙ ap (λ w. nesting (trees w) new.call.tree + 1) (sym view)))));
  calls = λ q.
      calls_more a.calls b.calls es new number stored.calls updates (is ∙ sym count) (no_place a.reach a.files.items es new.call (ap (λ w. expansion_of w new.call) view ∙ free)) q
      ∙ ap (place_of q) (sym expansions);
}
  where
    es : List Stored
    es = a.expansions.items

    -- what is stored then is the workspace with the expansion
    grown : workspace_of b ≡ record { reach = w.reach; files = w.files; expansions = w.expansions ++ expanded_of new ∷ [] }
    grown =
        ap (λ (r : Reach). shown r b.files.items b.expansions.items) reaches
        ∙ ap (λ (fs : List Syntax). shown a.reach fs b.expansions.items) files
        ∙ ap (shown a.reach a.files.items) expansions
        ∙ ap (λ (xs : List Expanded). record { reach = a.reach; files = a.files.items; expansions = xs }) (map-append expanded_of es (new ∷ []))
        ∙ ap (λ (old : Workspace). record { reach = old.reach; files = old.files; expansions = old.expansions ++ expanded_of new ∷ [] }) view

    count : length es ≡ length w.expansions
    count = sym (length-map es expanded_of) ∙ ap (λ w. length w.expansions) view

    Each : Reach → List Syntax → List Stored → Type 0
    Each r fs xs = (t : ℕ) (e : Stored) → length fs ≤ t → slice_get xs (t - length fs) ≡ Some e → IsStoredAt (shown r fs xs) t e

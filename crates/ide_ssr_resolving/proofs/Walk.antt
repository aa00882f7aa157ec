-- The walk over a tree: by numbers, what it has come to, and that this is what is defined.
use Rattle.std.proofs.Common.{◌≡◌, ℕ, zero, suc, ◌+◌, ◌<◌, ◌≤◌, Bool, true, false, ◌&&◌, not, List, [], ◌∷◌, ◌++◌, All, length, take, drop, take-append-drop, get_or, Some, None, Result, Ok, Err, refl, sym, ap, ◌∙◌, subst, arith, inl, inr, append-nil}
use Rattle.std.proofs.lemmas.Bool.{and_parts, cases_eq, cases_lt, ltb-true, lt-ltb}
use Rattle.std.proofs.lemmas.List.{take_all, take_more, get_or_default}
use Rattle.std.proofs.lemmas.List.Elements.{All-append, All-cons, All-nil, filter-append, filter_map-append}
use Rattle.std.proofs.lemmas.List.Folds.{find-append, list_any_none, list_any-from_Any}
use Rattle.std.specs.Prelude.{nat_lt, cond}
use Rattle.std.specs.List.{filter, filter_map, find, cons_option}
use Rattle.std.specs.Option.{option_map, option_map_or, option_or}
use Rattle.ssr_base_trees.specs.declared.ids.ScopeId.{ScopeId}
use Rattle.ssr_base_trees.specs.declared.semantics.Res.{Res}
use Rattle.ssr_base_trees.specs.Meanings.{Meanings}
use Rattle.ssr_syntax_tree.specs.declared.number.NodeNo.{NodeNo}
use Rattle.ssr_syntax_tree.specs.Places.{Node, HasNode, node_of, nodes_of, root_of, size_of}
use Rattle.ssr_syntax_tree.specs.Syntax.{Syntax, node_count}
use Rattle.ssr_syntax_tree.proofs.Shared.{node_is, node_of-number, length-nodes_of, IsOver, inside, over_within}
use Rattle.ide_ssr_resolving.specs.declared.used.Step.{Step}
use Rattle.ide_ssr_resolving.specs.declared.used.Step.TheVariants as steps
use Rattle.ide_ssr_resolved_rule.specs.declared.used_paths.UsedPath.{UsedPath}
use Rattle.ide_ssr_resolving.specs.Private.Steps.{step_of}
use Rattle.ide_ssr_resolving.specs.Used.{is_above, is_unresolved, use_of, stops, is_reached, reached, used_at, used_path, refused, used_paths}
use Rattle.ide_ssr_resolving.proofs.Steps.{Says, says}

-- ** Truth values.

not_both : (a b : Bool) → (a ≡ true → b ≡ true → ⊥) → (a && b) ≡ false
not_both false b never = refl
not_both true false never = refl
not_both true true never = absurd (never refl refl)

abbrev pub path_at : ℕ → Res → UsedPath
path_at n res = record { node = record { 0 = n }; res = res }

abbrev pub refused_at : ℕ → Result (List UsedPath) NodeNo
refused_at n = Err (record { 0 = n })

-- ** One node more.

module _ {X : Type 0} (p : X → Bool) where
  kept : (xs : List X) (x : X) → p x ≡ true → filter p (xs ++ x ∷ []) ≡ filter p xs ++ x ∷ []
  kept xs x is = filter-append p xs (x ∷ []) ∙ ap (λ b. filter p xs ++ cond b (x ∷ []) []) is

  left_out : (xs : List X) (x : X) → p x ≡ false → filter p (xs ++ x ∷ []) ≡ filter p xs
  left_out xs x is =
      filter-append p xs (x ∷ []) ∙ ap (λ b. filter p xs ++ cond b (x ∷ []) []) is ∙ append-nil (filter p xs)

node_more : (s : Syntax) (n : ℕ) → HasNode s n → take (n + 1) (nodes_of s) ≡ take n (nodes_of s) ++ node_of s n ∷ []
node_more s n has =
    take_more (nodes_of s) n (root_of s) (omega (arith, has, length-nodes_of s)) ∙ ap (λ x. take n (nodes_of s) ++ x ∷ []) (sym (node_is s n has))

module _ (m : Meanings) (scope : ScopeId) (names : List (List ℕ)) (s : Syntax) where
  -- what stops the walk in front of a number doesn't reach past it
  abbrev pub EndsBy : ℕ → Type 0
  EndsBy next = (k : ℕ) → k < next → stops m scope names (node_of s k) ≡ true → k + size_of (node_of s k) ≤ next

  abbrev pub reached_before : ℕ → List Node
  reached_before next = filter (is_reached m scope names s) (take next (nodes_of s))

  -- ** Which nodes are reached.

  above_is : (k n : ℕ) → HasNode s k → HasNode s n → is_above (node_of s k) (node_of s n) ≡ true → IsOver s k n
  above_is k n has other is =
      let a = node_of s k in
      let b = node_of s n in
      let p = and_parts (nat_lt a.number b.number) (nat_lt b.number (a.number + size_of a)) is in
      let low = ltb-true a.number b.number p.0 in
      let high = ltb-true b.number (a.number + size_of a) p.1 in
      (omega (arith, low, node_of-number s k has, node_of-number s n other), omega (arith, high, node_of-number s k has, node_of-number s n other))

  is_above_it : (k n : ℕ) → HasNode s k → HasNode s n → IsOver s k n → is_above (node_of s k) (node_of s n) ≡ true
  is_above_it k n has other over =
      let a = node_of s k in
      let b = node_of s n in
      let low : a.number < b.number = omega (arith, over.0, node_of-number s k has, node_of-number s n other) in
      let high : b.number < a.number + size_of a = omega (arith, over.1, node_of-number s k has, node_of-number s n other) in
      ap (λ c. c && nat_lt b.number (a.number + size_of a)) (lt-ltb a.number b.number low) ∙ lt-ltb b.number (a.number + size_of a) high

  reached_next : (n : ℕ) → HasNode s n → EndsBy n → is_reached m scope names s (node_of s n) ≡ true
  reached_next n has ends =
      let hides : Node → Bool = λ upper. is_above upper (node_of s n) && stops m scope names upper in
      ap not
      (list_any_none hides (nodes_of s)
      (λ k d within.
      let has_k : HasNode s k = omega (arith, within, length-nodes_of s) in
      let is : node_of s k ≡ get_or (nodes_of s) k d = node_is s k has_k ∙ get_or_default (nodes_of s) k (root_of s) d within in
      subst (λ x. hides x ≡ false) is
      (not_both (is_above (node_of s k) (node_of s n)) (stops m scope names (node_of s k))
      (λ above stopped.
      let over = above_is k n has_k has above in
      let end = ends k over.0 stopped in
      let high = over.1 in
      omega arith))))

  pub hidden : (a n : ℕ) → HasNode s a → IsOver s a n → stops m scope names (node_of s a) ≡ true → is_reached m scope names s (node_of s n) ≡ false
  hidden a n has over stopped =
      let hides : Node → Bool = λ upper. is_above upper (node_of s n) && stops m scope names upper in
      let within : a < length (nodes_of s) = omega (arith, has, length-nodes_of s) in
      ap not
      (list_any-from_Any hides (nodes_of s) (
        a,
        node_of s a,
        within,
        get_or_default (nodes_of s) a _ (root_of s) within ∙ sym (node_is s a has),
        ap (λ c. c && stops m scope names (node_of s a)) (is_above_it a n has (over_within s a n has over) over) ∙ stopped,
      ))

  -- below a node that stops the walk none is reached
  none_below : (n : ℕ) → HasNode s n → stops m scope names (node_of s n) ≡ true → (j : ℕ) → j < size_of (node_of s n)
      → reached_before (n + 1 + j) ≡ reached_before (n + 1)
  none_below n has stopped zero few = ap reached_before (let same : n + 1 + 0 ≡ n + 1 = omega arith in same)
  none_below n has stopped (suc j) few =
      let k = n + 1 + j in
      let over : IsOver s n k = (omega arith, omega (arith, few)) in
      let has_k = over_within s n k has over in
      ap reached_before (let same : n + 1 + suc j ≡ k + 1 = omega arith in same)
      ∙ ap (filter (is_reached m scope names s)) (node_more s k has_k)
      ∙ left_out (is_reached m scope names s) (take k (nodes_of s)) (node_of s k) (hidden n k has over stopped)
      ∙ none_below n has stopped j (omega (arith, few))

  -- ** The walk.

  -- in front of this number these are used, and no path is refused
  pub record Walked (next : ℕ) (paths : List UsedPath) : Type 0 where
    pub ends : EndsBy next
    pub used : paths ≡ filter_map (used_at m scope names) (reached_before next)
    pub resolved : find (is_unresolved m scope names) (reached_before next) ≡ None
    pub has : All (λ (path : UsedPath). HasNode s path.node.0) paths

  reached_more : (n : ℕ) → HasNode s n → EndsBy n → reached_before (n + 1) ≡ reached_before n ++ node_of s n ∷ []
  reached_more n has ends =
      ap (filter (is_reached m scope names s)) (node_more s n has)
      ∙ kept (is_reached m scope names s) (take n (nodes_of s)) (node_of s n) (reached_next n has ends)

  -- of a node that isn't refused: those that are used, with it
  with_node : (n : ℕ) (paths new : List UsedPath) (past : ℕ) → HasNode s n → Walked n paths → reached_before past ≡ reached_before (n + 1) → EndsBy past
      → new ≡ paths ++ cons_option (used_at m scope names (node_of s n)) [] → is_unresolved m scope names (node_of s n) ≡ false
      → All (λ (path : UsedPath). HasNode s path.node.0) new → Walked past new
  with_node n paths new past has walked same ends is resolved all =
      let node = node_of s n in
      let more = reached_more n has walked.ends in
      record {
        ends = ends;
        used = is ∙ ap (λ before. before ++ cons_option (used_at m scope names node) []) walked.used
            ∙ sym (filter_map-append (used_at m scope names) (reached_before n) (node ∷ []))
            ∙ ap (filter_map (used_at m scope names)) (sym more ∙ sym same);
        resolved = ap (find (is_unresolved m scope names)) (same ∙ more)
            ∙ find-append (is_unresolved m scope names) (reached_before n) (node ∷ [])
            ∙ ap (λ first. option_or first (find (is_unresolved m scope names) (node ∷ []))) walked.resolved
            ∙ ap (λ b. cond b (Some node) None) resolved;
        has = all;
      }

  ends_more : (n : ℕ) → EndsBy n → stops m scope names (node_of s n) ≡ false → EndsBy (n + 1)
  ends_more n ends goes k less stopped =
      elim (cases_eq k n) [
        | inl same ↦ absurd (let wrong : true ≡ false = sym stopped ∙ ap (λ k. stops m scope names (node_of s k)) same ∙ goes in cc)
        | inr other ↦ let before = ends k (omega (arith, less, other)) stopped in omega arith
      ]

  ends_past : (n : ℕ) → HasNode s n → EndsBy n → EndsBy (n + size_of (node_of s n))
  ends_past n has ends k less stopped =
      elim (cases_eq k n) [
        | inl same ↦ let size : size_of (node_of s k) ≡ size_of (node_of s n) = ap (λ k. size_of (node_of s k)) same in omega arith
        | inr other ↦ elim (cases_lt k n) [
          | inl low ↦ let before = ends k low stopped in omega arith
          | inr high ↦ (inside s n k has (omega (arith, high, other), less)).ends
        ]
      ]

  same_past : (n : ℕ) → HasNode s n → stops m scope names (node_of s n) ≡ true → reached_before (n + size_of (node_of s n)) ≡ reached_before (n + 1)
  same_past n has stopped =
      let below = node_count (node_of s n).children in
      ap reached_before (let same : n + size_of (node_of s n) ≡ n + 1 + below = omega arith in same) ∙ none_below n has stopped below (omega arith)

  told : (n : ℕ) (step : Step) → step ≡ step_of m scope names (node_of s n)
      → Says step (use_of m scope names (node_of s n)) (stops m scope names (node_of s n)) (is_unresolved m scope names (node_of s n))
  told n step is =
      let node = node_of s n in
      subst (λ step. Says step (use_of m scope names node) (stops m scope names node) (is_unresolved m scope names node)) (sym is) (says m scope names node)

  unused : (n : ℕ) (paths : List UsedPath) → use_of m scope names (node_of s n) ≡ None → paths ≡ paths ++ cons_option (used_at m scope names (node_of s n)) []
  unused n paths none =
      sym (append-nil paths)
      ∙ ap (λ taken. paths ++ cons_option (option_map (used_path (node_of s n)) taken) []) (sym none)

  pub walked_enter : (n : ℕ) (paths : List UsedPath) → HasNode s n → Walked n paths → steps.Enter ≡ step_of m scope names (node_of s n) → Walked (n + 1) paths
  walked_enter n paths has walked is =
      let t = told n steps.Enter is in
      with_node n paths paths (n + 1) has walked refl (ends_more n walked.ends t.1) (unused n paths t.0) t.2 walked.has

  pub walked_pass : (n past : ℕ) (paths : List UsedPath) → HasNode s n → Walked n paths → steps.Pass ≡ step_of m scope names (node_of s n)
      → past ≡ n + size_of (node_of s n) → Walked past paths
  walked_pass n past paths has walked is end =
      let t = told n steps.Pass is in
      subst (λ past. Walked past paths) (sym end)
      (with_node n paths paths (n + size_of (node_of s n)) has walked (same_past n has t.1) (ends_past n has walked.ends) (unused n paths t.0) t.2 walked.has)

  pub walked_use : (n past : ℕ) (paths new : List UsedPath) (res : Res) → HasNode s n → Walked n paths → steps.Use res ≡ step_of m scope names (node_of s n)
      → past ≡ n + size_of (node_of s n) → new ≡ paths ++ path_at n res ∷ [] → Walked past new
  walked_use n past paths new res has walked is end pushed =
      let t = told n (steps.Use res) is in
      let HasIt : UsedPath → Type 0 = λ path. HasNode s path.node.0 in
      let added : new ≡ paths ++ cons_option (used_at m scope names (node_of s n)) [] =
      pushed
      ∙ ap (λ number. paths ++ path_at number res ∷ []) (sym (node_of-number s n has))
      ∙ ap (λ taken. paths ++ cons_option (option_map (used_path (node_of s n)) taken) []) (sym t.0) in
      subst (λ past. Walked past new) (sym end)
      (with_node n paths new (n + size_of (node_of s n)) has walked (same_past n has t.1) (ends_past n has walked.ends) added t.2
      (subst (All HasIt) (sym pushed) (All-append HasIt paths _ walked.has (All-cons HasIt _ [] has (All-nil HasIt)))))

  -- ** What is answered.

  take_split : (n : ℕ) → (rest : List Node) × (reached m scope names s ≡ reached_before (n + 1) ++ rest)
  take_split n =
      let nodes = nodes_of s in (
        filter (is_reached m scope names s) (drop (n + 1) nodes),
        ap (filter (is_reached m scope names s)) (sym (take-append-drop (n + 1) nodes))
            ∙ filter-append (is_reached m scope names s) (take (n + 1) nodes) (drop (n + 1) nodes),
      )

  pub walked_refuse : (n : ℕ) (paths : List UsedPath) → HasNode s n → Walked n paths → steps.Refuse ≡ step_of m scope names (node_of s n)
      → used_paths m scope names s ≡ refused_at n
  unfolding used_paths
  walked_refuse n paths has walked is =
      let unresolved = is_unresolved m scope names in
      let node = node_of s n in
      let t = told n steps.Refuse is in
      let split = take_split n in
      let found : find unresolved (reached m scope names s) ≡ Some node =
      ap (find unresolved) (split.1 ∙ ap (λ front. front ++ split.0) (reached_more n has walked.ends))
      ∙ find-append unresolved (reached_before n ++ node ∷ []) split.0
      ∙ ap (λ first. option_or first (find unresolved split.0))
      (find-append unresolved (reached_before n) (node ∷ [])
      ∙ ap (λ first. option_or first (find unresolved (node ∷ []))) walked.resolved
      ∙ ap (λ b. cond b (Some node) None) t) in
      ap (λ first. option_map_or refused first (Ok (filter_map (used_at m scope names) (reached m scope names s)))) found
      ∙ ap refused_at (node_of-number s n has)

  pub walked_all : (n : ℕ) (paths : List UsedPath) → 1 + node_count s.children ≤ n → Walked n paths → used_paths m scope names s ≡ Ok paths
  unfolding used_paths
  walked_all n paths all walked =
      let every : reached_before n ≡ reached m scope names s =
      ap (filter (is_reached m scope names s)) (take_all n (nodes_of s) (omega (arith, all, length-nodes_of s))) in
      ap (λ first. option_map_or refused first (Ok (filter_map (used_at m scope names) (reached m scope names s))))
      (ap (find (is_unresolved m scope names)) (sym every) ∙ walked.resolved)
      ∙ ap (λ found. Ok (filter_map (used_at m scope names) found)) (sym every)
      ∙ ap Ok (sym walked.used)

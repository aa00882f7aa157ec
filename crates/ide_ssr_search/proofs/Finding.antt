-- What a search has found, step by step.
use Rattle.std.proofs.Common.{Bool, true, false, ◌≡◌, ℕ, ◌+◌, ◌<◌, ◌≤◌, List, [], ◌∷◌, ◌++◌, length, get_or, Option, Some, None, refl, sym, ap, ◌∙◌, subst, inl, inr, ◌⊎◌, arith, append-nil}
use Rattle.std.specs.Prelude.{◌↔◌, IsTrue, not, slice_get, replicate, Contains}
use Rattle.std.specs.Option.{option_map}
use Rattle.std.proofs.lemmas.Bool.{cases_lt}
use Rattle.std.proofs.lemmas.List.Elements.{All-nil, All-push, All-weaker, All-contains, Contains-append_left, Contains-push}
use Rattle.std.proofs.lemmas.List.{length-replicate, get_or-replicate}
use Rattle.std.proofs.lemmas.List.Quantifiers.{all_pairs_push}
use Rattle.std.proofs.lemmas.Option.{none-some, same_Some, slice_get_within, slice_get-get_or}
use Rattle.ssr_syntax_tree.specs.Syntax.{Syntax, node_count}
use Rattle.ssr_syntax_tree.specs.Places.{HasNode}
use Rattle.ssr_base_trees.specs.declared.ids.NodeId.{NodeId}
use Rattle.ssr_base_trees.specs.Meanings.{Meanings}
use Rattle.ssr_base_trees.specs.Workspace.{Workspace, PlacedTree, trees, with_number, tree_of, node_id}
use Rattle.ide_ssr_resolved_rule.specs.Resolved.{ResolvedRule}
use Rattle.ide_ssr_bindings.specs.declared.bindings.Binding.{Binding}
use Rattle.ide_ssr_bindings.specs.Found.{FoundMatch}
use Rattle.ide_ssr_nesting.specs.Kept.{LiesInPlaceholder, IsShadowed, AreEnough}
use Rattle.ide_ssr_nesting.proofs.Shared.{lies_at_node}
use Rattle.ide_ssr_search.specs.Context.{Context}
use Rattle.ide_ssr_search.specs.Permitted.{IsOpen, IsPermitted}
use Rattle.ide_ssr_search.specs.WholeMatches.{IsWholeMatch}
use Rattle.ide_ssr_search.specs.Found.{IsFound, IsWanted, IsFoundOf, Precedes, AreFound}
use Rattle.ide_ssr_search.specs.Private.Scan.{IsBefore, AreFoundBut, AreFoundBefore, ShadowLater, TellsMatch, found_of, Adds}
use Rattle.ssr_syntax_tree.proofs.Lists.{pairs_none}
use Rattle.ide_ssr_search.proofs.Placed.{whole_binds}
use Rattle.ssr_base_trees.proofs.Shared.{some_and, placed_within, placed_there}
use Rattle.ide_ssr_bindings.proofs.Shared.{is_tree, in_tree}

-- ** Order.

before_rule : (t n r : ℕ) (m : FoundMatch) → IsBefore t n r m → IsBefore t n (r + 1) m
before_rule t n r m (inl tree) = inl tree
before_rule t n r m (inr same) = inr (same.0, elim same.1 [ inl node ↦ inl node | inr here ↦ let low = here.1 in inr (here.0, omega arith) ])

any_rule : (t n r : ℕ) (m : FoundMatch) → IsBefore t n 0 m → IsBefore t n r m
any_rule t n r m (inl tree) = inl tree
any_rule t n r m (inr same) = inr (same.0, elim same.1 [ inl node ↦ inl node | inr none ↦ absurd (omega (arith, none.1)) ])

before_node : (t n r : ℕ) (m : FoundMatch) → IsBefore t n r m → IsBefore t (n + 1) 0 m
before_node t n r m (inl tree) = inl tree
before_node t n r m (inr same) = inr (same.0, inl (elim same.1 [ inl node ↦ omega arith | inr here ↦ let e = here.0 in omega arith ]))

before_tree : (t n r : ℕ) (m : FoundMatch) → IsBefore t n r m → IsBefore (t + 1) 0 0 m
before_tree t n r m (inl tree) = inl (omega arith)
before_tree t n r m (inr same) = let e = same.0 in inl (omega arith)

-- a match before the next rule at a node comes before the rule, or is one of it there
rule_cases : (t n r : ℕ) (m : FoundMatch) → IsBefore t n (r + 1) m → IsBefore t n r m ⊎ ((m.node.tree ≡ t) × (m.node.node.0 ≡ n) × (m.rule ≡ r))
rule_cases t n r m (inl tree) = inl (inl tree)
rule_cases t n r m (inr same) =
    elim same.1 [
      | inl node ↦ inl (inr (same.0, inl node))
      | inr here ↦
          elim (cases_lt m.rule r) [
            | inl low ↦ inl (inr (same.0, inr (here.0, low)))
            | inr high ↦ inr (same.0, here.0, let less = here.1 in omega arith)
          ]
    ]

node_cases : (t n : ℕ) (m : FoundMatch) → IsBefore t (n + 1) 0 m → IsBefore t n 0 m ⊎ ((m.node.tree ≡ t) × (m.node.node.0 ≡ n))
node_cases t n m (inl tree) = inl (inl tree)
node_cases t n m (inr same) =
    elim same.1 [
      | inl node ↦
          elim (cases_lt m.node.node.0 n) [
            | inl low ↦ inl (inr (same.0, inl low))
            | inr high ↦ inr (same.0, omega arith)
          ]
      | inr none ↦ absurd (omega (arith, none.1))
    ]

tree_cases : (t : ℕ) (m : FoundMatch) → IsBefore (t + 1) 0 0 m → (m.node.tree < t) ⊎ (m.node.tree ≡ t)
tree_cases t m (inl tree) = elim (cases_lt m.node.tree t) [ inl low ↦ inl low | inr high ↦ inr (omega arith) ]
tree_cases t m (inr same) = elim same.1 [ inl none ↦ absurd (omega arith) | inr none ↦ absurd (omega (arith, none.1)) ]

pub at_id : (t n : ℕ) (x : NodeId) → x.tree ≡ t → x.node.0 ≡ n → x ≡ node_id t n
at_id t n x tree node = ap (λ t. node_id t x.node.0) tree ∙ ap (node_id t) node

-- ** Matches of one rule at one node.

module _ (w : Workspace) (meanings : Meanings) (context : Context) (rules : List ResolvedRule) where
  here_rule : (place : ℕ) (rule : ResolvedRule) (f : FoundMatch) (is : IsFound w meanings context rules f) → slice_get rules place ≡ Some rule → f.rule ≡ place → is.rule ≡ rule
  here_rule place rule f is at same = same_Some is.rule rule (sym is.is_rule ∙ ap (slice_get rules) same ∙ at)

  -- the match of a rule at a node
  here_found : (t n place : ℕ) (rule : ResolvedRule) (f : FoundMatch) → slice_get rules place ≡ Some rule → IsFound w meanings context rules f
      → f.node.tree ≡ t → f.node.node.0 ≡ n → f.rule ≡ place → IsPermitted w context rule (node_id t n) × IsWholeMatch (trees w) meanings rule (node_id t n) f.bindings
  here_found t n place rule f at is tree node same =
      let x = at_id t n f.node tree node in
      let by = here_rule place rule f is at same in (
        subst (λ rule. IsPermitted w context rule (node_id t n)) by (subst (IsPermitted w context is.rule) x is.permitted),
        subst (λ rule. IsWholeMatch (trees w) meanings rule (node_id t n) f.bindings) by (subst (λ x. IsWholeMatch (trees w) meanings is.rule x f.bindings) x is.whole),
      )

  -- a rule has one match at a node
  pub one_match : (f g : FoundMatch) → IsFound w meanings context rules f → IsFound w meanings context rules g → f.node ≡ g.node → f.rule ≡ g.rule → f ≡ g
  one_match f g is other node rule =
      let x = g.node in
      let at = some_and (with_number (trees w) x.tree) (λ p. HasNode p.syntax x.node.0) other.permitted.open_to_all.node in
      let s = at.0.syntax in
      let tree : tree_of w x.tree ≡ Some s = ap (option_map (λ (p : PlacedTree). p.syntax)) at.1 in
      let known = here_found x.tree x.node.0 g.rule other.rule f other.is_rule is (ap (λ (x : NodeId). x.tree) node) (ap (λ (x : NodeId). x.node.0) node) rule in
      let bindings : f.bindings ≡ g.bindings =
      same_Some f.bindings g.bindings
      (sym (whole_binds w meanings s other.rule x f.bindings tree known.1) ∙ whole_binds w meanings s other.rule x g.bindings tree other.whole) in
      let made : ℕ → NodeId → List Binding → FoundMatch = λ rule node bindings. record { rule = rule; node = node; bindings = bindings } in
      ap (λ r. made r f.node f.bindings) rule ∙ ap (λ x. made g.rule x f.bindings) node ∙ ap (made g.rule x) bindings

module _ (w : Workspace) (meanings : Meanings) (context : Context) (rules : List ResolvedRule) (wanted : List Bool) (IsLeftOut : List FoundMatch → FoundMatch → Type 0)
    (stays_out : (ms : List FoundMatch) (new f : FoundMatch) → IsLeftOut ms f → IsLeftOut (ms ++ new ∷ []) f) where
  -- what is found stays while no further match is passed
  passed : (t n r u m q : ℕ) (ms : List FoundMatch) → AreFoundBut IsLeftOut w meanings context rules wanted t n r ms → ((f : FoundMatch) → IsBefore t n r f → IsBefore u m q f)
      → ((f : FoundMatch) → IsFoundOf w meanings context rules wanted f → IsBefore u m q f → IsBefore t n r f) → AreFoundBut IsLeftOut w meanings context rules wanted u m q ms
  passed t n r u m q ms so_far on back = record {
    in_order = so_far.in_order;
    before = All-weaker (IsBefore t n r) (IsBefore u m q) on ms so_far.before;
    are = so_far.are;
    complete = λ f is before. so_far.complete f is (back f is before);
  }

  pub found_none : AreFoundBut IsLeftOut w meanings context rules wanted 0 0 0 []
  found_none = record {
    in_order = pairs_none Precedes;
    before = All-nil (IsBefore 0 0 0);
    are = All-nil (IsFoundOf w meanings context rules wanted);
    complete = λ f is before.
        elim before [
          | inl tree ↦ absurd (omega arith)
          | inr same ↦ elim same.1 [ inl none ↦ absurd (omega arith) | inr none ↦ absurd (omega (arith, none.1)) ]
        ];
  }

  -- ** At a node.

  pub added_by : (t n place : ℕ) (s : Syntax) (rule : ResolvedRule) (ms : List FoundMatch) (bindings : Option (List Binding)) → tree_of w t ≡ Some s → slice_get rules place ≡ Some rule → IsWanted wanted place
      → AreFoundBut IsLeftOut w meanings context rules wanted t n place ms → TellsMatch w meanings context rule (node_id t n) bindings
      → AreFoundBut IsLeftOut w meanings context rules wanted t n (place + 1) (ms ++ found_of place (node_id t n) bindings)
  added_by t n place s rule ms None tree at flag so_far tells =
      subst (AreFoundBut IsLeftOut w meanings context rules wanted t n (place + 1)) (sym (append-nil ms))
      (passed t n place t n (place + 1) ms so_far (before_rule t n place)
      (λ f is before.
      elim (rule_cases t n place f before) [
        | inl earlier ↦ earlier
        | inr here ↦
            let known = here_found w meanings context rules t n place rule f at is.0 here.0 here.1 here.2 in
            absurd (tells f.bindings known.0 known.1)
      ]))
  added_by t n place s rule ms (Some bindings) tree at flag so_far tells =
      let new : FoundMatch = record { rule = place; node = node_id t n; bindings = bindings } in
      let found : IsFound w meanings context rules new = record { rule = rule; is_rule = at; permitted = tells.0; whole = tells.1 } in
      let itself : IsBefore t n (place + 1) new = inr (refl, inr (refl, omega arith)) in
      record {
        in_order = all_pairs_push Precedes ms new so_far.in_order (λ k d low. so_far.before k d low);
        before = All-push (IsBefore t n (place + 1)) ms new (All-weaker (IsBefore t n place) (IsBefore t n (place + 1)) (before_rule t n place) ms so_far.before) itself;
        are = All-push (IsFoundOf w meanings context rules wanted) ms new so_far.are (found, flag);
        complete = λ f is before.
            elim (rule_cases t n place f before) [
              | inl earlier ↦
                  elim (so_far.complete f is earlier) [
                    | inl had ↦ inl (Contains-append_left ms (new ∷ []) f had)
                    | inr out ↦ inr (stays_out ms new f out)
                  ]
              | inr here ↦
                  inl (subst (Contains (ms ++ new ∷ [])) (one_match w meanings context rules new f found is.0 (sym (at_id t n f.node here.0 here.1)) (sym here.2)) (Contains-push ms new))
            ];
      }

  pub found_more : (t n place : ℕ) (s : Syntax) (rule : ResolvedRule) (old new : List FoundMatch) → tree_of w t ≡ Some s → place < length rules → rule ≡ get_or rules place rule → IsWanted wanted place
      → AreFoundBut IsLeftOut w meanings context rules wanted t n place old → Adds w meanings context rule place (node_id t n) old new → AreFoundBut IsLeftOut w meanings context rules wanted t n (place + 1) new
  found_more t n place s rule old new tree within read flag so_far adds =
      subst (AreFoundBut IsLeftOut w meanings context rules wanted t n (place + 1)) (sym adds.added)
      (added_by t n place s rule old adds.bindings tree (slice_get-get_or rules place rule within ∙ ap Some (sym read)) flag so_far adds.tells)

  -- a rule that isn't wanted is passed over
  pub found_unwanted : (t n place : ℕ) (ms : List FoundMatch) → (IsWanted wanted place → ⊥) → AreFoundBut IsLeftOut w meanings context rules wanted t n place ms → AreFoundBut IsLeftOut w meanings context rules wanted t n (place + 1) ms
  found_unwanted t n place ms unwanted so_far =
      passed t n place t n (place + 1) ms so_far (before_rule t n place)
      (λ f is before.
      elim (rule_cases t n place f before) [ inl earlier ↦ earlier | inr here ↦ absurd (unwanted (subst (IsWanted wanted) here.2 is.1)) ])

  -- and so is one that has no match at a node
  pub found_other : (t n place : ℕ) (rule : ResolvedRule) (ms : List FoundMatch) → slice_get rules place ≡ Some rule
      → ((bindings : List Binding) → IsWholeMatch (trees w) meanings rule (node_id t n) bindings → ⊥)
      → AreFoundBut IsLeftOut w meanings context rules wanted t n place ms → AreFoundBut IsLeftOut w meanings context rules wanted t n (place + 1) ms
  found_other t n place rule ms at none so_far =
      passed t n place t n (place + 1) ms so_far (before_rule t n place)
      (λ f is before.
      elim (rule_cases t n place f before) [
        | inl earlier ↦ earlier
        | inr here ↦ absurd (none f.bindings (here_found w meanings context rules t n place rule f at is.0 here.0 here.1 here.2).1)
      ])

  -- all rules are tried
  pub found_at : (t n place : ℕ) (ms : List FoundMatch) → length rules ≤ place → AreFoundBut IsLeftOut w meanings context rules wanted t n place ms → AreFoundBut IsLeftOut w meanings context rules wanted t (n + 1) 0 ms
  found_at t n place ms all so_far =
      passed t n place t (n + 1) 0 ms so_far (before_node t n place)
      (λ f is before.
      elim (node_cases t n f before) [
        | inl earlier ↦
            elim earlier [
              | inl tree ↦ inl tree
              | inr same ↦ inr (same.0, elim same.1 [ inl node ↦ inl node | inr none ↦ absurd (omega (arith, none.1)) ])
            ]
        | inr here ↦ inr (here.0, inr (here.1, omega (arith, slice_get_within rules f.rule is.0.rule is.0.is_rule)))
      ])

  -- all rules behind the last one are left out
  pub found_last : (t n place : ℕ) (ms : List FoundMatch) → ((m : FoundMatch) → node_id t n ≡ m.node → place < m.rule → IsLeftOut ms m)
      → AreFoundBut IsLeftOut w meanings context rules wanted t n (place + 1) ms → AreFoundBut IsLeftOut w meanings context rules wanted t (n + 1) 0 ms
  found_last t n place ms out so_far = record {
    in_order = so_far.in_order;
    before = All-weaker (IsBefore t n (place + 1)) (IsBefore t (n + 1) 0) (before_node t n (place + 1)) ms so_far.before;
    are = so_far.are;
    complete = λ f is before.
        elim (node_cases t n f before) [
          | inl earlier ↦ so_far.complete f is (any_rule t n (place + 1) f earlier)
          | inr here ↦
              elim (cases_lt place f.rule) [
                | inl later ↦ inr (out f (sym (at_id t n f.node here.0 here.1)) later)
                | inr tried ↦ so_far.complete f is (inr (here.0, inr (here.1, omega arith)))
              ]
        ];
  }

  -- nothing is found at a node that isn't open
  pub found_nothing : (t n : ℕ) (ms : List FoundMatch) → (IsOpen w context.restrictions (node_id t n) → ⊥) → AreFoundBut IsLeftOut w meanings context rules wanted t n 0 ms → AreFoundBut IsLeftOut w meanings context rules wanted t (n + 1) 0 ms
  found_nothing t n ms shut so_far =
      passed t n 0 t (n + 1) 0 ms so_far (before_node t n 0)
      (λ f is before.
      elim (node_cases t n f before) [
        | inl earlier ↦ earlier
        | inr here ↦ absurd (shut (subst (IsOpen w context.restrictions) (at_id t n f.node here.0 here.1) is.0.permitted.open_to_all))
      ])

  -- nor at one that no rule matches
  pub found_unmatched : (t n : ℕ) (ms : List FoundMatch)
      → ((place : ℕ) (rule : ResolvedRule) (bindings : List Binding) → slice_get rules place ≡ Some rule → IsWanted wanted place → IsWholeMatch (trees w) meanings rule (node_id t n) bindings → ⊥)
      → AreFoundBut IsLeftOut w meanings context rules wanted t n 0 ms → AreFoundBut IsLeftOut w meanings context rules wanted t (n + 1) 0 ms
  found_unmatched t n ms none so_far =
      passed t n 0 t (n + 1) 0 ms so_far (before_node t n 0)
      (λ f is before.
      elim (node_cases t n f before) [
        | inl earlier ↦ earlier
        | inr here ↦
            absurd (none f.rule is.0.rule f.bindings is.0.is_rule is.1
            (subst (λ x. IsWholeMatch (trees w) meanings is.0.rule x f.bindings) (at_id t n f.node here.0 here.1) is.0.whole))
      ])

  -- ** At a tree.

  pub found_in : (t n : ℕ) (s : Syntax) (ms : List FoundMatch) → tree_of w t ≡ Some s → 1 + node_count s.children ≤ n → AreFoundBut IsLeftOut w meanings context rules wanted t n 0 ms
      → AreFoundBut IsLeftOut w meanings context rules wanted (t + 1) 0 0 ms
  found_in t n s ms tree all so_far =
      passed t n 0 (t + 1) 0 0 ms so_far (before_tree t n 0)
      (λ f is before.
      elim (tree_cases t f before) [
        | inl earlier ↦ inl earlier
        | inr here ↦
            let at = is_tree w f.node.tree s (ap (tree_of w) here ∙ tree) in
            let has = in_tree (trees w) f.node.tree s (λ s. HasNode s f.node.node.0) at is.0.permitted.open_to_all.node in
            inr (here, inl (omega arith))
      ])

  -- ** At the end.

  pub found_all : (t : ℕ) (ms : List FoundMatch) → None ≡ tree_of w t → AreFoundBut IsLeftOut w meanings context rules wanted t 0 0 ms
      → (f : FoundMatch) → IsFoundOf w meanings context rules wanted f → Contains ms f ⊎ IsLeftOut ms f
  found_all t ms none so_far f is =
      let at = some_and (with_number (trees w) f.node.tree) (λ p. HasNode p.syntax f.node.node.0) is.0.permitted.open_to_all.node in
      let within = placed_within (trees w) f.node.tree at.0 at.1 in
      so_far.complete f is (inl (elim (cases_lt f.node.tree t) [
        | inl before ↦ before
        | inr behind ↦
            let there = placed_there (trees w) t (omega arith) in
            absurd (none-some there.0.syntax (none ∙ ap (option_map (λ (p : PlacedTree). p.syntax)) there.1))
      ]))

  pub found_each : (t n r : ℕ) (ms : List FoundMatch) → AreFoundBut IsLeftOut w meanings context rules wanted t n r ms
      → (f : FoundMatch) → Contains ms f → IsFoundOf w meanings context rules wanted f
  found_each t n r ms so_far f had = All-contains (IsFoundOf w meanings context rules wanted) ms f so_far.are had

-- ** What is shadowed.

module _ (w : Workspace) where
  pub stays_shadowed : (ms : List FoundMatch) (new f : FoundMatch) → IsShadowed (trees w) ms f → IsShadowed (trees w) (ms ++ new ∷ []) f
  stays_shadowed ms new f shadowed = (shadowed.0, Contains-append_left ms (new ∷ []) shadowed.0 shadowed.1, shadowed.2)

  -- a match that is added and whose placeholders don't hold its node shadows those of later rules
  added_shadows : (ms : List FoundMatch) (k : FoundMatch) → (LiesInPlaceholder (trees w) k k → ⊥) → ShadowLater w k.node k.rule (ms ++ k ∷ [])
  added_shadows ms k holds m node rule =
      (k, Contains-push ms k, record { node = node; rule = rule; outside = λ lies. holds (lies_at_node (trees w) k k m node lies) })

  not_both : (b : Bool) → IsTrue (not b) → IsTrue b → ⊥
  not_both true is holds = let e : false ≡ true = is in cc
  not_both false is holds = let e : false ≡ true = holds in cc

  pub shadows_later : (old new : List FoundMatch) (k : FoundMatch) (x : NodeId) (place : ℕ) (holds : Bool) → new ≡ old ++ k ∷ [] → k.node ≡ x → k.rule ≡ place
      → IsTrue holds ↔ LiesInPlaceholder (trees w) k k → IsTrue (not holds) → ShadowLater w x place new
  shadows_later old new k x place holds new_is node rule test is =
      subst (ShadowLater w x place) (sym new_is)
      (λ m at later. added_shadows old k (λ lies. not_both holds is (test.1 lies)) m (node ∙ at) (subst (λ r. r < m.rule) (sym rule) later))

  pub found_enough : (meanings : Meanings) (context : Context) (rules : List ResolvedRule) (wanted : List Bool) (t : ℕ) (ms : List FoundMatch) → None ≡ tree_of w t
      → AreFoundBefore w meanings context rules wanted t 0 0 ms → AreEnough (trees w) (IsFoundOf w meanings context rules wanted) ms
  found_enough meanings context rules wanted t ms none so_far = record {
    found = found_each w meanings context rules wanted (IsShadowed (trees w)) stays_shadowed t 0 0 ms so_far;
    enough = found_all w meanings context rules wanted (IsShadowed (trees w)) stays_shadowed t ms none so_far;
  }

-- ** Of all rules.

pub all_wanted : (n place : ℕ) → place < n → IsWanted (replicate n true) place
all_wanted n place within = slice_get-get_or (replicate n true) place false (omega (arith, length-replicate n true)) ∙ ap Some (get_or-replicate n place true false within)

wanted_all : (w : Workspace) (meanings : Meanings) (context : Context) (rules : List ResolvedRule) (f : FoundMatch)
    → IsFound w meanings context rules f → IsFoundOf w meanings context rules (replicate (length rules) true) f
wanted_all w meanings context rules f is = (is, all_wanted (length rules) f.rule (slice_get_within rules f.rule is.rule is.is_rule))

-- what is enough of rules that are all wanted is enough of what is found
pub enough_of_all : (w : Workspace) (meanings : Meanings) (context : Context) (rules : List ResolvedRule) (ms : List FoundMatch)
    → AreEnough (trees w) (IsFoundOf w meanings context rules (replicate (length rules) true)) ms → AreEnough (trees w) (IsFound w meanings context rules) ms
enough_of_all w meanings context rules ms are = record {
  found = λ f had. (are.found f had).0;
  enough = λ f is. are.enough f (wanted_all w meanings context rules f is);
}

-- where nothing is left out, what is found of rules that are all wanted is what is found
pub found_of_all : (w : Workspace) (meanings : Meanings) (context : Context) (rules : List ResolvedRule) (t : ℕ) (ms : List FoundMatch) → None ≡ tree_of w t
    → AreFoundBut (λ ms f. ⊥) w meanings context rules (replicate (length rules) true) t 0 0 ms → AreFound w meanings context rules ms
found_of_all w meanings context rules t ms none so_far =
    let wanted = replicate (length rules) true in
    record {
      in_order = so_far.in_order;
      are = λ f. (
        λ had. (found_each w meanings context rules wanted (λ ms f. ⊥) (λ ms new f out. out) t 0 0 ms so_far f had).0,
        λ is. elim (found_all w meanings context rules wanted (λ ms f. ⊥) (λ ms new f out. out) t ms none so_far f (wanted_all w meanings context rules f is)) [
          | inl had ↦ had
          | inr out ↦ absurd out
        ],
      );
    }

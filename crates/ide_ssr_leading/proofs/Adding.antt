-- What is found for one rule at the nodes that usages lead to, node by node.
use Rattle.std.proofs.Common.{◌≡◌, ℕ, zero, suc, ◌+◌, ◌<◌, ◌≤◌, Bool, true, false, cond, List, [], ◌∷◌, ◌++◌, length, take, get_or, Option, Some, None, refl, sym, ap, ◌∙◌, subst, inl, inr, ◌⊎◌, arith, add-one}
use Rattle.std.proofs.Math.Seq.{take-suc}
use Rattle.std.proofs.lemmas.Bool.{both_ways, cases_Bool, cond-false}
use Rattle.std.proofs.lemmas.List.Elements.{Contains-append_left, Contains-push, Contains-push_cases}
use Rattle.std.proofs.lemmas.Option.{none-some, same_Some}
use Rattle.std.specs.Prelude.{not, IsTrue, IfOk, Result, Ok, Err, Vec, Contains}
use Rattle.std.specs.Global.{Global}
use Rattle.std.specs.BTreeMap.{is_at}
use Rattle.std.specs.BTreeSet.{BTreeSet, contains}
use Rattle.std.specs.Cmp.{unsigned_ties, both_tied}
use Rattle.std.specs.Option.{option_map}
use Rattle.ssr_syntax_tree.specs.Syntax.{tokens_of}
use Rattle.ssr_syntax_tree.specs.Places.{HasNode}
use Rattle.ssr_base_trees.specs.declared.ids.NodeId.{NodeId}
use Rattle.ssr_base_trees.specs.contracts.ids.NodeIdOrd.TheImpl as id_order
use Rattle.ssr_base_trees.specs.Meanings.{Meanings}
use Rattle.ssr_base_trees.specs.Workspace.{Workspace, PlacedTree, trees, with_number, tree_of, same_id}
use Rattle.ssr_base_trees.specs.Built.{IsNodeOf}
use Rattle.ssr_base_trees.proofs.Shared.{some_and, same_nodes}
use Rattle.ide_ssr_resolved_rule.specs.Resolved.{ResolvedRule}
use Rattle.ide_ssr_bindings.specs.declared.bindings.Binding.{Binding}
use Rattle.ide_ssr_bindings.specs.Found.{FoundMatch}
use Rattle.ide_ssr_search.specs.Context.{Context}
use Rattle.ide_ssr_search.specs.Permitted.{IsOpen, IsPermitted, names_self}
use Rattle.ide_ssr_search.specs.WholeMatches.{IsWholeMatch, TellsWhole}
use Rattle.ide_ssr_search.proofs.Shared.{whole_binds}
use Rattle.ide_ssr_leading.specs.Leading.{led_to}
use Rattle.ide_ssr_leading.specs.Private.LedRules.{IsLedBy, AreLedTo, IsMatchOf, TellsMatch, AreFoundAt, AreFoundBy}

-- ** One more of a list.

module _ {A : Type 0} (xs : List A) (i : ℕ) (x : A) (within : i < length xs) (is : get_or xs i x ≡ x) where
  pub next : take (i + 1) xs ≡ take i xs ++ x ∷ []
  next =
      ap (λ n. take n xs) (add-one i) ∙ take-suc xs i x within ∙ ap (λ y. take i xs ++ y ∷ []) is

  pub before_next : (y : A) → Contains (take i xs) y → Contains (take (i + 1) xs) y
  before_next y had = subst (λ ys. Contains ys y) (sym next) (Contains-append_left (take i xs) (x ∷ []) y had)

  pub next_one : Contains (take (i + 1) xs) x
  next_one = subst (λ ys. Contains ys x) (sym next) (Contains-push (take i xs) x)

  pub next_cases : (y : A) → Contains (take (i + 1) xs) y → Contains (take i xs) y ⊎ (x ≡ y)
  next_cases y had = Contains-push_cases (take i xs) x y (subst (λ ys. Contains ys y) next had)

pub get_again : {A : Type 0} (xs : List A) (i : ℕ) (d e : A) → i < length xs → get_or xs i e ≡ get_or xs i d
get_again [] i d e within = absurd (omega arith)
get_again (x ∷ xs) zero d e within = refl
get_again (x ∷ xs) (suc i) d e within = get_again xs i d e (omega arith)

pub take_whole : {A : Type 0} (xs : List A) (n : ℕ) → length xs ≤ n → take n xs ≡ xs
take_whole [] zero all = refl
take_whole [] (suc n) all = refl
take_whole (x ∷ xs) zero all = absurd (omega arith)
take_whole (x ∷ xs) (suc n) all = ap (λ ys. x ∷ ys) (take_whole xs n (omega arith))

pub not_false : (b : Bool) → false ≡ not b → b ≡ true
not_false true e = refl
not_false false e = cc

pub none_in : {A : Type 0} (x : A) → Contains [] x → ⊥
none_in x had = absurd (omega (arith, had.1))

pub only_one : {A : Type 0} (x y : A) → Contains (x ∷ []) y → x ≡ y
only_one x y had = elim (Contains-push_cases [] x y had) [ inl none ↦ absurd (none_in y none) | inr same ↦ same ]

-- ** Nodes that usages lead to.

id_ties : (a b : NodeId) → same_id a b ≡ is_at ((id_order.ghosts).cmp a) b
id_ties a b = both_tied _ _ _ _ (unsigned_ties a.tree b.tree) (unsigned_ties a.node.0 b.node.0)

-- the nodes so far, and that those are among them that are known
pub record AreSoFar (ts : List PlacedTree) (depth : ℕ) (usages : List NodeId) (seen : BTreeSet NodeId) (nodes : List NodeId) : Type 0 where
  pub led : AreLedTo ts depth usages nodes
  pub known : (x : NodeId) → IsTrue (contains ((id_order.ghosts).cmp) seen x) → Contains nodes x

module _ (ts : List PlacedTree) (depth : ℕ) (usages : List NodeId) (i : ℕ) (usage : NodeId) (within : i < length usages) (is : get_or usages i usage ≡ usage) where
  led_before : (x : NodeId) → IsLedBy ts depth (take i usages) x → IsLedBy ts depth (take (i + 1) usages) x
  led_before x led = (led.0, before_next usages i usage within is led.0 led.1, led.2)

  led_next : (x : NodeId) → led_to ts depth usage ≡ Some x → IsLedBy ts depth (take (i + 1) usages) x
  led_next x leads = (usage, next_one usages i usage within is, leads)

  led_cases : (x : NodeId) → IsLedBy ts depth (take (i + 1) usages) x → IsLedBy ts depth (take i usages) x ⊎ (led_to ts depth usage ≡ Some x)
  led_cases x led =
      elim (next_cases usages i usage within is led.0 led.1) [
        | inl before ↦ inl (led.0, before, led.2)
        | inr here ↦ inr (ap (led_to ts depth) here ∙ led.2)
      ]

  -- a usage that leads nowhere
  pub led_nowhere : (known : BTreeSet NodeId) (nodes : List NodeId) → led_to ts depth usage ≡ None
      → AreSoFar ts depth (take i usages) known nodes → AreSoFar ts depth (take (i + 1) usages) known nodes
  led_nowhere known nodes nowhere so_far = record {
    led = λ x. (
      λ had. led_before x ((so_far.led x).0 had),
      λ led. elim (led_cases x led) [
        | inl before ↦ (so_far.led x).1 before
        | inr here ↦ absurd (none-some x (sym nowhere ∙ here))
      ],
    );
    known = so_far.known;
  }

  -- a usage that leads to a node that is known already
  pub led_again : (old new : BTreeSet NodeId) (nodes : List NodeId) (x : NodeId) → led_to ts depth usage ≡ Some x → IsTrue (contains ((id_order.ghosts).cmp) old x)
      → ((q : NodeId) → contains ((id_order.ghosts).cmp) new q ≡ cond (is_at ((id_order.ghosts).cmp x) q) true (contains ((id_order.ghosts).cmp) old q))
      → AreSoFar ts depth (take i usages) old nodes → AreSoFar ts depth (take (i + 1) usages) new nodes
  led_again old new nodes x leads had updates so_far =
      let there = so_far.known x had in
      record {
        led = λ y. (
          λ had. led_before y ((so_far.led y).0 had),
          λ led. elim (led_cases y led) [
            | inl before ↦ (so_far.led y).1 before
            | inr here ↦ subst (Contains nodes) (same_Some x y (sym leads ∙ here)) there
          ],
        );
        known = λ y had.
            let cmp = (id_order.ghosts).cmp in
            elim (cases_Bool (is_at (cmp x) y)) [
              | inl same ↦ subst (Contains nodes) (same_nodes x y (id_ties x y ∙ same)) there
              | inr other ↦
                  let before : IsTrue (contains cmp old y) = sym (cond-false (is_at (cmp x) y) true (contains cmp old y) other) ∙ sym (updates y) ∙ had in
                  so_far.known y before
            ];
      }

  -- a usage that leads to a node that is new
  pub led_newly : (old new : BTreeSet NodeId) (nodes : List NodeId) (x : NodeId) → led_to ts depth usage ≡ Some x
      → ((q : NodeId) → contains ((id_order.ghosts).cmp) new q ≡ cond (is_at ((id_order.ghosts).cmp x) q) true (contains ((id_order.ghosts).cmp) old q))
      → AreSoFar ts depth (take i usages) old nodes → AreSoFar ts depth (take (i + 1) usages) new (nodes ++ x ∷ [])
  led_newly old new nodes x leads updates so_far = record {
    led = λ y. (
      λ had. elim (Contains-push_cases nodes x y had) [
        | inl before ↦ led_before y ((so_far.led y).0 before)
        | inr here ↦ led_next y (leads ∙ ap Some here)
      ],
      λ led. elim (led_cases y led) [
        | inl before ↦ Contains-append_left nodes (x ∷ []) y ((so_far.led y).1 before)
        | inr here ↦
            subst (Contains (nodes ++ x ∷ [])) (same_Some x y (sym leads ∙ here)) (Contains-push nodes x)
      ],
    );
    known = λ y had.
        let cmp = (id_order.ghosts).cmp in
        elim (cases_Bool (is_at (cmp x) y)) [
          | inl same ↦
              subst (Contains (nodes ++ x ∷ [])) (same_nodes x y (id_ties x y ∙ same)) (Contains-push nodes x)
          | inr other ↦
              let before : IsTrue (contains cmp old y) = sym (cond-false (is_at (cmp x) y) true (contains cmp old y) other) ∙ sym (updates y) ∙ had in
              Contains-append_left nodes (x ∷ []) y (so_far.known y before)
        ];
  }

-- ** Matches of the rule.

module _ (w : Workspace) (m : Meanings) (context : Context) (rule : ResolvedRule) where
  -- a rule whose pattern has no `self` as a value is permitted at each node that is open to all
  pub permitted_open : (x : NodeId) → names_self (tokens_of rule.pattern) ≡ false → IsOpen w context.restrictions x → IsPermitted w context rule x
  permitted_open x free is = record { open_to_all = is; own_self = λ names. absurd (both_ways (names_self (tokens_of rule.pattern)) free names) }

  pub match_told : (x : NodeId) (bindings : Option (List Binding)) → IsPermitted w context rule x → TellsWhole (trees w) m rule x bindings → TellsMatch w m context rule x bindings
  match_told x None permitted none = λ bindings _. none bindings
  match_told x (Some bindings) permitted whole = (permitted, whole)

  -- at a node there is one whole match
  one_whole : (x : NodeId) (bindings others : List Binding) → IsNodeOf (trees w) x → IsWholeMatch (trees w) m rule x bindings → IsWholeMatch (trees w) m rule x others → bindings ≡ others
  one_whole x bindings others node whole again =
      let at = some_and (with_number (trees w) x.tree) (λ p. HasNode p.syntax x.node.0) node in
      let s = at.0.syntax in
      let tree : tree_of w x.tree ≡ Some s = ap (option_map (λ (p : PlacedTree). p.syntax)) at.1 in
      same_Some bindings others (sym (whole_binds w m s rule x bindings tree whole) ∙ whole_binds w m s rule x others tree again)

  pub ok_told : {E : Type 0} (x : NodeId) (r : Result (Option (Vec Binding Global)) E) → IsPermitted w context rule x
      → IfOk r (λ found. TellsWhole (trees w) m rule x (option_map (λ v. v.items) found)) → IfOk r (λ found. TellsMatch w m context rule x (option_map (λ v. v.items) found))
  ok_told x (Ok found) permitted told = match_told x (option_map (λ v. v.items) found) permitted told
  ok_told x (Err e) permitted told = told

  module _ (place : ℕ) where
    -- the matches at one node
    pub none_at : (x : NodeId) (old : List FoundMatch) → TellsMatch w m context rule x None → AreFoundAt w m context rule place (x ∷ []) old old
    none_at x old none found = (
      λ had. inl had,
      λ added. elim added [
        | inl had ↦ had
        | inr new ↦
            let here : found.node ≡ x = sym (only_one x found.node new.0) in
            absurd (none found.bindings (subst (IsPermitted w context rule) here new.1.permitted)
            (subst (λ x. IsWholeMatch (trees w) m rule x found.bindings) here new.1.whole))
      ],
    )

    pub one_at : (x : NodeId) (bindings : List Binding) (old : List FoundMatch) → TellsMatch w m context rule x (Some bindings)
        → AreFoundAt w m context rule place (x ∷ []) old (old ++ record { rule = place; node = x; bindings = bindings } ∷ [])
    one_at x bindings old told found =
        let made : ℕ → NodeId → List Binding → FoundMatch = λ rule node bindings. record { rule = rule; node = node; bindings = bindings } in
        let one = made place x bindings in (
          λ had. elim (Contains-push_cases old one found had) [
            | inl before ↦ inl before
            | inr here ↦
                inr
                (subst (λ f. Contains (x ∷ []) f.node × IsMatchOf w m context rule place f) here
                (Contains-push [] x, record { of_rule = refl; permitted = told.0; whole = told.1 }))
          ],
          λ added. elim added [
            | inl had ↦ Contains-append_left old (one ∷ []) found had
            | inr new ↦
                let here : x ≡ found.node = only_one x found.node new.0 in
                let whole = subst (λ x. IsWholeMatch (trees w) m rule x found.bindings) (sym here) new.1.whole in
                let same : bindings ≡ found.bindings = one_whole x bindings found.bindings told.0.open_to_all.node told.1 whole in
                let is : one ≡ found =
                ap (λ r. made r x bindings) (sym new.1.of_rule) ∙ ap (λ x. made found.rule x bindings) here ∙ ap (made found.rule found.node) same in
                subst (Contains (old ++ one ∷ [])) is (Contains-push old one)
          ],
        )

    -- at the nodes so far
    pub at_none : (nodes : List NodeId) (old : List FoundMatch) → AreFoundAt w m context rule place (take 0 nodes) old old
    at_none nodes old found = (λ had. inl had, λ added. elim added [ inl had ↦ had | inr new ↦ absurd (none_in found.node new.0) ])

    pub at_more : (nodes : List NodeId) (i : ℕ) (x : NodeId) (old middle new : List FoundMatch) → i < length nodes → get_or nodes i x ≡ x
        → AreFoundAt w m context rule place (take i nodes) old middle → AreFoundAt w m context rule place (x ∷ []) middle new
        → AreFoundAt w m context rule place (take (i + 1) nodes) old new
    at_more nodes i x old middle new within is so_far here found = (
      λ had. elim ((here found).0 had) [
        | inl before ↦
            elim ((so_far found).0 before) [
              | inl first ↦ inl first
              | inr added ↦ inr (before_next nodes i x within is found.node added.0, added.1)
            ]
        | inr added ↦
            inr (subst (Contains (take (i + 1) nodes)) (only_one x found.node added.0) (next_one nodes i x within is), added.1)
      ],
      λ added. elim added [
        | inl first ↦ (here found).1 (inl ((so_far found).1 (inl first)))
        | inr more ↦
            elim (next_cases nodes i x within is found.node more.0) [
              | inl before ↦ (here found).1 (inl ((so_far found).1 (inr (before, more.1))))
              | inr same ↦ (here found).1 (inr (subst (Contains (x ∷ [])) same (Contains-push [] x), more.1))
            ]
      ],
    )

    -- at all nodes that usages lead to
    pub at_all : (depth : ℕ) (usages nodes : List NodeId) (old new : List FoundMatch) → AreLedTo (trees w) depth usages nodes
        → AreFoundAt w m context rule place nodes old new → AreFoundBy w m context rule place depth usages old new
    at_all depth usages nodes old new led at found = (
      λ had. elim ((at found).0 had) [ inl first ↦ inl first | inr added ↦ inr ((led found.node).0 added.0, added.1) ],
      λ added. elim added [ inl first ↦ (at found).1 (inl first) | inr more ↦ (at found).1 (inr ((led found.node).1 more.0, more.1)) ],
    )

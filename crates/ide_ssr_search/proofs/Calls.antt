-- Calls that shut in what they stand for, and trees that stand in the function: what is known of them while trees are gone over.
use Rattle.std.proofs.Common.{◌≡◌, ℕ, ◌+◌, ◌==◌, Bool, true, false, cond, List, [], ◌∷◌, ◌++◌, length, get_or, All, Option, Some, None, refl, sym, ap, ◌∙◌, subst, inl, inr, ◌⊎◌, arith, eq-eqb, length-append}
use Rattle.std.specs.Prelude.{◌↔◌, IsTrue, IfSome}
use Rattle.std.specs.BTreeMap.{is_at}
use Rattle.std.specs.BTreeSet.{BTreeSet, contains}
use Rattle.std.specs.Cmp.{unsigned_ties, both_tied}
use Rattle.std.specs.List.{position_from}
use Rattle.std.specs.Option.{IsSomeAnd}
use Rattle.std.proofs.lemmas.Bool.{cases_lt, cases_Bool, and_from, cond-true, cond-false}
use Rattle.std.proofs.lemmas.List.Elements.{All-head, All-tail}
use Rattle.std.proofs.lemmas.List.{get_or_push}
use Rattle.std.proofs.Math.ListN.{get_or-append}
use Rattle.std.proofs.lemmas.Option.{none-some}
use Rattle.ssr_base_trees.specs.declared.ids.NodeId.{NodeId}
use Rattle.ssr_base_trees.specs.contracts.ids.NodeIdOrd.TheImpl as id_order
use Rattle.ssr_base_trees.specs.Workspace.{Expanded, Workspace, PlacedTree, trees, node_id, same_id, above}
use Rattle.ssr_base_trees.specs.Built.{IsNodeOf, IsMacroCall, IsBuilt}
use Rattle.ssr_base_trees.specs.Laws.{IsEarlier, IsBelow, climbed}
use Rattle.ssr_base_trees.proofs.Shared.{is_up, root_found, same_nodes, mapped}
use Rattle.ide_ssr_search.specs.Context.{Context}
use Rattle.ide_ssr_search.specs.Permitted.{IsInFunction}
use Rattle.ide_ssr_search.specs.Private.Shut.{IsShutIn, IsShut}
use Rattle.ide_ssr_search.specs.Private.KnownTrees.{IsShutCall, KnowsShut, KnowsInside, IsEarlierCall}
use Rattle.ide_ssr_search.proofs.Trees.{then_some}
use Rattle.ide_ssr_search.proofs.Shutting.{root_shut}
use Rattle.ide_ssr_search.proofs.Inside.{root_inside, file_outside}

-- ** Nodes by their ids.

id_ties : (a b : NodeId) → same_id a b ≡ is_at ((id_order.ghosts).cmp a) b
id_ties a b = both_tied _ _ _ _ (unsigned_ties a.tree b.tree) (unsigned_ties a.node.0 b.node.0)

earlier_on : (c : NodeId) (t n : ℕ) → IsEarlier c (node_id t n) → IsEarlier c (node_id t (n + 1))
earlier_on c t n (inl tree) = inl tree
earlier_on c t n (inr same) = let less = same.1 in inr (same.0, omega arith)

earlier_cases : (c : NodeId) (t n : ℕ) → IsEarlier c (node_id t (n + 1)) → IsEarlier c (node_id t n) ⊎ (c ≡ node_id t n)
earlier_cases c t n (inl tree) = inl (inl tree)
earlier_cases c t n (inr same) =
    let less = same.1 in
    elim (cases_lt c.node.0 n) [
      | inl low ↦ inl (inr (same.0, low))
      | inr high ↦
          let number : c.node.0 ≡ n = omega arith in
          inr (ap (λ t. node_id t c.node.0) same.0 ∙ ap (node_id t) number)
    ]

-- ** The call of a tree.

found_one : {A : Type 0} (P : A → Type 0) (test : A → Bool) (i n : ℕ) (xs : List A) → All P xs → position_from test i xs ≡ Some n → (x : A) × P x × (test x ≡ true)
found_one P test i n [] all is = absurd (none-some n is)
found_one P test i n (x ∷ xs) all is =
    elim (cases_Bool (test x)) [
      | inl passes ↦ (x, All-head P x xs all, passes)
      | inr fails ↦
          found_one P test (i + 1) n xs (All-tail P x xs all) (sym (cond-false (test x) (Some i) (position_from test (i + 1) xs) fails) ∙ is)
    ]

pub earlier_call : (w : Workspace) → IsBuilt w → (t : ℕ) (call : NodeId) → above (trees w) (node_id t 0) ≡ Some call → IsEarlierCall w t call
earlier_call w b t call is =
    let up = is_up (trees w) (node_id t 0) call b.grown is in
    let root = root_found w call (node_id t 0) b refl is in
    let number = mapped (λ n. node_id (length w.files + n) 0) (position_from (λ (e : Expanded). same_id call e.call) 0 w.expansions) (node_id t 0) root in
    let found = found_one (λ (e : Expanded). IsMacroCall (trees w) e.call) (λ (e : Expanded). same_id call e.call) 0 number.0 w.expansions b.calls number.1 in
    record {
      earlier = elim up.earlier [ inl before ↦ before | inr same ↦ absurd (omega (arith, same.1)) ];
      node = up.node;
      is_call = subst (IsMacroCall (trees w)) (sym (same_nodes call found.0.call found.2)) found.1;
    }

pub earlier_if : (w : Workspace) → IsBuilt w → (t : ℕ) (call : Option NodeId) → call ≡ above (trees w) (node_id t 0) → IfSome call (IsEarlierCall w t)
earlier_if w b t None is = tt
earlier_if w b t (Some call) is = earlier_call w b t call (sym is)

-- ** Calls that shut in what they stand for.

pub shut_kept : (w : Workspace) (t n : ℕ) (shut : BTreeSet NodeId) → (IsMacroCall (trees w) (node_id t n) → IsShut (trees w) (node_id t n) → ⊥)
    → KnowsShut w t n shut → KnowsShut w t (n + 1) shut
shut_kept w t n shut free known call = (
  λ had. let is = (known call).0 had in
      record { earlier = earlier_on call t n is.earlier; node = is.node; is_call = is.is_call; shut = is.shut },
  λ is. elim (earlier_cases call t n is.earlier) [
    | inl earlier ↦ (known call).1 (record { earlier = earlier; node = is.node; is_call = is.is_call; shut = is.shut })
    | inr here ↦ absurd (free (subst (IsMacroCall (trees w)) here is.is_call) (subst (IsShut (trees w)) here is.shut))
  ],
)

pub shut_added : (w : Workspace) (t n : ℕ) (old new : BTreeSet NodeId) → IsNodeOf (trees w) (node_id t n) → IsMacroCall (trees w) (node_id t n) → IsShut (trees w) (node_id t n)
    → ((q : NodeId) → contains ((id_order.ghosts).cmp) new q ≡ cond (is_at ((id_order.ghosts).cmp (node_id t n)) q) true (contains ((id_order.ghosts).cmp) old q))
    → KnowsShut w t n old → KnowsShut w t (n + 1) new
shut_added w t n old new node is_call shut updates known call =
    let x = node_id t n in
    let cmp = (id_order.ghosts).cmp in
    elim (cases_Bool (is_at (cmp x) call)) [
      | inl same ↦
          let here : x ≡ call = same_nodes x call (id_ties x call ∙ same) in
          let itself : IsShutCall w t (n + 1) x = record { earlier = inr (refl, omega arith); node = node; is_call = is_call; shut = shut } in (
            λ had. subst (IsShutCall w t (n + 1)) here itself,
            λ is. updates call ∙ cond-true (is_at (cmp x) call) true (contains cmp old call) same,
          )
      | inr other ↦
          let stays : contains cmp new call ≡ contains cmp old call = updates call ∙ cond-false (is_at (cmp x) call) true (contains cmp old call) other in (
            λ had. let is = (known call).0 (sym stays ∙ had) in
                record { earlier = earlier_on call t n is.earlier; node = is.node; is_call = is.is_call; shut = is.shut },
            λ is. stays ∙ elim (earlier_cases call t n is.earlier) [
              | inl earlier ↦ (known call).1 (record { earlier = earlier; node = is.node; is_call = is.is_call; shut = is.shut })
              | inr here ↦
                  absurd (
                  let e : true ≡ false = sym (ap (same_id x) here ∙ same_itself x) ∙ (id_ties x call ∙ other) in
                  cc)
            ],
          )
    ]
  where
    same_itself : (a : NodeId) → same_id a a ≡ true
    same_itself a = and_from (a.tree == a.tree) (a.node.0 == a.node.0) (eq-eqb a.tree a.tree refl) (eq-eqb a.node.0 a.node.0 refl)

-- ** What a tree is told of by its call.

pub ground_shut : (ts : List PlacedTree) (root : NodeId) (call : Option NodeId) (shut : Bool) → above ts root ≡ call → IsTrue shut ↔ IsSomeAnd call (IsShut ts) → IsTrue shut ↔ IsShutIn ts root
ground_shut ts root None shut up known = (
  λ is. absurd (known.0 is),
  λ is. let first = then_some (climbed ts is.1.0) (above ts root) is.0 is.1.1 in absurd (none-some first.0 (sym up ∙ first.1)),
)
ground_shut ts root (Some call) shut up known =
    let both = root_shut ts root call up in
    (λ is. both.1 (known.0 is), λ is. known.1 (both.0 is))

pub ground_inside : (ts : List PlacedTree) (root : NodeId) (call function : Option NodeId) (inside : Bool) → above ts root ≡ call
    → IsTrue inside ↔ IsSomeAnd call (IsInFunction ts function) → IsTrue inside ↔ IsSomeAnd function (IsBelow ts root)
ground_inside ts root None function inside up known = (λ is. absurd (known.0 is), λ is. absurd (file_outside ts root function up is))
ground_inside ts root (Some call) function inside up known =
    let both = root_inside ts root call function up in
    (λ is. both.1 (known.0 is), λ is. known.1 (both.0 is))

-- ** Trees that stand in the function.

pub inside_more : (w : Workspace) (context : Context) (t : ℕ) (inside : List Bool) (new : Bool) → KnowsInside w context t inside
    → IsTrue new ↔ IsSomeAnd context.function (IsBelow (trees w) (node_id t 0)) → KnowsInside w context (t + 1) (inside ++ new ∷ [])
inside_more w context t inside new so_far known = record {
  counted = length-append inside (new ∷ []) ∙ ap (λ n. n + 1) so_far.counted;
  known = λ s before.
      let counted = so_far.counted in
      elim (cases_lt s t) [
        | inl earlier ↦
            let read : get_or (inside ++ new ∷ []) s false ≡ get_or inside s false = get_or-append inside (new ∷ []) false s (omega arith) in
            let old = so_far.known s earlier in
            (λ is. old.0 (sym read ∙ is), λ is. read ∙ old.1 is)
        | inr here ↦
            let same : s ≡ t = omega arith in
            let read : get_or (inside ++ new ∷ []) s false ≡ new = get_or_push inside new false s (omega arith) in
            let now = subst (λ s. IsTrue new ↔ IsSomeAnd context.function (IsBelow (trees w) (node_id s 0))) (sym same) known in
            (λ is. now.0 (sym read ∙ is), λ is. read ∙ now.1 is)
      ];
}

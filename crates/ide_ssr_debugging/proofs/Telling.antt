-- What is told of rules at nodes.
use Rattle.std.proofs.Common.{◌≡◌, ℕ, ◌+◌, ◌<◌, ◌≤◌, ◌⊎◌, ◌↔◌, inl, inr, Bool, true, false, List, [], ◌∷◌, ◌++◌, length, get_or, take, All, AllPairs, Contains, Option, Some, None, Result, Ok, Err, refl, sym, ap, ◌∙◌, subst, arith, append-nil, append_assoc}
use Rattle.std.specs.Prelude.{IsTrue, IfOk, is_some, slice_get}
use Rattle.std.specs.Option.{IsSomeAnd, option_map}
use Rattle.std.proofs.lemmas.Bool.{cases_lt, false≢true}
use Rattle.std.proofs.lemmas.List.{length-take, get_or-take, take_all, take_more}
use Rattle.std.proofs.lemmas.List.Elements.{All-contains, All-contains_itself, Contains-append_left, Contains-append_right, Contains-append_cases, Contains-push, Contains-push_cases}
use Rattle.std.proofs.lemmas.List.Quantifiers.{all_pairs_push}
use Rattle.std.proofs.lemmas.Option.{none-some, same_Some, slice_get_within, slice_get-get_or}
use Rattle.ssr_syntax_kinds.specs.declared.kinds.SyntaxKind.{SyntaxKind}
use Rattle.ssr_syntax_tree.specs.Syntax.{Syntax}
use Rattle.ssr_syntax_tree.specs.Places.{Node, HasNode, node_of, root_of}
use Rattle.ssr_syntax_tree.proofs.Lists.{pairs_at, pairs_none, pairs_head, pairs_tail, at_front, at_back}
use Rattle.ssr_base_trees.specs.declared.ids.FileId.{FileId}
use Rattle.ssr_base_trees.specs.declared.ids.NodeId.{NodeId}
use Rattle.ssr_base_trees.specs.Meanings.{Meanings}
use Rattle.ssr_base_trees.specs.Workspace.{Workspace, PlacedTree, trees, tree_of}
use Rattle.ssr_base_trees.proofs.Shared.{some_and, and_some}
use Rattle.ide_ssr_bindings.specs.declared.bindings.Binding.{Binding}
use Rattle.ide_ssr_resolved_rule.specs.Resolved.{ResolvedRule}
use Rattle.ide_ssr_search.specs.WholeMatches.{IsWholeMatch, TellsWhole}
use Rattle.ide_ssr_debugging.specs.Expressions.{asks}
use Rattle.ide_ssr_debugging.specs.Debugging.{Entry, Tells, IsTold, IsShown, NodeBefore, EntryBefore, AreEntries}
use Rattle.ide_ssr_debugging.specs.Private.Entries.{IsToldAt, AreToldAt, AreToldOf}

-- ** Whether a rule matches.

pub matches_told : {V : Type 0} (items : V → List Binding) (ts : List PlacedTree) (m : Meanings) (rule : ResolvedRule) (x : NodeId) (found : Option V) (r : Bool)
    → r ≡ is_some found → TellsWhole ts m rule x (option_map items found) → IsTrue r ↔ ((bindings : List Binding) × IsWholeMatch ts m rule x bindings)
matches_told items ts m rule x None r is tells = (
  (λ holds. absurd (false≢true (sym is ∙ holds))),
  (λ one. absurd (tells one.0 one.1)),
)
matches_told items ts m rule x (Some v) r is tells = ((λ holds. (items v, tells)), (λ one. is))

pub root_kind : (syntax : Syntax) → (node_of syntax 0).kind ≡ syntax.kind
unfolding node_of
root_kind syntax = refl

-- whether a rule asks for a node, as the code finds out
pub asked_by : (rule : ResolvedRule) (pattern tree : Syntax) (n : ℕ) (p c : SyntaxKind) (r : Bool) → pattern ≡ rule.pattern → p ≡ (node_of pattern 0).kind → c ≡ (node_of tree n).kind
    → r ≡ asks p c → asks rule.pattern.kind (node_of tree n).kind ≡ r
asked_by rule pattern tree n p c r is p_is c_is told =
    ap (asks rule.pattern.kind) (sym c_is)
    ∙ ap (λ (k : SyntaxKind). asks k c) (sym (p_is ∙ root_kind pattern ∙ ap (λ (s : Syntax). s.kind) is)) ∙ sym told

-- ** At a node.

module _ (ts : List PlacedTree) (m : Meanings) (rules : List ResolvedRule) (tree : Syntax) (x : NodeId) where
  pub told_none : AreToldAt ts m rules tree x 0 []
  told_none = record {
    in_order = pairs_none (λ e f. e.rule < f.rule);
    are = λ e. ((λ at. absurd (let within = at.1 in omega arith)), (λ is. absurd (let early = is.early in omega arith)));
  }

  told_later : (n : ℕ) (e : Entry) → IsToldAt ts m rules tree x n e → IsToldAt ts m rules tree x (n + 1) e
  told_later n e is = record { here = is.here; early = let early = is.early in omega arith; tells = is.tells }

  -- what is told of a rule before the next one is told of one before it, or of it
  told_cases : (n : ℕ) (e : Entry) → IsToldAt ts m rules tree x (n + 1) e → IsToldAt ts m rules tree x n e ⊎ (e.rule ≡ n)
  told_cases n e is = elim (cases_lt e.rule n) [
    | inl low ↦ inl (record { here = is.here; early = low; tells = is.tells })
    | inr high ↦ inr (let early = is.early in omega arith)
  ]

  -- what is told of this rule
  of_rule : (n : ℕ) (rule : ResolvedRule) (e : Entry) → slice_get rules n ≡ Some rule → e.rule ≡ n → IsSomeAnd (slice_get rules e.rule) (λ rule. Tells ts m rule tree e) → Tells ts m rule tree e
  of_rule n rule e at here tells =
      let had = some_and (slice_get rules e.rule) (λ rule. Tells ts m rule tree e) tells in
      subst (λ rule. Tells ts m rule tree e) (same_Some had.0 rule (sym had.1 ∙ ap (slice_get rules) here ∙ at)) had.2

  pub told_not : (n : ℕ) (rule : ResolvedRule) (es : List Entry) → slice_get rules n ≡ Some rule → asks rule.pattern.kind (node_of tree x.node.0).kind ≡ false
      → AreToldAt ts m rules tree x n es → AreToldAt ts m rules tree x (n + 1) es
  told_not n rule es at unasked so_far = record {
    in_order = so_far.in_order;
    are = λ e. (
      (λ in_es. told_later n e ((so_far.are e).0 in_es)),
      (λ is. elim (told_cases n e is) [
        | inl earlier ↦ (so_far.are e).1 earlier
        | inr here ↦
            let asked = (of_rule n rule e at here is.tells).asked in
            absurd (false≢true (sym unasked ∙ ap (λ (x : NodeId). asks rule.pattern.kind (node_of tree x.node.0).kind) (sym is.here) ∙ asked))
      ]),
    );
  }

  one_truth : (a b : Bool) (P : Type 0) → IsTrue a ↔ P → IsTrue b ↔ P → a ≡ b
  one_truth true true P a_is b_is = refl
  one_truth true false P a_is b_is = sym (b_is.1 (a_is.0 refl))
  one_truth false true P a_is b_is = a_is.1 (b_is.0 refl)
  one_truth false false P a_is b_is = refl

  pub told_more : (n : ℕ) (rule : ResolvedRule) (e : Entry) (es : List Entry) → slice_get rules n ≡ Some rule → e.node ≡ x → e.rule ≡ n → Tells ts m rule tree e
      → AreToldAt ts m rules tree x n es → AreToldAt ts m rules tree x (n + 1) (es ++ e ∷ [])
  told_more n rule e es at node place tells so_far = record {
    in_order = all_pairs_push (λ e f. e.rule < f.rule) es e so_far.in_order
        (λ k d low. let early = ((so_far.are (get_or es k d)).0 (All-contains_itself es k d low)).early in omega arith);
    are = λ f. (
      (λ in_es. elim (Contains-push_cases es e f in_es) [
        | inl earlier ↦ told_later n f ((so_far.are f).0 earlier)
        | inr same ↦ subst (IsToldAt ts m rules tree x (n + 1)) same itself
      ]),
      (λ is. elim (told_cases n f is) [
        | inl earlier ↦ Contains-append_left es (e ∷ []) f ((so_far.are f).1 earlier)
        | inr here ↦ subst (Contains (es ++ e ∷ [])) (sym (same f here is)) (Contains-push es e)
      ]),
    );
  }
    where
      itself : IsToldAt ts m rules tree x (n + 1) e
      itself = record {
        here = node;
        early = omega arith;
        tells = and_some (slice_get rules e.rule) (λ rule. Tells ts m rule tree e) rule (ap (slice_get rules) place ∙ at) tells;
      }

      same : (f : Entry) → f.rule ≡ n → IsToldAt ts m rules tree x (n + 1) f → f ≡ e
      same f here is =
          let made : NodeId → ℕ → Bool → Entry = λ node rule matched. record { node = node; rule = rule; matched = matched } in
          let nodes = is.here ∙ sym node in
          let other = (of_rule n rule f at here is.tells).told in
          let one : f.matched ≡ e.matched =
          one_truth f.matched e.matched ((bindings : List Binding) × IsWholeMatch ts m rule e.node bindings)
          (subst (λ x. IsTrue f.matched ↔ ((bindings : List Binding) × IsWholeMatch ts m rule x bindings)) nodes other) tells.told in
          ap (λ x. made x f.rule f.matched) nodes ∙ ap (λ n. made e.node n f.matched) (here ∙ sym place) ∙ ap (made e.node e.rule) one

  pub told_all : (n : ℕ) (es : List Entry) → length rules ≤ n → AreToldAt ts m rules tree x n es → AreToldAt ts m rules tree x (length rules) es
  told_all n es all so_far = record {
    in_order = so_far.in_order;
    are = λ e. (
      (λ in_es.
          let is = (so_far.are e).0 in_es in
          let had = some_and (slice_get rules e.rule) (λ rule. Tells ts m rule tree e) is.tells in
          record { here = is.here; early = slice_get_within rules e.rule had.0 had.1; tells = is.tells }),
      (λ is. (so_far.are e).1 (record { here = is.here; early = let early = is.early in omega arith; tells = is.tells })),
    );
  }

-- ** At nodes.

pairs_append : {X : Type 0} (R : X → X → Type 0) (xs ys : List X) → AllPairs R xs → AllPairs R ys → ((x y : X) → Contains xs x → Contains ys y → R x y) → AllPairs R (xs ++ ys)
pairs_append R xs [] first second across = subst (AllPairs R) (sym (append-nil xs)) first
pairs_append R xs (y ∷ ys) first second across =
    subst (AllPairs R) (append_assoc xs (y ∷ []) ys)
    (pairs_append R (xs ++ y ∷ []) ys (all_pairs_push R xs y first (λ k d low. across (get_or xs k d) y (All-contains_itself xs k d low) (at_front y ys)))
    (pairs_tail R y ys second)
    (λ x z at_x at_z.
    elim (Contains-push_cases xs y x at_x) [
      | inl earlier ↦ across x z earlier (at_back y z ys at_z)
      | inr same ↦ subst (λ x. R x z) same (All-contains (R y) ys z (pairs_head R y ys second) at_z)
    ]))

module _ (w : Workspace) (m : Meanings) (rules : List ResolvedRule) where
  pub none_told : AreToldOf w m rules [] []
  none_told = record {
    in_order = pairs_none (EntryBefore (trees w));
    are = λ e. ((λ at. absurd (let within = at.1 in omega arith)), (λ is. absurd (let within = is.0.1 in omega arith)));
  }

  at_tree : (s : Syntax) (x : NodeId) (e : Entry) → tree_of w x.tree ≡ Some s → e.node ≡ x → IsTold w m rules e → IsToldAt (trees w) m rules s x (length rules) e
  at_tree s x e tree here told =
      let rule = some_and (slice_get rules e.rule) (λ rule. IsSomeAnd (tree_of w e.node.tree) (λ tree. Tells (trees w) m rule tree e)) told in
      let in_tree = some_and (tree_of w e.node.tree) (λ tree. Tells (trees w) m rule.0 tree e) rule.2 in
      let same = same_Some in_tree.0 s (sym in_tree.1 ∙ ap (λ (x : NodeId). tree_of w x.tree) here ∙ tree) in
      record {
        here = here;
        early = slice_get_within rules e.rule rule.0 rule.1;
        tells = and_some (slice_get rules e.rule) (λ rule. Tells (trees w) m rule s e) rule.0 rule.1 (subst (λ tree. Tells (trees w) m rule.0 tree e) same in_tree.2);
      }

  from_tree : (s : Syntax) (x : NodeId) (e : Entry) → tree_of w x.tree ≡ Some s → IsToldAt (trees w) m rules s x (length rules) e → IsTold w m rules e
  from_tree s x e tree is =
      let rule = some_and (slice_get rules e.rule) (λ rule. Tells (trees w) m rule s e) is.tells in
      and_some (slice_get rules e.rule) (λ rule. IsSomeAnd (tree_of w e.node.tree) (λ tree. Tells (trees w) m rule tree e)) rule.0 rule.1
      (and_some (tree_of w e.node.tree) (λ tree. Tells (trees w) m rule.0 tree e) s (ap (λ (x : NodeId). tree_of w x.tree) is.here ∙ tree) rule.2)

  pub told_next : (nodes : List NodeId) (x : NodeId) (s : Syntax) (es new : List Entry) → tree_of w x.tree ≡ Some s → ((y : NodeId) → Contains nodes y → NodeBefore (trees w) y x)
      → AreToldOf w m rules nodes es → AreToldAt (trees w) m rules s x (length rules) new → AreToldOf w m rules (nodes ++ x ∷ []) (es ++ new)
  told_next nodes x s es new tree before so_far told = record {
    in_order = pairs_append (EntryBefore (trees w)) es new so_far.in_order
        (λ i j d less within.
        let here = (λ (e : Entry) (at : Contains new e). ((told.are e).0 at).here) in
        let low : i < length new = omega arith in
        inr (
          here (get_or new i d) (All-contains_itself new i d low) ∙ sym (here (get_or new j d) (All-contains_itself new j d within)),
          told.in_order i j d less within,
        ))
        (λ e f at_e at_f.
        inl (subst (NodeBefore (trees w) e.node) (sym ((told.are f).0 at_f).here) (before e.node ((so_far.are e).0 at_e).0)));
    are = λ e. (
      (λ at. elim (Contains-append_cases es new e at) [
        | inl earlier ↦
            (let known = (so_far.are e).0 earlier in (Contains-append_left nodes (x ∷ []) e.node known.0, known.1))
        | inr here ↦ (
            let is = (told.are e).0 here in
            (subst (Contains (nodes ++ x ∷ [])) (sym is.here) (Contains-push nodes x), from_tree s x e tree is)
            )
      ]),
      (λ is. elim (Contains-push_cases nodes x e.node is.0) [
        | inl earlier ↦ Contains-append_left es new e ((so_far.are e).1 (earlier, is.1))
        | inr here ↦ Contains-append_right es new e ((told.are e).1 (at_tree s x e tree (sym here) is.1))
      ]),
    );
  }

  -- the nodes before a place of nodes in order come before that at the place
  come_before : (nodes : List NodeId) (i : ℕ) (x : NodeId) → AllPairs (NodeBefore (trees w)) nodes → slice_get nodes i ≡ Some x → (y : NodeId) → Contains (take i nodes) y → NodeBefore (trees w) y x
  come_before nodes i x in_order at y before =
      let k = before.0 in
      let within = slice_get_within nodes i x at in
      let low : k < i = omega (arith, before.1, length-take i nodes) in
      let same : get_or nodes k y ≡ y = sym (get_or-take i nodes k y low) ∙ before.2 in
      let here : slice_get nodes k ≡ Some y = slice_get-get_or nodes k y (omega arith) ∙ ap Some same in
      pairs_at (NodeBefore (trees w)) nodes k i y x in_order low here at

  pub told_turn : (nodes : List NodeId) (i : ℕ) (x : NodeId) (s : Syntax) (es new all : List Entry) → AllPairs (NodeBefore (trees w)) nodes → slice_get nodes i ≡ Some x
      → tree_of w x.tree ≡ Some s → AreToldOf w m rules (take i nodes) es → AreToldAt (trees w) m rules s x (length rules) new → all ≡ es ++ new
      → AreToldOf w m rules (take (i + 1) nodes) all
  told_turn nodes i x s es new all in_order at tree so_far told is =
      let within = slice_get_within nodes i x at in
      let here : get_or nodes i x ≡ x = same_Some (get_or nodes i x) x (sym (slice_get-get_or nodes i x within) ∙ at) in
      let more = take_more nodes i x within ∙ ap (λ (y : NodeId). take i nodes ++ y ∷ []) here in
      subst (λ (ns : List NodeId). AreToldOf w m rules ns all) (sym more)
      (subst (AreToldOf w m rules (take i nodes ++ x ∷ [])) (sym is)
      (told_next (take i nodes) x s es new tree (come_before nodes i x in_order at) so_far told))

  pub told_last : (nodes : List NodeId) (i : ℕ) (es : List Entry) → length nodes ≤ i → AreToldOf w m rules (take i nodes) es → AreToldOf w m rules nodes es
  told_last nodes i es all so_far = subst (λ (ns : List NodeId). AreToldOf w m rules ns es) (take_all i nodes all) so_far

  pub ok_told : {V E : Type 0} (items : V → List Entry) (nodes : List NodeId) (file : FileId) (snippet : List ℕ) (r : Result V E)
      → ((x : NodeId) → Contains nodes x ↔ IsShown w file snippet x) → IfOk r (λ v. AreToldOf w m rules nodes (items v))
      → IfOk r (λ v. AreEntries w m rules file snippet (items v))
  ok_told items nodes file snippet (Ok v) shown told = record {
    in_order = told.in_order;
    are = λ e. (
      (λ at. let known = (told.are e).0 at in ((shown e.node).0 known.0, known.1)),
      (λ is. (told.are e).1 ((shown e.node).1 is.0, is.1)),
    );
  }
  ok_told items nodes file snippet (Err e) shown told = told

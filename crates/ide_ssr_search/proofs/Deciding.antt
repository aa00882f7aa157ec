-- What is asked of a match holds or doesn't.
use Rattle.std.proofs.Common.{◌≡◌, ℕ, zero, suc, min, max, Bool, true, false, inl, inr, List, [], ◌∷◌, All, Contains, Option, Some, None, IfSome, IsSomeAnd, refl, sym, ap, ◌∙◌, subst, arith}
use Rattle.std.specs.Prelude.{◌↔◌, IsTrue, IsSome}
use Rattle.std.proofs.lemmas.Bool.{cases_eq, false≢true}
use Rattle.std.proofs.lemmas.List.Elements.{All-contains}
use Rattle.std.proofs.lemmas.Option.{none-some, same_Some}
use Rattle.ssr_syntax_kinds.specs.declared.kinds.SyntaxKind.{SyntaxKind}
use Rattle.ssr_syntax_kinds.specs.declared.kinds.SyntaxKind.TheVariants as k
use Rattle.ssr_syntax_tree.specs.Syntax.{tokens_of}
use Rattle.ssr_syntax_tree.specs.Places.{node_of}
use Rattle.ssr_syntax_tree.proofs.Lists.{at_front, at_back, front_or_back}
use Rattle.ssr_base_trees.specs.declared.ids.NodeId.{NodeId}
use Rattle.ssr_base_trees.specs.declared.ids.ScopeId.{ScopeId}
use Rattle.ssr_base_trees.specs.declared.semantics.Res.{Res}
use Rattle.ssr_base_trees.specs.declared.semantics.Res.TheVariants as res
use Rattle.ssr_base_trees.specs.Meanings.{Meanings}
use Rattle.ssr_base_trees.specs.Workspace.{Workspace, PlacedTree, FileSpan, trees, with_number, above, original_range}
use Rattle.ssr_base_trees.specs.Built.{IsNodeOf, IsMacroCall, IsBuilt}
use Rattle.ssr_base_trees.specs.Laws.{climbed, IsBelow, LiesIn, file_root}
use Rattle.ssr_base_trees.proofs.Shared.{reaches_its_file}
use Rattle.ide_ssr_resolved_rule.specs.declared.used_paths.UsedPath.{UsedPath}
use Rattle.ide_ssr_resolved_rule.specs.Resolved.{ResolvedRule}
use Rattle.ide_ssr_bindings.specs.declared.bindings.Binding.{Binding}
use Rattle.ide_ssr_bindings.proofs.Deciding.{Decided, both, likewise, denied, given, of_some, if_some, each, each_two, some_one, all_of, less, at_most, of_kind, lies_in}
use Rattle.ide_ssr_bindings.specs.Found.{AreDisjoint, IsAtOrBelow, HasByte, ShareNoByte, held_range}
use Rattle.ide_ssr_search.specs.Context.{Context}
use Rattle.ide_ssr_search.specs.Permitted.{IsUse, arguments_range, IsSearched, IsOpen, names_self, IsInFunction, IsPermitted}
use Rattle.ide_ssr_search.specs.Printing.{IsReached, CanBeWritten}
use Rattle.ide_ssr_search.specs.WholeMatches.{LiesInArguments, IsPlaced}
use Rattle.ide_ssr_search.specs.Private.Whole.{IsPlacedMatch}
use Rattle.ide_ssr_search.proofs.Trees.{then_some, below_up, up_below}
use Rattle.ide_ssr_search.proofs.Finding.{at_id}

-- ** Nodes and ranges.

is_there : {A : Type 0} (o : Option A) → Decided (IsSome o)
is_there None = inr (λ some. false≢true some)
is_there (Some x) = inl refl

one_node : (a b : NodeId) → Decided (a ≡ b)
one_node a b =
    likewise (both (cases_eq a.tree b.tree) (cases_eq a.node.0 b.node.0)) (λ h. at_id b.tree b.node.0 a h.0 h.1)
    (λ same. (ap (λ (x : NodeId). x.tree) same, ap (λ (x : NodeId). x.node.0) same))

is_searched : (restrictions : List FileSpan) (range : FileSpan) → Decided (IsSearched restrictions range)
is_searched [] range = inl (inl refl)
is_searched (r ∷ rs) range =
    likewise (some_one (LiesIn range) (lies_in range) (r ∷ rs)) (λ one. inr one)
    (λ searched. elim searched [ inl none ↦ absurd (cc none) | inr one ↦ one ])

is_placed : (ts : List PlacedTree) (t : ℕ) (o : Option FileSpan) → Decided (IsPlaced ts t o)
is_placed ts t o =
    of_some (LiesInArguments ts t)
    (λ range. of_some (λ p. IfSome p.call (λ call. IsSomeAnd (arguments_range ts call) (LiesIn range)))
    (λ p. if_some (λ call. IsSomeAnd (arguments_range ts call) (LiesIn range)) (λ call. of_some (LiesIn range) (lies_in range) (arguments_range ts call)) p.call)
    (with_number ts t))
    o

share_no_byte : (ts : List PlacedTree) (t : ℕ) (a b : Binding) → Decided (ShareNoByte ts t a b)
share_no_byte ts t a b = by (held_range ts t a) (held_range ts t b) refl refl
  where
    by : (o p : Option FileSpan) → held_range ts t a ≡ o → held_range ts t b ≡ p → Decided (ShareNoByte ts t a b)
    by None p none is = inl (λ r s first second. absurd (none-some r (sym none ∙ first)))
    by (Some q) None is none = inl (λ r s first second. absurd (none-some s (sym none ∙ second)))
    by (Some r) (Some s) is_r is_s =
        likewise (at_most (min r.span.end s.span.end) (max r.span.start s.span.start))
        (λ low q u first second.
        subst (λ (q : FileSpan). AreDisjoint q u) (same_Some r q (sym is_r ∙ first)) (subst (AreDisjoint r) (same_Some s u (sym is_s ∙ second)) low))
        (λ apart. apart r s is_r is_s)

pub is_placed_match : (ts : List PlacedTree) (x : NodeId) (bindings : List Binding) → Decided (IsPlacedMatch ts x bindings)
is_placed_match ts x bindings =
    likewise
    (both (is_placed ts x.tree (original_range ts x))
    (both (each (λ b. IsPlaced ts x.tree (held_range ts x.tree b)) (λ b. is_placed ts x.tree (held_range ts x.tree b)) bindings)
    (each_two (ShareNoByte ts x.tree) (share_no_byte ts x.tree) bindings)))
    (λ h. record { placed = h.0; bindings_placed = h.1.0; apart = h.1.1 })
    (λ placed. (placed.placed, (placed.bindings_placed, placed.apart)))

-- ** Templates.

is_reached : (m : Meanings) (scope : ScopeId) (thing : Res) → Decided (IsReached m scope thing)
is_reached m scope (res.Def def) = is_there (m.path_from scope def)
is_reached m scope (res.Local n) = inl tt
is_reached m scope (res.TypeParam n) = inl tt
is_reached m scope (res.ConstParam n) = inl tt
is_reached m scope (res.SelfType n) = inl tt
is_reached m scope (res.Other n) = inl tt

pub can_be_written : (m : Meanings) (rule : ResolvedRule) (x : NodeId) → Decided (CanBeWritten m rule x)
can_be_written m rule x =
    if_some (λ _. IsSomeAnd (m.scope x) (λ scope. All (λ path. IsReached m scope path.res) rule.template_paths))
    (λ _. of_some (λ scope. All (λ path. IsReached m scope path.res) rule.template_paths)
    (λ scope. each (λ (path : UsedPath). IsReached m scope path.res) (λ path. is_reached m scope path.res) rule.template_paths)
    (m.scope x))
    rule.template

-- ** What stands above.

-- the nodes above a node, from which the way up ends
nodes_above : (ts : List PlacedTree) (n : ℕ) (x top : NodeId) → climbed ts n x ≡ Some top → above ts top ≡ None
    → (xs : List NodeId) × ((a : NodeId) → IsBelow ts x a ↔ Contains xs a)
nodes_above ts zero x top is none =
    let same : x ≡ top = same_Some x top is in (
      [],
      λ a. (
        λ below. (
            let first = then_some (climbed ts below.0) (above ts x) a below.1 in
            absurd (none-some first.0 (sym none ∙ ap (above ts) (sym same) ∙ first.1))
            ),
        λ at. absurd (let within = at.1 in omega arith),
      ),
    )
nodes_above ts (suc n) x top is none =
    let first = then_some (climbed ts n) (above ts x) top is in
    let y = first.0 in
    let further = nodes_above ts n y top first.2 none in (
      y ∷ further.0,
      λ a. (
        λ below. elim (below_up ts x y a first.1 below) [
          | inl same ↦ subst (Contains (y ∷ further.0)) same (at_front y further.0)
          | inr up ↦ at_back y a further.0 ((further.1 a).0 up)
        ],
        λ at. up_below ts x y a first.1 (elim (front_or_back y a further.0 at) [
          | inl same ↦ inl same
          | inr later ↦ inr ((further.1 a).1 later)
        ]),
      ),
    )

module _ (w : Workspace) (b : IsBuilt w) (x : NodeId) (node : IsNodeOf (trees w) x) where
  -- those above the node
  way_up : (xs : List NodeId) × ((a : NodeId) → IsBelow (trees w) x a ↔ Contains xs a)
  way_up =
      let up = reaches_its_file w x b node in
      nodes_above (trees w) up.steps x (file_root (trees w) x) up.reached up.top

  up_from : (a : NodeId) → IsAtOrBelow (trees w) x a ↔ Contains (x ∷ way_up.0) a
  up_from a = (
    λ up. elim up [
      | inl same ↦ subst (Contains (x ∷ way_up.0)) same (at_front x way_up.0)
      | inr below ↦ at_back x a way_up.0 ((way_up.1 a).0 below)
    ],
    λ at. elim (front_or_back x a way_up.0 at) [ inl same ↦ inl same | inr above ↦ inr ((way_up.1 a).1 above) ],
  )

  is_open : (restrictions : List FileSpan) → Decided (IsOpen w restrictions x)
  is_open restrictions =
      let Outside : NodeId → Type 0 = λ a. IsUse (trees w) a → ⊥ in
      let Argued : NodeId → Type 0 = λ a. IsMacroCall (trees w) a → IsSome (arguments_range (trees w) a) in
      likewise
      (both (of_some HasByte (λ range. less range.span.start range.span.end) (original_range (trees w) x))
      (both (of_some (IsSearched restrictions) (is_searched restrictions) (original_range (trees w) x))
      (both (each Outside (λ a. denied (of_tree_kind a k.USE)) (x ∷ way_up.0))
      (each Argued (λ a. given (of_tree_kind a k.MACRO_CALL) (is_there (arguments_range (trees w) a))) way_up.0))))
      (λ h. record {
        node = node;
        has_byte = h.0;
        searched = h.1.0;
        outside_use = λ a up. All-contains Outside (x ∷ way_up.0) a h.1.1.0 ((up_from a).0 up);
        calls_have_arguments = λ a below. All-contains Argued way_up.0 a h.1.1.1 ((way_up.1 a).0 below);
      })
      (λ known. (
        known.has_byte,
        (
          known.searched,
          (
            all_of Outside (x ∷ way_up.0) (λ a at. known.outside_use a ((up_from a).1 at)),
            all_of Argued way_up.0 (λ a at. known.calls_have_arguments a ((way_up.1 a).1 at)),
          ),
        ),
      ))
    where
      of_tree_kind : (a : NodeId) (kind : SyntaxKind) → Decided (IsSomeAnd (with_number (trees w) a.tree) (λ p. (node_of p.syntax a.node.0).kind ≡ kind))
      of_tree_kind a kind =
          of_some (λ p. (node_of p.syntax a.node.0).kind ≡ kind) (λ p. of_kind (node_of p.syntax a.node.0).kind kind) (with_number (trees w) a.tree)

  in_function : (function : Option NodeId) → Decided (IsInFunction (trees w) function x)
  in_function function =
      of_some (IsAtOrBelow (trees w) x)
      (λ f. likewise (some_one (λ a. a ≡ f) (λ a. one_node a f) (x ∷ way_up.0))
      (λ one. (up_from f).1 (subst (Contains (x ∷ way_up.0)) one.2 one.1))
      (λ up. (f, (up_from f).0 up, refl)))
      function

  pub is_permitted : (context : Context) (rule : ResolvedRule) → Decided (IsPermitted w context rule x)
  is_permitted context rule =
      likewise (both (is_open context.restrictions) (given (of_bool (names_self (tokens_of rule.pattern))) (in_function context.function)))
      (λ h. record { open_to_all = h.0; own_self = h.1 })
      (λ permitted. (permitted.open_to_all, permitted.own_self))
    where
      of_bool : (t : Bool) → Decided (IsTrue t)
      of_bool true = inl refl
      of_bool false = inr false≢true

-- A search that is led by usages misses nothing.
use Rattle.std.proofs.Common.{◌≡◌, ◌↔◌, ℕ, ◌+◌, ◌-◌, Bool, true, false, cond, List, [], ◌∷◌, All, Option, Some, None, refl, sym, ap, ◌∙◌, subst, inl, inr, ◌⊎◌, arith}
use Rattle.std.proofs.lemmas.Bool.{le-leb}
use Rattle.std.proofs.lemmas.List.Elements.{Contains-append_left, Contains-append_right, Contains-push}
use Rattle.std.proofs.lemmas.Option.{none-some, same_Some}
use Rattle.std.specs.Option.{option_and_then, option_map_or}
use Rattle.std.specs.Prelude.{nat_lt, Contains, IfSome}
use Rattle.ssr_syntax_kinds.specs.declared.kinds.SyntaxKind.TheVariants as k
use Rattle.ssr_syntax_tree.proofs.Lists.{all_at}
use Rattle.ssr_syntax_tree.proofs.Shared.{node_of-number}
use Rattle.ssr_syntax_tree.specs.Places.{Node, HasNode, node_of, root_of, depth_at}
use Rattle.ssr_syntax_tree.specs.Syntax.{Syntax, tokens_of}
use Rattle.ssr_base_trees.proofs.Shared.{told_is, some_and, same_res-equal}
use Rattle.ssr_base_trees.specs.declared.ids.DefId.{DefId}
use Rattle.ssr_base_trees.specs.declared.ids.NodeId.{NodeId}
use Rattle.ssr_base_trees.specs.declared.semantics.Res.TheVariants as res
use Rattle.ssr_base_trees.specs.Laws.{climbed}
use Rattle.ssr_base_trees.specs.Meanings.{Meanings, same_res, IsNamed, IsNoBuiltin, IsComplete}
use Rattle.ssr_base_trees.specs.Workspace.{Workspace, PlacedTree, trees, with_number, node_id}
use Rattle.ide_ssr_resolved_rule.specs.declared.used_paths.UsedPath.{UsedPath}
use Rattle.ide_ssr_resolved_rule.specs.Resolved.{ResolvedRule}
use Rattle.ide_ssr_resolving.specs.Resolved.{IsResolvedBy}
use Rattle.ide_ssr_bindings.specs.Found.{FoundMatch}
use Rattle.ide_ssr_matching.specs.Matching.{Matches}
use Rattle.ide_ssr_search.specs.Context.{Context}
use Rattle.ide_ssr_search.specs.Found.{IsFound}
use Rattle.ide_ssr_search.specs.Permitted.{names_self}
use Rattle.ide_ssr_leading.proofs.Climb.{climb}
use Rattle.ide_ssr_leading.proofs.Facts.{Below, IsNodeIn}
use Rattle.ide_ssr_leading.proofs.MatchUsages.{Usage, path_usage, call_usage, usages_lead}
use Rattle.ide_ssr_leading.proofs.Sound.{sound}
use Rattle.ide_ssr_leading.proofs.Way.{node_in, root_in, below_in, way_down}
use Rattle.ide_ssr_leading.specs.Found.{IsLedFound, AreNamed, LedIsComplete}
use Rattle.ide_ssr_leading.specs.Leading.{length_of, longer, longest_of, picked_path, steps_from, led_to, IsLedTo}

-- ** The picked path is an eligible one.

longest_among : (pattern : Syntax) (best : Option UsedPath) (paths : List UsedPath) (path : UsedPath) → longest_of pattern best paths ≡ Some path
    → (best ≡ Some path) ⊎ Contains paths path
longest_among pattern best [] path is = inl is
longest_among pattern best (first ∷ rest) path is =
    elim (longest_among pattern (Some (longer pattern best first)) rest path is) [
      | inl here ↦ chosen best (same_Some (longer pattern best first) path here)
      | inr later ↦ inr (Contains-append_right (first ∷ []) rest path later)
    ]
  where
    taken : first ≡ path → Contains (first ∷ rest) path
    taken same = subst (Contains (first ∷ rest)) same (Contains-append_left (first ∷ []) rest first (Contains-push [] first))

    by : (b : Bool) (kept : UsedPath) → cond b first kept ≡ path → (Some kept ≡ Some path) ⊎ Contains (first ∷ rest) path
    by true kept same = inr (taken same)
    by false kept same = inl (ap Some same)

    chosen : (best : Option UsedPath) → longer pattern best first ≡ path → (best ≡ Some path) ⊎ Contains (first ∷ rest) path
    chosen None same = inr (taken same)
    chosen (Some kept) same = by (nat_lt (length_of pattern kept) (length_of pattern first)) kept same

picked_eligible : (rule : ResolvedRule) (path : UsedPath) → picked_path rule ≡ Some path → Contains rule.eligible_paths path
unfolding picked_path
picked_eligible rule path picked = by (names_self (tokens_of rule.pattern)) picked
  where
    by : (b : Bool) → cond b None (longest_of rule.pattern None rule.eligible_paths) ≡ Some path → Contains rule.eligible_paths path
    by true none = absurd (none-some path none)
    by false is =
        elim (longest_among rule.pattern None rule.eligible_paths path is) [
          | inl none ↦ absurd (none-some path none)
          | inr among ↦ among
        ]

-- ** A usage leads to the node that matches.

method_steps : (d n : ℕ) → d ≡ 2 + n → steps_from k.METHOD_CALL_EXPR d ≡ Some n
method_steps d n same = ap (λ b. cond b (Some (d - 2)) None) (le-leb 2 d (omega arith)) ∙ ap Some (let less : d - 2 ≡ n = omega arith in less)

module _ (ts : List PlacedTree) (m : Meanings) (rule : ResolvedRule) (path : UsedPath) (x : NodeId) (p : PlacedTree)
    (is : with_number ts x.tree ≡ Some p) (has : HasNode p.syntax x.node.0) (are_named : AreNamed ts) (told : IsComplete m)
    (no_builtin : IsNoBuiltin m path.res) where
  abbrev depth : ℕ
  depth = depth_at rule.pattern path.node.0

  named : (e : Node) → IsNodeIn p.syntax e → IsNamed (node_id x.tree e.number)
  named e there =
      let few = are_named x.tree p is in
      let low = there.has in
      (few.0, omega (arith, few.1))

  reached : (steps : ℕ) (e : Node) → Below e (node_of p.syntax x.node.0) steps → climbed ts steps (node_id x.tree e.number) ≡ Some x
  reached steps e below =
      climb ts x.tree p is steps e (node_of p.syntax x.node.0) (node_in p.syntax x.node.0 has) below
      ∙ ap (λ n. Some (node_id x.tree n)) (node_of-number p.syntax x.node.0 has)

  led : (e : Node) (steps : ℕ) → IsNodeIn p.syntax e → steps_from e.kind depth ≡ Some steps → Below e (node_of p.syntax x.node.0) steps
      → led_to ts depth (node_id x.tree e.number) ≡ Some x
  unfolding led_to
  led e steps there up below =
      let usage = node_id x.tree e.number in
      ap (λ o. option_and_then (λ steps. climbed ts steps usage) (option_and_then (λ kind. steps_from kind depth) o))
      (told_is (λ p. Some (node_of p.syntax e.number).kind) ts usage p is there.has ∙ ap (λ (node : Node). Some node.kind) there.is)
      ∙ ap (option_and_then (λ steps. climbed ts steps usage)) up
      ∙ reached steps e below

  -- a method call that calls the same is a usage
  called : (e : Node) → IsNodeIn p.syntax e → (o : Option DefId) → m.method (node_id x.tree e.number) ≡ o
      → option_map_or (λ function. same_res path.res (res.Def function)) o false ≡ true → Contains (m.usages path.res) (node_id x.tree e.number)
  called e there None none calls = let e : false ≡ true = calls in cc
  called e there (Some function) calls_it calls =
      let same = same_res-equal path.res (res.Def function) calls in
      let usage = node_id x.tree e.number in
      subst (λ r. Contains (m.usages r) usage) (sym same)
      (told.methods function usage (subst (IsNoBuiltin m) same no_builtin) (named e there) calls_it)

  from_usage : Usage m x.tree path.res (node_of p.syntax x.node.0) depth → IsLedTo ts m rule x path
  from_usage (path_usage e below kind stands) =
      let there = below_in p.syntax depth e (node_of p.syntax x.node.0) (node_in p.syntax x.node.0 has) below in
      let usage = node_id x.tree e.number in (
        usage,
        told.paths path.res usage no_builtin (named e there) stands,
        led e depth there (ap (λ kind. steps_from kind depth) kind) below,
      )
  from_usage (call_usage e n steps below kind calls) =
      let there = below_in p.syntax n e (node_of p.syntax x.node.0) (node_in p.syntax x.node.0 has) below in
      let usage = node_id x.tree e.number in (
        usage,
        called e there (m.method usage) refl calls,
        led e n there (ap (λ kind. steps_from kind depth) kind ∙ method_steps depth n steps) below,
      )

-- ** The law.

pub complete : (w : Workspace) (m : Meanings) (context : Context) → AreNamed (trees w) → IsComplete m → LedIsComplete w m context
complete w m context are_named told rule x bindings resolved permitted whole =
    record { permitted = permitted; led = by (picked_path rule) refl }
  where
    by : (o : Option UsedPath) → picked_path rule ≡ o → IfSome o (IsLedTo (trees w) m rule x)
    by None none = tt
    by (Some path) picked =
        let known = sound m rule path resolved (picked_eligible rule path picked) in
        let q = node_of rule.pattern path.node.0 in
        let matched =
        some_and (with_number (trees w) x.tree) (λ p. Matches m x.tree rule (root_of rule.pattern) (node_of p.syntax x.node.0) bindings) whole.matches
        in
        let there = some_and (with_number (trees w) x.tree) (λ p. HasNode p.syntax x.node.0) permitted.open_to_all.node in
        let p = matched.0 in
        let one : there.0 ≡ p = same_Some there.0 p (sym there.1 ∙ matched.1) in
        from_usage (trees w) m rule path x p matched.1 (subst (λ (p : PlacedTree). HasNode p.syntax x.node.0) one there.2) are_named told known.1
        (usages_lead m x.tree rule q path.res known.0 (depth_at rule.pattern path.node.0) (root_of rule.pattern) (node_of p.syntax x.node.0) bindings
        matched.2 (root_in rule.pattern) (way_down rule.pattern path.node.0 known.2))

pub same_found : (w : Workspace) (m : Meanings) (context : Context) (rules : List ResolvedRule) (found : FoundMatch)
    → AreNamed (trees w) → IsComplete m → All (IsResolvedBy m) rules → IsFound w m context rules found ↔ IsLedFound w m context rules found
same_found w m context rules found are_named told resolved = (
  λ is. record {
    rule = is.rule;
    is_rule = is.is_rule;
    tried =
        complete w m context are_named told is.rule found.node found.bindings
        (all_at (IsResolvedBy m) rules found.rule is.rule resolved is.is_rule) is.permitted is.whole;
    whole = is.whole;
  },
  λ is. record { rule = is.rule; is_rule = is.is_rule; permitted = is.tried.permitted; whole = is.whole },
)

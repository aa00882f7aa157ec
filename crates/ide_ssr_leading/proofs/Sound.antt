-- Each eligible path of a rule that resolves can lead a search for the rule.
use Rattle.std.proofs.Common.{◌≡◌, ℕ, suc, Bool, true, false, not, List, ◌∷◌, All, Option, Some, None, refl, sym, ap, ◌∙◌, subst, inl, arith}
use Rattle.std.specs.Prelude.{◌==◌, Contains}
use Rattle.std.specs.List.{filter, find}
use Rattle.std.specs.Option.{option_map}
use Rattle.std.proofs.lemmas.Bool.{and_parts, both_ways, eqb-true, eq-eqb, not-true}
use Rattle.std.proofs.lemmas.List.Elements.{All-contains, All-contains_itself, All-filter, filter_passes}
use Rattle.std.proofs.lemmas.Option.{none-some, same_Some}
use Rattle.ssr_syntax_kinds.specs.declared.kinds.SyntaxKind.TheVariants as k
use Rattle.ssr_syntax_kinds.proofs.Shared.{same_kind-equal}
use Rattle.ssr_syntax_tree.specs.Places.{Node, node_of, size_of}
use Rattle.ssr_syntax_tree.proofs.Shared.{node_of-number, IsOver}
use Rattle.ssr_base_trees.specs.declared.semantics.Res.{Res}
use Rattle.ssr_base_trees.specs.Meanings.{Meanings, IsNoBuiltin}
use Rattle.ide_ssr_resolved_rule.specs.declared.qualified_calls.QualifiedCall.{QualifiedCall}
use Rattle.ide_ssr_resolved_rule.specs.declared.used_paths.UsedPath.{UsedPath}
use Rattle.ide_ssr_resolved_rule.specs.Placeholders.{placeholder_at}
use Rattle.ide_ssr_resolved_rule.specs.Resolved.{ResolvedRule}
use Rattle.ide_ssr_resolved_rule.specs.UsedPaths.{is_at}
use Rattle.ide_ssr_resolving.specs.Eligible.{is_builtin_kind, is_builtin_type, is_eligible, is_in_first_argument, eligible_paths_of}
use Rattle.ide_ssr_resolving.specs.Resolved.{IsResolvedBy}
use Rattle.ide_ssr_resolving.proofs.Shared.{IsUsed, all_used, used_kind, used_once, outermost, not_alone, are_calls, first_argument, in_first_argument}
use Rattle.ide_ssr_matching.specs.Calls.{child_nodes, call_of}
use Rattle.ide_ssr_matching.specs.TokenTrees.{is_token_tree}
use Rattle.ide_ssr_matching.specs.UsedPaths.{pattern_res}
use Rattle.ide_ssr_leading.proofs.Facts.{IsAmong, Below, IsNodeIn, IsLeading, IsSound}
use Rattle.ide_ssr_leading.proofs.Way.{is_child, node_in}
use Rattle.ide_ssr_leading.proofs.Within.{within, over, first_number}
use Rattle.ide_ssr_leading.proofs.ClearNodes.{clear_node, trees_below, placeholder_below}
use Rattle.ide_ssr_leading.proofs.Finds.{found, some_found}

no_builtin : (m : Meanings) (r : Res) → is_builtin_type m r ≡ false → IsNoBuiltin m r
no_builtin m r plain d is kind = both_ways (is_builtin_type m r) plain (ap (is_builtin_type m) is ∙ ap is_builtin_kind kind)

abbrev at_node : Node → UsedPath → Bool
at_node p = is_at (record { 0 = p.number })

abbrev calls_at : Node → QualifiedCall → Bool
calls_at p call = call.node.0 == p.number

module _ (m : Meanings) (rule : ResolvedRule) (told : IsResolvedBy m rule) where
  abbrev IsKnown : UsedPath → Type 0
  IsKnown = IsUsed m told.scope rule.names rule.pattern

  abbrev IsCall : QualifiedCall → Type 0
  IsCall call = (node_of rule.pattern call.node.0).kind ≡ k.CALL_EXPR

  all_known : All IsKnown rule.pattern_paths
  all_known = all_used m told.scope rule.names rule.pattern rule.pattern_paths told.paths

  all_calls : All IsCall rule.qualified_calls
  all_calls = subst (All IsCall) (sym told.calls) (are_calls rule.pattern m told.scope rule.pattern_paths)

  -- ** What a node stands for.

  -- a used path, and the node where it is
  record IsUsedAt (p : Node) (r : Res) : Type 0 where
    path : UsedPath
    known : IsKnown path
    at : path.node.0 ≡ p.number
    stands : path.res ≡ r

  used_at : (p : Node) (r : Res) → pattern_res rule p ≡ Some r → IsUsedAt p r
  used_at p r is = by (find (at_node p) rule.pattern_paths) refl is
    where
      by : (o : Option UsedPath) → find (at_node p) rule.pattern_paths ≡ o → option_map (λ (path : UsedPath). path.res) o ≡ Some r → IsUsedAt p r
      by None none is = absurd (none-some r is)
      by (Some path) finds is =
          let f = found IsKnown (at_node p) rule.pattern_paths path all_known finds in
          record { path = path; known = f.known; at = eqb-true path.node.0 p.number f.passes; stands = same_Some path.res r is }

  module _ (path : UsedPath) (eligible : Contains rule.eligible_paths path) where
    abbrev q : Node
    q = node_of rule.pattern path.node.0

    abbrev is_led : UsedPath → Bool
    is_led = is_eligible m rule.pattern rule.qualified_calls

    among_eligible : Contains (eligible_paths_of m rule.pattern rule.qualified_calls rule.pattern_paths) path
    among_eligible = subst (λ paths. Contains paths path) told.eligible eligible

    -- it names no builtin type, and stands in no first argument
    passes : (is_builtin_type m path.res ≡ false) × (is_in_first_argument rule.pattern rule.qualified_calls path.node.0 ≡ false)
    passes =
        let builtin = is_builtin_type m path.res in
        let inner = is_in_first_argument rule.pattern rule.qualified_calls path.node.0 in
        let both =
        and_parts (not builtin) (not inner)
        (All-contains (λ path. is_led path ≡ true) (filter is_led rule.pattern_paths) path (filter_passes is_led rule.pattern_paths) among_eligible)
        in
        (not-true builtin both.0, not-true inner both.1)

    among_used : Contains rule.pattern_paths path
    among_used =
        All-contains (Contains rule.pattern_paths) (filter is_led rule.pattern_paths) path
        (All-filter is_led (Contains rule.pattern_paths) rule.pattern_paths (All-contains_itself rule.pattern_paths)) among_eligible

    known_path : IsKnown path
    known_path = All-contains IsKnown rule.pattern_paths path all_known among_used

    number : q.number ≡ path.node.0
    number = node_of-number rule.pattern path.node.0 known_path.has

    used_path : pattern_res rule q ≡ Some path.res
    used_path =
        let first = some_found (at_node q) rule.pattern_paths path among_used (eq-eqb path.node.0 q.number (sym number)) in
        let f = found IsKnown (at_node q) rule.pattern_paths first.0 all_known first.1 in
        ap (option_map (λ (path : UsedPath). path.res)) first.1
        ∙ ap Some (used_once m told.scope rule.names rule.pattern first.0 path f.known known_path (eqb-true first.0.node.0 q.number f.passes ∙ number))

    kind : q.kind ≡ k.PATH
    kind = used_kind m told.scope rule.names rule.pattern path known_path

    no_placeholder : (p : Node) (d i : ℕ) → IsNodeIn rule.pattern p → Below q p d → placeholder_at rule.names p ≡ Some i → ⊥
    no_placeholder p d i is below alone =
        not_alone m told.scope rule.names q path.res i (clear_node rule.pattern q told.clear (node_in rule.pattern path.node.0 known_path.has)).1 known_path.is
        (placeholder_below rule.names d q p i below alone)

    no_token_tree : (p : Node) (d : ℕ) → IsNodeIn rule.pattern p → Below q p d → is_token_tree p ≡ true → ⊥
    no_token_tree p d is below tree =
        let same : q.kind ≡ k.TOKEN_TREE = same_kind-equal q.kind k.TOKEN_TREE (trees_below rule.pattern d q p told.clear is below tree) in
        let wrong : k.PATH ≡ k.TOKEN_TREE = sym kind ∙ same in
        cc

    no_used_path : (p : Node) (d : ℕ) (u : Res) → IsNodeIn rule.pattern p → Below q p (suc d) → pattern_res rule p ≡ Some u → ⊥
    no_used_path p d u is below stands =
        let upper = used_at p u stands in
        let at = upper.at in
        let above : IsOver rule.pattern upper.path.node.0 path.node.0 =
        subst (λ a. IsOver rule.pattern a path.node.0) (sym at) (subst (IsOver rule.pattern p.number) number (over rule.pattern d q p is below))
        in
        outermost m told.scope rule.names rule.pattern upper.path path upper.known known_path above

    no_first_argument :
        (p list first : Node) (rest : List Node) (d : ℕ) (call : QualifiedCall)
        → IsNodeIn rule.pattern p → call_of rule p ≡ Some call → IsAmong (child_nodes p) list → list.kind ≡ k.ARG_LIST
        → child_nodes list ≡ first ∷ rest → Below q first d → ⊥
    no_first_argument p list first rest d call is calls among arguments nodes below =
        let list_known = is_child rule.pattern p list is among in
        let listed = list_known.node in
        let first_known = is_child rule.pattern list first listed (subst (λ nodes. IsAmong nodes first) (sym nodes) (inl refl)) in
        let there = first_known.node in
        let f = found IsCall (calls_at p) rule.qualified_calls call all_calls calls in
        let is_first =
        first_argument rule.pattern rule.qualified_calls first.number list.number p.number (first_number list first rest nodes)
        (ap (λ (x : Node). x.parent) there.is ∙ first_known.parent) (ap (λ (x : Node). x.kind) listed.is ∙ arguments)
        (ap (λ (x : Node). x.parent) listed.is ∙ list_known.parent) f.some
        in
        let inner = within rule.pattern d q first there below in
        let low = inner.low in
        let high = inner.high in
        let size : size_of (node_of rule.pattern first.number) ≡ size_of first = ap size_of there.is in
        let at = number in
        let inside : is_in_first_argument rule.pattern rule.qualified_calls path.node.0 ≡ true =
        in_first_argument rule.pattern rule.qualified_calls first.number path.node.0 there.has (omega arith) (omega arith) is_first
        in
        both_ways (is_in_first_argument rule.pattern rule.qualified_calls path.node.0) passes.1 inside

    is_call_expr : (p : Node) (call : QualifiedCall) → IsNodeIn rule.pattern p → call_of rule p ≡ Some call → p.kind ≡ k.CALL_EXPR
    is_call_expr p call is calls =
        let f = found IsCall (calls_at p) rule.qualified_calls call all_calls calls in
        ap (λ (x : Node). x.kind) (sym is.is)
        ∙ ap (λ n. (node_of rule.pattern n).kind) (sym (eqb-true call.node.0 p.number f.passes)) ∙ f.known

    leads : IsLeading rule q path.res
    leads = record {
      path = kind;
      used = used_path;
      stand_in = no_placeholder;
      token_tree = no_token_tree;
      outermost = no_used_path;
      call = is_call_expr;
      argument = no_first_argument;
    }

-- what the search by usages rests on
pub sound : IsSound
sound m rule path told eligible = (leads m rule told path eligible, no_builtin m path.res (passes m rule told path eligible).0, (known_path m rule told path eligible).has)

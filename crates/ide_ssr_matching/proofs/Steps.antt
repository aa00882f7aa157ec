-- The bindings of a match as one step: a node of the pattern asks only for smaller ones, and more steps than it has nodes
-- change nothing.
use Rattle.std.proofs.Common.{◌≡◌, ℕ, zero, suc, ◌+◌, ◌<◌, ◌≤◌, Bool, true, false, ◌&&◌, cond, List, [], ◌∷◌, ◌++◌, map, All, Option, Some, None, refl, ◌∙◌, ap, subst, arith}
use Rattle.std.specs.Option.{option_and_then, option_map}
use Rattle.std.proofs.lemmas.List.Elements.{All-nil, All-cons, All-head, All-tail, All-append, All-map, All-weaker}
use Rattle.std.proofs.lemmas.Option.{none-some, same_Some}
use Rattle.ssr_syntax_kinds.specs.declared.kinds.SyntaxKind.TheVariants as k
use Rattle.ssr_syntax_kinds.specs.Kinds.{same_kind}
use Rattle.ssr_syntax_tree.specs.Syntax.{Forest, nothing, leaf, branch, token_count, node_count}
use Rattle.ssr_syntax_tree.specs.Places.{Node, Part, token_part, node_part, parts_in, parts_of, size_of}
use Rattle.ssr_base_trees.specs.declared.semantics.Res.{Res}
use Rattle.ssr_base_trees.specs.Meanings.{Meanings}
use Rattle.ide_ssr_resolved_rule.specs.declared.qualified_calls.QualifiedCall.{QualifiedCall}
use Rattle.ide_ssr_resolved_rule.specs.Placeholders.{placeholder_at}
use Rattle.ide_ssr_resolved_rule.specs.Resolved.{ResolvedRule}
use Rattle.ide_ssr_matching.specs.Children.{bare}
use Rattle.ide_ssr_matching.specs.TokenTrees.{is_token_tree, is_plain}
use Rattle.ide_ssr_matching.specs.UsedPaths.{arguments_of, pattern_res}
use Rattle.ide_ssr_matching.specs.Sides.{Sides, kept}
use Rattle.ide_ssr_matching.specs.Calls.{child_nodes, PathCall, call_of}
use Rattle.ide_ssr_token_trees.specs.Bindings.{joined}
use Rattle.ide_ssr_matching.specs.Bindings.{Binder, pair_by, pairs_by, counted, counted_sides, can_match, like_sides, sides_in, sides_of, sides_by, other_by, node_by, step, bindings_by, bindings_in, like_pairs}
use Rattle.ide_ssr_matching.specs.Records.{is_named, named_nodes, named_pairs}
use Rattle.ide_ssr_matching.proofs.CallParts.{nodes_all, IsCalled, method_match}
use Rattle.ide_ssr_matching.proofs.Counted.{bare_all, first_has, last_arguments_all}

-- ** Parts that are smaller.

abbrev pub IsSmaller : ℕ → Part → Type 0
IsSmaller size (token_part t token) = Unit {0}
IsSmaller size (node_part node) = size_of node < size

parts_smaller : (size parent m t : ℕ) (forest : Forest) → node_count forest < size → All (IsSmaller size) (parts_in parent m t forest)
parts_smaller size parent m t nothing lt = All-nil (IsSmaller size)
parts_smaller size parent m t (leaf token next) lt =
    All-cons (IsSmaller size) (token_part t token) (parts_in parent m (1 + t) next) tt (parts_smaller size parent m (1 + t) next lt)
parts_smaller size parent m t (branch kind below next) lt =
    let node : Node = record { number = m; parent = parent; first = t; kind = kind; children = below } in
    All-cons (IsSmaller size) (node_part node) (parts_in parent (1 + m + node_count below) (t + token_count below) next) (omega arith)
    (parts_smaller size parent (1 + m + node_count below) (t + token_count below) next (omega arith))

children_smaller : (size : ℕ) (p : Node) → size_of p ≤ size → All (IsSmaller size) (parts_of p)
children_smaller size p within = parts_smaller size p.number (1 + p.number) p.first p.children (omega arith)

arguments_smaller : (size : ℕ) (path : Node) → size_of path ≤ size → All (IsSmaller size) (arguments_of path)
arguments_smaller size path within =
    last_arguments_all (IsSmaller size) path
    (λ segment is.
    let lt : size_of segment < size = first_has (IsSmaller size) k.PATH_SEGMENT (parts_of path) segment is (children_smaller size path within) in
    children_smaller size segment (omega arith))

-- so is what counts of a node
counted_smaller : (used : Option Res) (p : Node) → All (IsSmaller (size_of p)) (bare (counted used (arguments_of p) (parts_of p)))
counted_smaller (Some r) p = bare_all (IsSmaller (size_of p)) (arguments_of p) (arguments_smaller (size_of p) p (omega arith))
counted_smaller None p = bare_all (IsSmaller (size_of p)) (parts_of p) (children_smaller (size_of p) p (omega arith))

-- and what counts of a call
nodes_smaller : (size : ℕ) (p : Node) → size_of p ≤ size → All (λ node. size_of node < size) (child_nodes p)
nodes_smaller size p within = nodes_all (IsSmaller size) (parts_of p) (children_smaller size p within)

call_smaller : (p : Node) (call : PathCall) → IsCalled p call → All (IsSmaller (size_of p)) (bare (arguments_of call.path) ++ map node_part call.arguments)
call_smaller p call is =
    let size = size_of p in
    let two = subst (All (λ node. size_of node < size)) is.nodes (nodes_smaller size p (omega arith)) in
    let callee_lt : size_of is.callee < size_of p = All-head (λ node. size_of node < size) is.callee (is.list ∷ []) two in
    let list_lt : size_of is.list < size_of p =
    All-head (λ node. size_of node < size) is.list [] (All-tail (λ node. size_of node < size) is.callee (is.list ∷ []) two)
    in
    let path_lt : size_of call.path < size_of is.callee =
    All-head (λ node. size_of node < size_of is.callee) call.path []
    (subst (All (λ node. size_of node < size_of is.callee)) is.path (nodes_smaller (size_of is.callee) is.callee (omega arith)))
    in
    All-append (IsSmaller size) (bare (arguments_of call.path)) (map node_part call.arguments)
    (bare_all (IsSmaller size) (arguments_of call.path) (arguments_smaller size call.path (omega arith)))
    (All-map (IsSmaller size) node_part call.arguments
    (subst (All (λ node. size_of node < size)) is.arguments (nodes_smaller size is.list (omega arith))))

-- ** Parts against parts.

module _ (f g : Binder) where
  abbrev AreSame : Part → Type 0
  AreSame (token_part t token) = Unit {0}
  AreSame (node_part p) = (c : Node) → f p c ≡ g p c

  pair_same : (p c : Part) → AreSame p → pair_by f p c ≡ pair_by g p c
  pair_same (token_part t token) (token_part u c) same = refl
  pair_same (token_part t token) (node_part c) same = refl
  pair_same (node_part p) (token_part u c) same = refl
  pair_same (node_part p) (node_part c) same = same c

  pairs_same : (ps cs : List Part) → All AreSame ps → pairs_by f ps cs ≡ pairs_by g ps cs
  pairs_same [] [] all = refl
  pairs_same [] (c ∷ cs) all = refl
  pairs_same (p ∷ ps) [] all = refl
  pairs_same (p ∷ ps) (c ∷ cs) all =
      ap (λ o. joined o (pairs_by f ps cs)) (pair_same p c (All-head AreSame p ps all))
      ∙ ap (joined (pair_by g p c)) (pairs_same ps cs (All-tail AreSame p ps all))

-- ** Steps.

module _ (names : Bool) (m : Meanings) (tree : ℕ) (rule : ResolvedRule) where
  named_smaller : (p : Node) (sides : Sides) (o : Option (List Node)) → option_map (named_pairs p) o ≡ Some sides → All (IsSmaller (size_of p)) sides.pattern
  named_smaller p sides None is = absurd (none-some sides is)
  named_smaller p sides (Some nodes) is =
      subst (λ (s : Sides). All (IsSmaller (size_of p)) s.pattern) (same_Some (named_pairs p nodes) sides is)
      (All-map (IsSmaller (size_of p)) node_part (child_nodes p) (nodes_smaller (size_of p) p (omega arith)))

  pairs_smaller : (p c : Node) (sides : Sides) (used : Option Res) → like_pairs names m tree rule used p c ≡ Some sides → All (IsSmaller (size_of p)) sides.pattern
  pairs_smaller p c sides (Some r) is =
      subst (λ (s : Sides). All (IsSmaller (size_of p)) s.pattern) (same_Some (counted_sides (Some r) p c) sides is) (counted_smaller (Some r) p)
  pairs_smaller p c sides None is = by (is_named rule p c) is
    where
      by : (b : Bool) → ◌≡◌ {A = Option Sides} (cond b (option_map (named_pairs p) (named_nodes p c)) (Some (counted_sides None p c))) (Some sides)
          → All (IsSmaller (size_of p)) sides.pattern
      by true is = named_smaller p sides (named_nodes p c) is
      by false is =
          subst (λ (s : Sides). All (IsSmaller (size_of p)) s.pattern) (same_Some (counted_sides None p c) sides is) (counted_smaller None p)

  like_smaller : (p c : Node) (sides : Sides) → like_sides names m tree rule p c ≡ Some sides → All (IsSmaller (size_of p)) sides.pattern
  like_smaller p c sides is = by_test (same_kind p.kind c.kind && can_match names m tree rule (pattern_res rule p) p c) is
    where
      by_test : (b : Bool) → cond b (like_pairs names m tree rule (pattern_res rule p) p c) None ≡ Some sides → All (IsSmaller (size_of p)) sides.pattern
      by_test true is = pairs_smaller p c sides (pattern_res rule p) is
      by_test false is = absurd (none-some sides is)

  pub sides_smaller : (p c : Node) (sides : Sides) → sides_of names m tree rule p c ≡ Some sides → All (IsSmaller (size_of p)) sides.pattern
  sides_smaller p c sides is = by (call_of rule p) (same_kind c.kind k.METHOD_CALL_EXPR) is
    where
      by : (o : Option QualifiedCall) (b : Bool) → sides_in names m tree rule o b p c ≡ Some sides → All (IsSmaller (size_of p)) sides.pattern
      by (Some call) true is =
          let it = method_match m tree rule call p c sides is in
          subst (λ (s : Sides). All (IsSmaller (size_of p)) s.pattern) it.same (call_smaller p it.called_nodes it.is_called)
      by (Some call) false is = like_smaller p c sides is
      by None b is = like_smaller p c sides is

  step_same : (f g : Binder) (p c : Node) → ((q : Node) → size_of q < size_of p → (d : Node) → f q d ≡ g q d)
      → step names m tree rule f p c ≡ step names m tree rule g p c
  step_same f g p c same = ap (λ rest. node_by rule (placeholder_at rule.names p) rest c) (by_kind (is_token_tree p) (is_plain rule p))
    where
      is_same : (part : Part) → IsSmaller (size_of p) part → AreSame f g part
      is_same (token_part t token) lt = tt
      is_same (node_part q) lt = same q lt

      by : (s : Option Sides) → ((sides : Sides) → s ≡ Some sides → All (IsSmaller (size_of p)) sides.pattern)
          → option_and_then (sides_by f) s ≡ option_and_then (sides_by g) s
      by None smaller = refl
      by (Some sides) smaller =
          ap (option_map (kept sides.receiver))
          (pairs_same f g sides.pattern sides.code
          (All-weaker (IsSmaller (size_of p)) (AreSame f g) is_same sides.pattern (smaller sides refl)))

      by_kind : (tree_node plain : Bool) → other_by names m tree rule f tree_node plain p c ≡ other_by names m tree rule g tree_node plain p c
      by_kind true plain = refl
      by_kind false true = by (sides_of names m tree rule p c) (sides_smaller p c)
      by_kind false false = refl

  more_steps : (n k : ℕ) (p c : Node) → size_of p ≤ n → size_of p ≤ k → bindings_by names m tree rule n p c ≡ bindings_by names m tree rule k p c
  more_steps zero k p c low high = absurd (omega arith)
  more_steps (suc n) zero p c low high = absurd (omega arith)
  more_steps (suc n) (suc k) p c low high =
      step_same (bindings_by names m tree rule n) (bindings_by names m tree rule k) p c (λ q lt d. more_steps n k q d (omega arith) (omega arith))

  pub bindings_step : (p c : Node) → bindings_in names m tree rule p c ≡ step names m tree rule (bindings_in names m tree rule) p c
  unfolding bindings_in
  bindings_step p c =
      more_steps (size_of p) (suc (node_count p.children)) p c (omega arith) (omega arith)
      ∙ step_same (bindings_by names m tree rule (node_count p.children)) (bindings_in names m tree rule) p c
      (λ q lt d. more_steps (node_count p.children) (size_of q) q d (omega arith) (omega arith))

-- Which placeholders a match binds: those of its pattern, from the left.
use Rattle.std.proofs.Common.{◌≡◌, ℕ, ◌+◌, ◌==◌, ◌&&◌, Bool, true, false, not, is_some, map, take, drop, List, [], ◌∷◌, ◌++◌, All, Option, Some, None, refl, sym, ◌∙◌, ap, subst, append_assoc, append-nil, arith}
use Rattle.std.specs.Prelude.{if◌then◌else◌}
use Rattle.std.specs.List.{cons_option, find}
use Rattle.std.specs.Option.{option_and_then, option_map, option_map_or}
use Rattle.std.proofs.lemmas.Bool.{and_parts, eqb-true, not-true, or_parts}
use Rattle.std.proofs.lemmas.List.{map-append}
use Rattle.std.proofs.lemmas.List.Elements.{All-append, All-head, All-map, All-tail}
use Rattle.std.proofs.lemmas.Option.{none-some}
use Rattle.ssr_syntax_kinds.specs.declared.kinds.SyntaxKind.{SyntaxKind}
use Rattle.ssr_syntax_kinds.specs.declared.kinds.SyntaxKind.TheVariants as k
use Rattle.ssr_syntax_kinds.specs.Kinds.{same_kind}
use Rattle.ssr_syntax_kinds.proofs.Shared.{same_kind-equal}
use Rattle.ssr_syntax_tree.specs.declared.number.NodeNo.{NodeNo}
use Rattle.ssr_syntax_tree.specs.Syntax.{Syntax, Forest, nothing, leaf, branch, token_count, node_count, tokens_in, tokens_of}
use Rattle.ssr_syntax_tree.specs.Places.{Node, Part, token_part, node_part, node_of, parts_in, parts_of, root_of}
use Rattle.ssr_syntax_tree.proofs.Shared.{IsOf}
use Rattle.ssr_base_trees.specs.declared.semantics.Res.{Res}
use Rattle.ssr_base_trees.specs.Meanings.{Meanings}
use Rattle.ide_ssr_resolved_rule.specs.declared.used_paths.UsedPath.{UsedPath}
use Rattle.ide_ssr_resolved_rule.specs.Paths.{below_first, first_of_kind, is_arguments, from_arguments as forest_arguments, path_arguments}
use Rattle.ide_ssr_resolved_rule.proofs.Shared.{tokens_of_node}
use Rattle.ide_ssr_resolved_rule.specs.Patterns.{or_below, placeholders_in, placeholders_mixed, placeholders_below, placeholders_of, HasThemInArguments, AreInArguments, placeholders_among}
use Rattle.ide_ssr_resolved_rule.specs.StandIns.{name_at}
use Rattle.ide_ssr_resolved_rule.specs.Placeholders.{only_token, placeholder_at}
use Rattle.ide_ssr_resolved_rule.specs.Resolved.{ResolvedRule}
use Rattle.ide_ssr_resolved_rule.specs.UsedPaths.{is_at, res_at}
use Rattle.ide_ssr_bindings.specs.declared.bindings.Binding.{Binding}
use Rattle.ide_ssr_matching.specs.Children.{is_left_out, bare}
use Rattle.ide_ssr_matching.specs.UsedPaths.{from_arguments, arguments_of, pattern_res}
use Rattle.ide_ssr_token_trees.specs.Placeholders.{placeholders_from}
use Rattle.ide_ssr_token_trees.proofs.Shared.{trees_bound}
use Rattle.ide_ssr_matching.specs.TokenTrees.{is_token_tree, token_placeholder, has_token_placeholder, is_plain, is_by_parts}
use Rattle.ide_ssr_matching.specs.Matching.{Matches, Relates, bound, token_trees, method, used, alike, PairsRelate, end, tokens, nodes, named}
use Rattle.ide_ssr_matching.specs.Bindings.{counted}
use Rattle.ide_ssr_bindings.specs.declared.receivers.Receiver.{Receiver}
use Rattle.ide_ssr_bindings.specs.Receivers.{is_node, received}
use Rattle.ide_ssr_matching.specs.Sides.{Sides, kept}
use Rattle.ide_ssr_matching.specs.Calls.{nodes_among, child_nodes, PathCall}
use Rattle.ide_ssr_matching.proofs.CallParts.{nodes_all, IsCalled, method_match, callee_used}
use Rattle.ide_ssr_matching.proofs.Counted.{bare_all, first_has, counted_all, last_arguments_all}
use Rattle.ide_ssr_matching.proofs.Numbered.{numbered}
use Rattle.ide_ssr_matching.proofs.Pairs.{parts_of_it}
use Rattle.ide_ssr_matching.proofs.Spread.{IsPartOf, each_child}

-- the placeholders of bindings
abbrev pub placeholders_bound : List Binding → List ℕ
placeholders_bound bindings = map (λ binding. binding.placeholder) bindings

-- ** The placeholders among parts of a pattern.

module _ (names : List (List ℕ)) where
  abbrev at_node : Node → List ℕ
  at_node p = or_below (placeholder_at names p) (placeholders_below names p.kind p.children)

  abbrev among : List Part → List ℕ
  among [] = []
  among (token_part t token ∷ rest) = among rest
  among (node_part p ∷ rest) = at_node p ++ among rest

  among_bare : (parts : List Part) → among (bare parts) ≡ among parts
  among_bare [] = refl
  among_bare (token_part t token ∷ rest) = either (is_left_out token.kind rest) (among_bare rest)
    where
      either : (b : Bool) → among (bare rest) ≡ among rest → among (if b then bare rest else token_part t token ∷ bare rest) ≡ among rest
      either true behind = behind
      either false behind = behind
  among_bare (node_part p ∷ rest) = ap (λ is. at_node p ++ is) (among_bare rest)

  among_children : (parent n t : ℕ) (forest : Forest) → among (parts_in parent n t forest) ≡ placeholders_in names forest
  unfolding placeholder_at
  among_children parent n t nothing = refl
  among_children parent n t (leaf token next) = among_children parent n (1 + t) next
  among_children parent n t (branch kind below next) =
      ap (λ is. at_node (record { number = n; parent = parent; first = t; kind = kind; children = below }) ++ is)
      (among_children parent (1 + n + node_count below) (t + token_count below) next)

  among_arguments : (parent n t : ℕ) (forest : Forest) → among (from_arguments (parts_in parent n t forest)) ≡ placeholders_in names (forest_arguments forest)
  among_arguments parent n t nothing = refl
  among_arguments parent n t (leaf token next) = among_arguments parent n (1 + t) next
  among_arguments parent n t (branch kind below next) =
      either (is_arguments kind) (from_arguments (parts_in parent (1 + n + node_count below) (t + token_count below) next)) (forest_arguments next)
      (among_arguments parent (1 + n + node_count below) (t + token_count below) next)
    where
      either : (b : Bool) (later : List Part) (rest : Forest) → among later ≡ placeholders_in names rest
          → among (if b then parts_in parent n t (branch kind below next) else later) ≡ placeholders_in names (if b then branch kind below next else rest)
      either true later rest is = among_children parent n t (branch kind below next)
      either false later rest is = is

  among_segment : (parent n t : ℕ) (forest : Forest)
      → among (option_map_or (λ segment. from_arguments (parts_of segment)) (first_of_kind k.PATH_SEGMENT (parts_in parent n t forest)) [])
      ≡ placeholders_in names (path_arguments forest)
  among_segment parent n t nothing = refl
  among_segment parent n t (leaf token next) = among_segment parent n (1 + t) next
  among_segment parent n t (branch kind below next) =
      either (same_kind kind k.PATH_SEGMENT)
      (first_of_kind k.PATH_SEGMENT (parts_in parent (1 + n + node_count below) (t + token_count below) next)) (below_first k.PATH_SEGMENT next)
      (among_segment parent (1 + n + node_count below) (t + token_count below) next)
    where
      either : (b : Bool) (later : Option Node) (rest : Option Forest)
          → among (option_map_or (λ segment. from_arguments (parts_of segment)) later []) ≡ placeholders_in names (option_map_or forest_arguments rest nothing)
          → among (option_map_or (λ segment. from_arguments (parts_of segment)) (if b then Some (record { number = n; parent = parent; first = t; kind = kind; children = below }) else later) [])
          ≡ placeholders_in names (option_map_or forest_arguments (if b then Some below else rest) nothing)
      either true later rest is = among_arguments n (1 + n) t below
      either false later rest is = is

  at_placeholder : (p : Node) (i : ℕ) → placeholder_at names p ≡ Some i → i ∷ [] ≡ at_node p
  at_placeholder p i is = ap (λ o. or_below o (placeholders_below names p.kind p.children)) (sym is)

  at_other : (p : Node) → placeholder_at names p ≡ None → placeholders_below names p.kind p.children ≡ at_node p
  at_other p none = ap (λ o. or_below o (placeholders_below names p.kind p.children)) (sym none)

  -- ** Nodes.

  among_append : (parts more : List Part) → among (parts ++ more) ≡ among parts ++ among more
  among_append [] more = refl
  among_append (token_part t token ∷ rest) more = among_append rest more
  among_append (node_part p ∷ rest) more =
      ap (λ is. at_node p ++ is) (among_append rest more) ∙ sym (append_assoc (at_node p) (among rest) (among more))

  among_nodes : (parts : List Part) → among (map node_part (nodes_among parts)) ≡ among parts
  among_nodes [] = refl
  among_nodes (token_part t token ∷ rest) = among_nodes rest
  among_nodes (node_part p ∷ rest) = ap (λ is. at_node p ++ is) (among_nodes rest)

  -- those of the nodes below a node
  among_child_nodes : (p : Node) → among (map node_part (child_nodes p)) ≡ placeholders_in names p.children
  among_child_nodes p = among_nodes (parts_of p) ∙ among_children p.number (1 + p.number) p.first p.children

  -- a placeholder that has a node below it is that node
  below_single : (parent n t : ℕ) (forest : Forest) (i : ℕ) → (nodes_among (parts_in parent n t forest) ≡ [] → ⊥)
      → option_and_then (name_at names) (only_token forest) ≡ Some i → i ∷ [] ≡ placeholders_in names forest
  below_single parent n t nothing i some is = absurd (some refl)
  below_single parent n t (leaf token nothing) i some is = absurd (some refl)
  below_single parent n t (leaf token (leaf other next)) i some is = absurd (none-some i is)
  below_single parent n t (leaf token (branch kind below next)) i some is = absurd (none-some i is)
  below_single parent n t (branch kind below nothing) i some is = ap (λ o. or_below o (placeholders_below names kind below) ++ []) (sym is)
  below_single parent n t (branch kind below (leaf token next)) i some is = absurd (none-some i is)
  below_single parent n t (branch kind below (branch other inner next)) i some is = absurd (none-some i is)

  -- so a node with a node below it has those below it
  at_parent : (p : Node) → placeholders_below names p.kind p.children ≡ placeholders_in names p.children → (child_nodes p ≡ [] → ⊥)
      → at_node p ≡ placeholders_in names p.children
  unfolding placeholder_at
  at_parent p plain some =
      ap (or_below (option_and_then (name_at names) (only_token p.children))) plain ∙ by (option_and_then (name_at names) (only_token p.children)) refl
    where
      by : (o : Option ℕ) → option_and_then (name_at names) (only_token p.children) ≡ o
          → or_below o (placeholders_in names p.children) ≡ placeholders_in names p.children
      by None is = refl
      by (Some i) is = below_single p.number (1 + p.number) p.first p.children i some is

-- ** What stands below a node that is matched by its parts.

no_name : (o : Option ℕ) (rest : List ℕ) → is_some o ≡ false → cons_option o rest ≡ rest
no_name None rest is = refl
no_name (Some i) rest is = let e : true ≡ false = is in cc

module _ (rule : ResolvedRule) where
  -- children of which no token is a placeholder
  among_mixed : (parent n t : ℕ) (forest : Forest) → has_token_placeholder rule (parts_in parent n t forest) ≡ false
      → placeholders_mixed rule.names forest ≡ among rule.names (parts_in parent n t forest)
  unfolding placeholder_at
  among_mixed parent n t nothing none = refl
  among_mixed parent n t (leaf token next) none =
      let both = or_parts (is_some (name_at rule.names token)) (has_token_placeholder rule (parts_in parent n (1 + t) next)) none in
      no_name (name_at rule.names token) (placeholders_mixed rule.names next) both.0 ∙ among_mixed parent n (1 + t) next both.1
  among_mixed parent n t (branch kind below next) none =
      ap (λ is. at_node rule.names (record { number = n; parent = parent; first = t; kind = kind; children = below }) ++ is)
      (among_mixed parent (1 + n + node_count below) (t + token_count below) next none)

  -- below a node that is no token tree, and of which no token of its own is a placeholder
  plain_below : (p : Node) → is_token_tree p ≡ false → is_plain rule p ≡ true → placeholders_in rule.names p.children ≡ placeholders_below rule.names p.kind p.children
  plain_below p other plain =
      by (same_kind p.kind k.MACRO_RULES) plain
      ∙ ap (λ b. if b then placeholders_among rule.names (tokens_in p.children) else if same_kind p.kind k.MACRO_RULES then placeholders_mixed rule.names p.children else placeholders_in rule.names p.children) (sym other)
    where
      by : (b : Bool) → not (b && has_token_placeholder rule (parts_of p)) ≡ true
          → placeholders_in rule.names p.children ≡ (if b then placeholders_mixed rule.names p.children else placeholders_in rule.names p.children)
      by true plain =
          sym (among_mixed p.number (1 + p.number) p.first p.children (not-true (has_token_placeholder rule (parts_of p)) plain)
          ∙ among_children rule.names p.number (1 + p.number) p.first p.children)
      by false plain = refl

-- ** Used paths.

-- what is true of the used paths is true of the one at a node
used_has : (P : UsedPath → Type 0) (paths : List UsedPath) (node : NodeNo) (r : Res) → res_at paths node ≡ Some r → All P paths
    → (path : UsedPath) × P path × (path.node.0 ≡ node.0)
used_has P [] node r is all = absurd (none-some r is)
used_has P (path ∷ paths) node r is all =
    here (path.node.0 == node.0) refl (λ is. used_has P paths node r is (All-tail P path paths all)) is
  where
    here : (b : Bool) → (path.node.0 == node.0) ≡ b
        → (res_at paths node ≡ Some r → (path : UsedPath) × P path × (path.node.0 ≡ node.0))
        → option_map (λ (path : UsedPath). path.res) (if b then Some path else find (is_at node) paths) ≡ Some r
        → (path : UsedPath) × P path × (path.node.0 ≡ node.0)
    here true same behind is = (path, All-head P path paths all, eqb-true path.node.0 node.0 same)
    here false other behind is = behind is

-- ** What is bound.

kept_placeholders : (o : Option Receiver) (bs : List Binding) → placeholders_bound (kept o bs) ≡ placeholders_bound bs
kept_placeholders None bs = refl
kept_placeholders (Some r) [] = refl
kept_placeholders (Some r) (b ∷ bs) =
    ap (λ i. i ∷ placeholders_bound (map (received r) bs)) (by (is_node r.node.0 b.held)) ∙ ap (λ is. b.placeholder ∷ is) (kept_placeholders (Some r) bs)
  where
    by : (test : Bool) → (if test then record b { deref_count = r.deref_count; self_kind = r.self_kind } else b).placeholder ≡ b.placeholder
    by true = refl
    by false = refl

some_first : (kind : SyntaxKind) (parts : List Part) (node : Node) → first_of_kind kind parts ≡ Some node → nodes_among parts ≡ [] → ⊥
some_first kind [] node is none = none-some node is
some_first kind (token_part t token ∷ rest) node is none = some_first kind rest node is none
some_first kind (node_part own ∷ rest) node is none = cc

counted_of : (s : Syntax) (o : Option Res) (node : Node) → IsOf s node → All (IsPartOf s) (bare (counted o (arguments_of node) (parts_of node)))
counted_of s o node is =
    let children = each_child s node is in
    bare_all (IsPartOf s) (counted o (arguments_of node) (parts_of node))
    (counted_all (IsPartOf s) o node children
    (λ segment found. each_child s segment (first_has (IsPartOf s) k.PATH_SEGMENT (parts_of node) segment found children)))

module _ (names : Bool) (m : Meanings) (tree : ℕ) (rule : ResolvedRule) (in_arguments : AreInArguments rule.names rule.pattern rule.pattern_paths) where
  used_in_arguments : (p : Node) (r : Res) → IsOf rule.pattern p → pattern_res rule p ≡ Some r → HasThemInArguments rule.names p.children
  used_in_arguments p r is res =
      let P = λ (path : UsedPath). HasThemInArguments rule.names (node_of rule.pattern path.node.0).children in
      let found = used_has P rule.pattern_paths (record { 0 = p.number }) r res in_arguments in
      subst (λ (node : Node). HasThemInArguments rule.names node.children) (ap (node_of rule.pattern) found.2 ∙ is.1) found.1

  -- ** Calls.

  callee_is_of : (p : Node) (call : PathCall) → IsCalled p call → IsOf rule.pattern p → IsOf rule.pattern call.path
  callee_is_of p call is_call is =
      let callee =
      All-head (IsOf rule.pattern) is_call.callee (is_call.list ∷ [])
      (subst (All (IsOf rule.pattern)) is_call.nodes (nodes_all (IsPartOf rule.pattern) (parts_of p) (each_child rule.pattern p is)))
      in
      All-head (IsOf rule.pattern) call.path []
      (subst (All (IsOf rule.pattern)) is_call.path
      (nodes_all (IsPartOf rule.pattern) (parts_of is_call.callee) (each_child rule.pattern is_call.callee callee)))

  list_is_of : (p : Node) (call : PathCall) → (is : IsCalled p call) → IsOf rule.pattern p → IsOf rule.pattern is.list
  list_is_of p call is_call is =
      All-head (IsOf rule.pattern) is_call.list []
      (All-tail (IsOf rule.pattern) is_call.callee (is_call.list ∷ [])
      (subst (All (IsOf rule.pattern)) is_call.nodes (nodes_all (IsPartOf rule.pattern) (parts_of p) (each_child rule.pattern p is))))

  call_is_of : (p : Node) (call : PathCall) → IsCalled p call → IsOf rule.pattern p
      → All (IsPartOf rule.pattern) (bare (arguments_of call.path) ++ map node_part call.arguments)
  call_is_of p call is_call is =
      let path = callee_is_of p call is_call is in
      let list = list_is_of p call is_call is in
      let children = each_child rule.pattern call.path path in
      All-append (IsPartOf rule.pattern) (bare (arguments_of call.path)) (map node_part call.arguments)
      (bare_all (IsPartOf rule.pattern) (arguments_of call.path)
      (last_arguments_all (IsPartOf rule.pattern) call.path
      (λ segment found.
      each_child rule.pattern segment (first_has (IsPartOf rule.pattern) k.PATH_SEGMENT (parts_of call.path) segment found children))))
      (All-map (IsPartOf rule.pattern) node_part call.arguments
      (subst (All (IsOf rule.pattern)) is_call.arguments
      (nodes_all (IsPartOf rule.pattern) (parts_of is_call.list) (each_child rule.pattern is_call.list list))))

  -- the placeholders of a call stand in the arguments of its callee and in its own
  call_among : (p : Node) (call : PathCall) → IsCalled p call → IsOf rule.pattern p → (pattern_res rule call.path ≡ None → ⊥)
      → among rule.names (bare (arguments_of call.path) ++ map node_part call.arguments) ≡ placeholders_in rule.names p.children
  call_among p call is_call is uses =
      among_append rule.names (bare (arguments_of call.path)) (map node_part call.arguments)
      ∙ ap (λ is. is ++ among rule.names (map node_part call.arguments)) (path_among (pattern_res rule call.path) refl)
      ∙ ap (λ arguments. at_node rule.names is_call.callee ++ among rule.names (map node_part arguments)) (sym is_call.arguments)
      ∙ ap (λ is. at_node rule.names is_call.callee ++ is) list_among
      ∙ ap (λ nodes. among rule.names (map node_part nodes)) (sym is_call.nodes)
      ∙ among_child_nodes rule.names p
    where
      path_some : child_nodes call.path ≡ [] → ⊥
      path_some = some_first k.PATH_SEGMENT (parts_of call.path) is_call.segment is_call.has_segment

      callee_some : child_nodes is_call.callee ≡ [] → ⊥
      callee_some none = let e : call.path ∷ [] ≡ [] = sym is_call.path ∙ none in cc

      list_some : child_nodes is_call.list ≡ [] → ⊥
      list_some none = let e : is_call.first ∷ is_call.rest ≡ [] = sym is_call.some ∙ sym is_call.arguments ∙ none in cc

      kinds : (same_kind is_call.callee.kind k.PATH_EXPR ≡ true) × (same_kind is_call.list.kind k.ARG_LIST ≡ true)
      kinds = and_parts (same_kind is_call.callee.kind k.PATH_EXPR) (same_kind is_call.list.kind k.ARG_LIST) is_call.kinds

      -- a node of another kind than token trees and `macro_rules` items
      of_plain_kind : (kind plain : SyntaxKind) (below : Forest) → same_kind kind plain ≡ true
          → placeholders_below rule.names plain below ≡ placeholders_in rule.names below → placeholders_below rule.names kind below ≡ placeholders_in rule.names below
      of_plain_kind kind plain below is known = ap (λ kind. placeholders_below rule.names kind below) (same_kind-equal kind plain is) ∙ known

      path_plain : placeholders_below rule.names call.path.kind call.path.children ≡ placeholders_in rule.names call.path.children
      path_plain = of_plain_kind call.path.kind k.PATH call.path.children is_call.path_kind refl

      callee_plain : placeholders_below rule.names is_call.callee.kind is_call.callee.children ≡ placeholders_in rule.names is_call.callee.children
      callee_plain = of_plain_kind is_call.callee.kind k.PATH_EXPR is_call.callee.children kinds.0 refl

      list_plain : placeholders_below rule.names is_call.list.kind is_call.list.children ≡ placeholders_in rule.names is_call.list.children
      list_plain = of_plain_kind is_call.list.kind k.ARG_LIST is_call.list.children kinds.1 refl

      -- the callee is its path
      callee_among : placeholders_in rule.names call.path.children ≡ at_node rule.names is_call.callee
      callee_among =
          sym (at_parent rule.names call.path path_plain path_some)
          ∙ sym (append-nil (at_node rule.names call.path))
          ∙ ap (λ nodes. among rule.names (map node_part nodes)) (sym is_call.path)
          ∙ among_child_nodes rule.names is_call.callee
          ∙ sym (at_parent rule.names is_call.callee callee_plain callee_some)

      path_among : (o : Option Res) → pattern_res rule call.path ≡ o → among rule.names (bare (arguments_of call.path)) ≡ at_node rule.names is_call.callee
      path_among None none = absurd (uses none)
      path_among (Some r) stands =
          among_bare rule.names (arguments_of call.path)
          ∙ among_segment rule.names call.path.number (1 + call.path.number) call.path.first call.path.children
          ∙ sym (used_in_arguments call.path r (callee_is_of p call is_call is) stands)
          ∙ callee_among

      list_among : among rule.names (map node_part (child_nodes is_call.list)) ≡ among rule.names (node_part is_call.list ∷ [])
      list_among =
          among_child_nodes rule.names is_call.list
          ∙ sym (at_parent rule.names is_call.list list_plain list_some)
          ∙ sym (append-nil (at_node rule.names is_call.list))

  -- what stands in a node that is matched by its parts
  at_parts : (p : Node) → is_by_parts rule p ≡ true → placeholders_in rule.names p.children ≡ at_node rule.names p
  at_parts p by_parts =
      let it = parts_of_it rule p by_parts in
      plain_below rule p it.no_tree it.plain ∙ at_other rule.names p it.none

  -- the tokens of a token tree of the pattern, by their numbers
  among_trees : (p : Node) → IsOf rule.pattern p
      → placeholders_from (token_placeholder rule) p.first (tokens_in p.children) ≡ placeholders_among rule.names (tokens_in p.children)
  among_trees p is =
      numbered rule.names (tokens_of rule.pattern) p.first (token_count p.children) (tokens_in p.children)
      (subst (λ (node : Node). take (token_count node.children) (drop node.first (tokens_of rule.pattern)) ≡ tokens_in node.children) is.1
      (tokens_of_node rule.pattern p.number is.0))

  mutual
    matches_bind : (p c : Node) (bs : List Binding) → Relates names m tree rule p c bs → IsOf rule.pattern p → placeholders_bound bs ≡ at_node rule.names p
    matches_bind _ _ _ (bound p c i at met) is = at_placeholder rule.names p i at
    matches_bind _ _ _ (token_trees p c bs none tree_node code_tree found) is =
        trees_bound (token_placeholder rule) p c bs found
        ∙ among_trees p is
        ∙ ap (λ b. if b then placeholders_among rule.names (tokens_in p.children)
        else if same_kind p.kind k.MACRO_RULES then placeholders_mixed rule.names p.children else placeholders_in rule.names p.children) (sym tree_node)
        ∙ at_other rule.names p none
    matches_bind _ _ _ (method p c call sides bs by_parts called kind found pairs) is =
        let it = method_match m tree rule call p c sides found in
        kept_placeholders sides.receiver bs
        ∙ pairs_bind sides.pattern sides.code bs pairs
        (subst (λ (s : Sides). All (IsPartOf rule.pattern) s.pattern) it.same (call_is_of p it.called_nodes it.is_called is))
        ∙ ap (λ (s : Sides). among rule.names s.pattern) (sym it.same)
        ∙ call_among p it.called_nodes it.is_called is (callee_used m tree rule call p c sides it)
        ∙ at_parts p by_parts
    matches_bind _ _ _ (used p c r bs by_parts unmet kinds stands told arguments) is =
        pairs_bind (bare (arguments_of p)) (bare (arguments_of c)) bs arguments (counted_of rule.pattern (Some r) p is)
        ∙ among_bare rule.names (arguments_of p)
        ∙ among_segment rule.names p.number (1 + p.number) p.first p.children
        ∙ sym (used_in_arguments p r is stands)
        ∙ at_parts p by_parts
    matches_bind _ _ _ (named p c found bs by_parts unmet kinds unused can by_names found_is pairs) is =
        pairs_bind (map node_part (child_nodes p)) (map node_part found) bs pairs
        (All-map (IsPartOf rule.pattern) node_part (child_nodes p) (nodes_all (IsPartOf rule.pattern) (parts_of p) (each_child rule.pattern p is)))
        ∙ among_child_nodes rule.names p
        ∙ at_parts p by_parts
    matches_bind _ _ _ (alike p c bs by_parts unmet kinds unused can unnamed children) is =
        pairs_bind (bare (parts_of p)) (bare (parts_of c)) bs children (counted_of rule.pattern None p is)
        ∙ among_bare rule.names (parts_of p)
        ∙ among_children rule.names p.number (1 + p.number) p.first p.children
        ∙ at_parts p by_parts

    pairs_bind : (ps cs : List Part) (bs : List Binding) → PairsRelate names m tree rule ps cs bs → All (IsPartOf rule.pattern) ps → placeholders_bound bs ≡ among rule.names ps
    pairs_bind _ _ _ end all = refl
    pairs_bind _ _ _ (tokens t u p c ps cs bs kinds texts behind) all =
        pairs_bind ps cs bs behind (All-tail (IsPartOf rule.pattern) (token_part t p) ps all)
    pairs_bind _ _ _ (nodes p c ps cs found rest here behind) all =
        map-append (λ b. b.placeholder) found rest
        ∙ ap (λ ns. ns ++ placeholders_bound rest) (matches_bind p c found here (All-head (IsPartOf rule.pattern) (node_part p) ps all))
        ∙ ap (λ ns. at_node rule.names p ++ ns) (pairs_bind ps cs rest behind (All-tail (IsPartOf rule.pattern) (node_part p) ps all))

  root_is : IsOf rule.pattern (root_of rule.pattern)
  unfolding node_of
  root_is = (omega arith, refl)

  pub placeholders_related : (c : Node) (bs : List Binding) → Relates names m tree rule (root_of rule.pattern) c bs
      → placeholders_bound bs ≡ placeholders_of rule.names rule.pattern
  unfolding placeholder_at
  placeholders_related c bs matches =
      matches_bind (root_of rule.pattern) c bs matches root_is ∙ sym (append-nil (at_node rule.names (root_of rule.pattern)))

pub placeholders_are : (m : Meanings) (tree : ℕ) (rule : ResolvedRule) → AreInArguments rule.names rule.pattern rule.pattern_paths → (c : Node) (bs : List Binding)
    → Matches m tree rule (root_of rule.pattern) c bs → placeholders_bound bs ≡ placeholders_of rule.names rule.pattern
placeholders_are = placeholders_related true

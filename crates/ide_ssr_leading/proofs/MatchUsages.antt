-- Each match of a pattern has a usage of what a path of the pattern stands for, at the path's place in it.
use Rattle.std.proofs.Common.{◌≡◌, ℕ, zero, suc, ◌+◌, ◌<◌, Bool, true, false, cond, List, [], ◌∷◌, ◌++◌, map, Option, Some, None, refl, sym, ap, ◌∙◌, subst, inl, inr, arith}
use Rattle.std.proofs.lemmas.Bool.{and_parts}
use Rattle.std.proofs.lemmas.List.{length-map, map-append}
use Rattle.std.proofs.lemmas.Option.{none-some}
use Rattle.std.specs.Option.{option_map_or}
use Rattle.ssr_syntax_kinds.proofs.Shared.{same_kind-equal}
use Rattle.ssr_syntax_kinds.specs.declared.kinds.SyntaxKind.TheVariants as k
use Rattle.ssr_syntax_kinds.specs.Kinds.{same_kind}
use Rattle.ssr_syntax_tree.specs.Places.{Node, Part, node_part, parts_of}
use Rattle.ssr_base_trees.specs.declared.semantics.Res.{Res}
use Rattle.ssr_base_trees.specs.Meanings.{Meanings}
use Rattle.ssr_base_trees.specs.Workspace.{node_id}
use Rattle.ide_ssr_resolved_rule.specs.declared.qualified_calls.QualifiedCall.{QualifiedCall}
use Rattle.ide_ssr_resolved_rule.specs.Resolved.{ResolvedRule}
use Rattle.ide_ssr_bindings.specs.declared.bindings.Binding.{Binding}
use Rattle.ide_ssr_matching.proofs.Shared.{IsMethodMatch, method_match, has_method, callee_used}
use Rattle.ide_ssr_matching.specs.Calls.{nodes_among, child_nodes, first_node, method_parts, call_of, calls_same, receiver_by}
use Rattle.ide_ssr_matching.specs.Children.{bare}
use Rattle.ide_ssr_matching.specs.Matching.{Matches, Pairs}
use Rattle.ide_ssr_matching.specs.Matching as matching
use Rattle.ide_ssr_matching.specs.Sides.{Sides}
use Rattle.ide_ssr_matching.specs.UsedPaths.{arguments_of, pattern_res, code_res}
use Rattle.ide_ssr_leading.proofs.Facts.{IsAmong, Below, IsNodeIn, IsLeading}
use Rattle.ide_ssr_leading.proofs.Partners.{bare_nodes, map_nodes, partner, tail, past, found_among, among_named}
use Rattle.ide_ssr_leading.proofs.Way.{is_child}

-- ** A usage in a match.

-- What is used by a path that stands as many steps below a node, or by a method call two steps above that.
pub data Usage (m : Meanings) (tree : ℕ) (r : Res) (c : Node) (d : ℕ) : Type 0 where
  path_usage : (e : Node) → Below e c d → e.kind ≡ k.PATH → code_res m tree e ≡ Some r → Usage m tree r c d
  call_usage : (e : Node) (n : ℕ) → d ≡ 2 + n → Below e c n → e.kind ≡ k.METHOD_CALL_EXPR
      → calls_same m (Some r) (node_id tree e.number) ≡ true → Usage m tree r c d

-- what is used in a child is used in the node
up : (m : Meanings) (tree : ℕ) (r : Res) (c child : Node) (d : ℕ) → IsAmong (child_nodes c) child → Usage m tree r child d → Usage m tree r c (suc d)
up m tree r c child d among (path_usage e below kind stands) = path_usage e (child, among, below) kind stands
up m tree r c child d among (call_usage e n steps below kind calls) = call_usage e (suc n) (omega arith) (child, among, below) kind calls

-- ** Method calls.

tested : {A : Type 0} (b : Bool) (o : Option A) (x : A) → cond b o None ≡ Some x → b ≡ true
tested true o x is = refl
tested false o x is = absurd (none-some x is)

-- an argument is among the nodes in a list of arguments
argument_in : (behind : List Node) (o : Option Node) (node : Node) → first_node k.ARG_LIST behind ≡ o → IsAmong (option_map_or child_nodes o []) node
    → (list : Node) × IsAmong behind list × IsAmong (child_nodes list) node
argument_in behind None node none among = absurd among
argument_in behind (Some list) node found among = (list, found_among (λ node. same_kind node.kind k.ARG_LIST) behind list found, among)

module _ (m : Meanings) (tree : ℕ) (rule : ResolvedRule) (q : Node) (r : Res) (leads : IsLeading rule q r) where
  -- what has to be shown of a path so many steps below
  abbrev Goal : ℕ → Type 0
  Goal d =
      (p c : Node) (bs : List Binding) → Matches m tree rule p c bs → IsNodeIn rule.pattern p → Below q p d → Usage m tree r c d

  paired : (d : ℕ) → Goal d → (ps cs : List Part) (bs : List Binding) (c child : Node) → Pairs m tree rule ps cs bs
      → ((node : Node) → IsAmong (nodes_among cs) node → IsAmong (child_nodes c) node)
      → IsAmong (nodes_among ps) child → IsNodeIn rule.pattern child → Below q child d → Usage m tree r c (suc d)
  paired d goal ps cs bs c child pairs within among is below =
      let found = partner m tree rule ps cs bs child pairs among in
      up m tree r c found.node d (within found.node found.among) (goal child found.node found.bindings found.matches is below)

  module _ (p c : Node) (call : QualifiedCall) (sides : Sides) (bs : List Binding) (qualified : call_of rule p ≡ Some call)
      (is_method : c.kind ≡ k.METHOD_CALL_EXPR) (it : IsMethodMatch m tree rule call p c sides)
      (pairs : Pairs m tree rule sides.pattern sides.code bs) (is : IsNodeIn rule.pattern p) where
    calls : calls_same m (pattern_res rule it.called_nodes.path) (node_id tree c.number) ≡ true
    calls =
        tested (calls_same m (pattern_res rule it.called_nodes.path) (node_id tree c.number))
        (receiver_by m tree call.qualifier_type c.number it.method.receiver.number) it.receiver it.is_received

    call_kinds : (same_kind it.is_called.callee.kind k.PATH_EXPR ≡ true) × (same_kind it.is_called.list.kind k.ARG_LIST ≡ true)
    call_kinds = and_parts (same_kind it.is_called.callee.kind k.PATH_EXPR) (same_kind it.is_called.list.kind k.ARG_LIST) it.is_called.kinds

    callee_in : IsNodeIn rule.pattern it.is_called.callee
    callee_in = (is_child rule.pattern p it.is_called.callee is (subst (λ nodes. IsAmong nodes it.is_called.callee) (sym it.is_called.nodes) (inl refl))).node

    path_in : IsNodeIn rule.pattern it.called_nodes.path
    path_in =
        (is_child rule.pattern it.is_called.callee it.called_nodes.path callee_in
        (subst (λ nodes. IsAmong nodes it.called_nodes.path) (sym it.is_called.path) (inl refl))).node

    list_among : IsAmong (child_nodes p) it.is_called.list
    list_among = subst (λ nodes. IsAmong nodes it.is_called.list) (sym it.is_called.nodes) (inr (inl refl))

    -- the callee is used by the method call
    by_path : (d : ℕ) → Below q it.called_nodes.path d → Usage m tree r c (suc (suc d))
    by_path zero below =
        call_usage c 0 (omega arith) refl is_method
        (subst (λ o. calls_same m o (node_id tree c.number) ≡ true) (ap (pattern_res rule) (sym below) ∙ leads.used) calls)
    by_path (suc d) below = absurd (by (pattern_res rule it.called_nodes.path) refl)
      where
        by : (o : Option Res) → pattern_res rule it.called_nodes.path ≡ o → ⊥
        by None none = callee_used m tree rule call p c sides it none
        by (Some u) stands = leads.outermost it.called_nodes.path d u path_in below stands

    by_callee : (d : ℕ) → Below q it.is_called.callee d → Usage m tree r c (suc d)
    by_callee zero below =
        let kind = same_kind-equal it.is_called.callee.kind k.PATH_EXPR call_kinds.0 in
        let e : k.PATH ≡ k.PATH_EXPR = sym leads.path ∙ ap (λ (x : Node). x.kind) below ∙ kind in
        cc
    by_callee (suc d) below =
        elim (subst (λ nodes. IsAmong nodes below.0) it.is_called.path below.1) [
          | inl same ↦ by_path d (subst (λ node. Below q node d) same below.2)
          | inr none ↦ absurd none
        ]

    -- the arguments behind the first one pair with those of the method call
    behind_first : (d : ℕ) → Goal d → (argument : Node) → IsAmong it.is_called.rest argument → IsNodeIn rule.pattern argument → Below q argument d
        → Usage m tree r c (suc (suc d))
    behind_first d goal argument among there below =
        let ps = bare (arguments_of it.called_nodes.path) in
        let method = it.method in
        let parts = has_method c method it.is_method in
        let in_order : Pairs m tree rule (ps ++ map node_part it.called_nodes.arguments) (map node_part (method_parts method)) bs =
        subst (λ (s : Sides). Pairs m tree rule s.pattern s.code bs) (sym it.same) pairs
        in
        let in_two : Pairs m tree rule (ps ++ map node_part (it.is_called.first ∷ it.is_called.rest))
        (map node_part method.generics ++ map node_part (method.receiver ∷ method.arguments)) bs =
        subst (λ cs. Pairs m tree rule (ps ++ map node_part (it.is_called.first ∷ it.is_called.rest)) cs bs)
        (map-append node_part method.generics (method.receiver ∷ method.arguments))
        (subst (λ arguments. Pairs m tree rule (ps ++ map node_part arguments) (map node_part (method_parts method)) bs) it.is_called.some in_order)
        in
        let arguments =
        past m tree rule ps (map node_part method.generics) (map node_part (it.is_called.first ∷ it.is_called.rest)) (map node_part (method.receiver ∷ method.arguments)) bs
        (it.even ∙ sym (length-map method.generics node_part)) in_two
        in
        let behind =
        tail m tree rule (node_part it.is_called.first) (node_part method.receiver) (map node_part it.is_called.rest) (map node_part method.arguments) arguments.0 arguments.1
        in
        let found =
        partner m tree rule (map node_part it.is_called.rest) (map node_part method.arguments) behind.0 argument behind.1
        (subst (λ nodes. IsAmong nodes argument) (sym (map_nodes it.is_called.rest)) among)
        in
        let list =
        argument_in parts.behind (first_node k.ARG_LIST parts.behind) found.node refl
        (subst (λ nodes. IsAmong nodes found.node) (map_nodes method.arguments ∙ parts.arguments) found.among)
        in
        up m tree r c list.0 (suc d) (subst (λ nodes. IsAmong nodes list.0) (sym parts.nodes) (inr list.1))
        (up m tree r list.0 found.node d list.2 (goal argument found.node found.bindings found.matches there below))

    by_list : (d : ℕ) → ((e : ℕ) → e < d → Goal e) → Below q it.is_called.list d → Usage m tree r c (suc d)
    by_list zero goal below =
        let kind = same_kind-equal it.is_called.list.kind k.ARG_LIST call_kinds.1 in
        let e : k.PATH ≡ k.ARG_LIST = sym leads.path ∙ ap (λ (x : Node). x.kind) below ∙ kind in
        cc
    by_list (suc d) goal below =
        let list = it.is_called.list in
        let kind = same_kind-equal list.kind k.ARG_LIST call_kinds.1 in
        let are = it.is_called.arguments ∙ it.is_called.some in
        let there = is_child rule.pattern list below.0 (is_child rule.pattern p list is list_among).node below.1 in
        elim (subst (λ nodes. IsAmong nodes below.0) are below.1) [
          | inl same ↦
              absurd (leads.argument p list it.is_called.first it.is_called.rest d call is qualified list_among kind are
              (subst (λ node. Below q node d) same below.2))
          | inr later ↦ behind_first d (goal d (omega arith)) below.0 later there.node below.2
        ]

    by_method : (d : ℕ) → ((e : ℕ) → e < suc d → Goal e) → Below q p (suc d) → Usage m tree r c (suc d)
    by_method d goal below =
        elim (subst (λ nodes. IsAmong nodes below.0) it.is_called.nodes below.1) [
          | inl same ↦ by_callee d (subst (λ node. Below q node d) same below.2)
          | inr behind ↦
              elim behind [
                | inl same ↦ by_list d (λ e less. goal e (omega arith)) (subst (λ node. Below q node d) same below.2)
                | inr none ↦ absurd none
              ]
        ]

  -- ** Case by case.

  itself : Goal 0
  itself _ _ _ (matching.bound p c i at met) is below = absurd (leads.stand_in p 0 i is below at)
  itself _ _ _ (matching.token_trees p c bs none tree_node code_tree found) is below = absurd (leads.token_tree p 0 is below tree_node)
  itself _ _ _ (matching.method p c call sides bs by_parts qualified is_method found pairs) is below =
      let e : k.PATH ≡ k.CALL_EXPR = sym leads.path ∙ ap (λ (x : Node). x.kind) below ∙ leads.call p call is qualified in
      cc
  itself _ _ _ (matching.used p c u bs by_parts unmet kinds stands told arguments) is below =
      path_usage c refl (sym kinds ∙ ap (λ (x : Node). x.kind) (sym below) ∙ leads.path)
      (told refl ∙ sym stands ∙ ap (pattern_res rule) (sym below) ∙ leads.used)
  itself _ _ _ (matching.named p c nodes bs by_parts unmet kinds unused can by_names found pairs) is below =
      absurd (none-some r (sym unused ∙ ap (pattern_res rule) (sym below) ∙ leads.used))
  itself _ _ _ (matching.alike p c bs by_parts unmet kinds unused can unnamed pairs) is below =
      absurd (none-some r (sym unused ∙ ap (pattern_res rule) (sym below) ∙ leads.used))

  further : (d : ℕ) → ((e : ℕ) → e < suc d → Goal e) → Goal (suc d)
  further d goal _ _ _ (matching.bound p c i at met) is below = absurd (leads.stand_in p (suc d) i is below at)
  further d goal _ _ _ (matching.token_trees p c bs none tree_node code_tree found) is below = absurd (leads.token_tree p (suc d) is below tree_node)
  further d goal _ _ _ (matching.method p c call sides bs by_parts qualified is_method found pairs) is below =
      by_method p c call sides bs qualified is_method (method_match m tree rule call p c sides found) pairs is d goal below
  further d goal _ _ _ (matching.used p c u bs by_parts unmet kinds stands told arguments) is below = absurd (leads.outermost p d u is below stands)
  further d goal _ _ _ (matching.named p c nodes bs by_parts unmet kinds unused can by_names found pairs) is below =
      paired d (goal d (omega arith)) (map node_part (child_nodes p)) (map node_part nodes) bs c below.0 pairs
      (λ node among. among_named p c nodes node found (subst (λ nodes. IsAmong nodes node) (map_nodes nodes) among))
      (subst (λ nodes. IsAmong nodes below.0) (sym (map_nodes (child_nodes p))) below.1) (is_child rule.pattern p below.0 is below.1).node below.2
  further d goal _ _ _ (matching.alike p c bs by_parts unmet kinds unused can unnamed pairs) is below =
      paired d (goal d (omega arith)) (bare (parts_of p)) (bare (parts_of c)) bs c below.0 pairs
      (λ node among. subst (λ nodes. IsAmong nodes node) (bare_nodes (parts_of c)) among)
      (subst (λ nodes. IsAmong nodes below.0) (sym (bare_nodes (parts_of p))) below.1) (is_child rule.pattern p below.0 is below.1).node below.2

  up_to : (limit d : ℕ) → d < limit → Goal d
  up_to zero d less = absurd (omega arith)
  up_to (suc limit) zero less = itself
  up_to (suc limit) (suc d) less = further d (λ e lower. up_to limit e (omega arith))

  pub usages_lead : (d : ℕ) → Goal d
  usages_lead d = up_to (suc d) d (omega arith)

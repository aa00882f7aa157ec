-- The nodes of a method call, in the order of a qualified call, share no token.
use Rattle.std.proofs.Common.{◌≡◌, ℕ, Bool, true, false, cond, List, [], ◌∷◌, ◌++◌, map, All, AllPairs, Option, Some, None, refl, sym, ◌∙◌, subst, inl, inr, arith, option_to_list}
use Rattle.std.specs.Option.{option_map_or}
use Rattle.std.proofs.lemmas.List.Elements.{All-nil, All-cons, All-head, All-tail, All-map, All-weaker}
use Rattle.std.proofs.lemmas.List.Kept.{AllPairs-cons}
use Rattle.std.proofs.lemmas.Option.{none-some, same_Some}
use Rattle.ssr_syntax_kinds.specs.declared.kinds.SyntaxKind.{SyntaxKind}
use Rattle.ssr_syntax_kinds.specs.declared.kinds.SyntaxKind.TheVariants as k
use Rattle.ssr_syntax_kinds.specs.Kinds.{same_kind}
use Rattle.ssr_syntax_kinds.proofs.Shared.{same_kind-equal}
use Rattle.ssr_syntax_tree.specs.Syntax.{Syntax}
use Rattle.ssr_syntax_tree.specs.Places.{Node, Part, token_part, node_part, parts_of}
use Rattle.ssr_syntax_tree.proofs.Lists.{pairs_none, pairs_head, pairs_tail}
use Rattle.ssr_syntax_tree.proofs.Shared.{IsOf}
use Rattle.ssr_base_trees.specs.Meanings.{Meanings}
use Rattle.ssr_base_trees.specs.Workspace.{run_of}
use Rattle.ide_ssr_resolved_rule.specs.declared.qualified_calls.QualifiedCall.{QualifiedCall}
use Rattle.ide_ssr_resolved_rule.specs.Resolved.{ResolvedRule}
use Rattle.ide_ssr_matching.specs.Sides.{Sides}
use Rattle.ide_ssr_matching.specs.Calls.{nodes_among, child_nodes, first_node, Method, method_parts, method_sides}
use Rattle.ide_ssr_matching.proofs.CallParts.{nodes_all, found_has, HasMethod, has_method, method_match}
use Rattle.ide_ssr_matching.proofs.Spread.{RunsApart, narrower, wider, IsPartOf, IsAmongNode, PartsApart, AreOf, children_are}

abbrev pub NodesApart : Node → Node → Type 0
NodesApart a b = RunsApart (run_of a) (run_of b)

pub swapped : (a b : Node) → NodesApart a b → NodesApart b a
swapped a b (inl before) = inr before
swapped a b (inr behind) = inl behind

nodes_apart : (parts : List Part) → AllPairs PartsApart parts → AllPairs NodesApart (nodes_among parts)
nodes_apart [] apart = pairs_none NodesApart
nodes_apart (token_part t token ∷ rest) apart = nodes_apart rest (pairs_tail PartsApart (token_part t token) rest apart)
nodes_apart (node_part node ∷ rest) apart =
    AllPairs-cons NodesApart node (nodes_among rest)
    (nodes_all (PartsApart (node_part node)) rest (pairs_head PartsApart (node_part node) rest apart))
    (nodes_apart rest (pairs_tail PartsApart (node_part node) rest apart))

parts_apart : (nodes : List Node) → AllPairs NodesApart nodes → AllPairs PartsApart (map node_part nodes)
parts_apart [] apart = pairs_none PartsApart
parts_apart (node ∷ rest) apart =
    AllPairs-cons PartsApart (node_part node) (map node_part rest)
    (All-map (PartsApart (node_part node)) node_part rest (pairs_head NodesApart node rest apart))
    (parts_apart rest (pairs_tail NodesApart node rest apart))

-- the first nodes of two kinds
found_apart : (a b : SyntaxKind) (nodes : List Node) (x y : Node) → (a ≡ b → ⊥) → first_node a nodes ≡ Some x → first_node b nodes ≡ Some y
    → AllPairs NodesApart nodes → NodesApart x y
found_apart a b [] x y differ is_x is_y apart = absurd (none-some x is_x)
found_apart a b (node ∷ rest) x y differ is_x is_y apart =
    by (same_kind node.kind a) refl (same_kind node.kind b) refl is_x is_y
    (λ is_x is_y. found_apart a b rest x y differ is_x is_y (pairs_tail NodesApart node rest apart))
  where
    ahead : All (NodesApart node) rest
    ahead = pairs_head NodesApart node rest apart

    by : (own_a : Bool) → same_kind node.kind a ≡ own_a → (own_b : Bool) → same_kind node.kind b ≡ own_b
        → cond own_a (Some node) (first_node a rest) ≡ Some x → cond own_b (Some node) (first_node b rest) ≡ Some y
        → (first_node a rest ≡ Some x → first_node b rest ≡ Some y → NodesApart x y) → NodesApart x y
    by true is_a true is_b is_x is_y later = absurd (differ (sym (same_kind-equal node.kind a is_a) ∙ same_kind-equal node.kind b is_b))
    by true is_a false is_b is_x is_y later =
        subst (λ x. NodesApart x y) (same_Some node x is_x) (found_has (NodesApart node) b rest y is_y ahead)
    by false is_a true is_b is_x is_y later =
        subst (λ y. NodesApart x y) (same_Some node y is_y) (swapped node x (found_has (NodesApart node) a rest x is_x ahead))
    by false is_a false is_b is_x is_y later = later is_x is_y

module _ (code : Syntax) where
  -- nodes of the tree whose tokens are among those of a node, and which share none
  pub record NodesIn (c : Node) (nodes : List Node) : Type 0 where
    pub each : All (IsOf code) nodes
    pub among : All (λ node. IsAmongNode c (node_part node)) nodes
    pub apart : AllPairs NodesApart nodes

  pub child_nodes_in : (c : Node) → IsOf code c → NodesIn c (child_nodes c)
  child_nodes_in c is =
      let are = children_are code c is in
      record {
        each = nodes_all (IsPartOf code) (parts_of c) are.each;
        among = nodes_all (IsAmongNode c) (parts_of c) are.among;
        apart = nodes_apart (parts_of c) are.apart;
      }

  pub parts_in : (c : Node) (nodes : List Node) → NodesIn c nodes → AreOf code c (map node_part nodes)
  parts_in c nodes within = record {
    each = All-map (IsPartOf code) node_part nodes within.each;
    among = All-map (IsAmongNode c) node_part nodes within.among;
    apart = parts_apart nodes within.apart;
  }

  -- the nodes below a list share no token with what the list shares none with
  list_clear : (x list : Node) → IsOf code list → NodesApart x list → All (NodesApart x) (child_nodes list)
  list_clear x list is apart =
      All-weaker (λ node. IsAmongNode list (node_part node)) (NodesApart x)
      (λ node within. narrower (run_of x) (run_of list) (run_of x) (run_of node) apart (omega arith, omega arith) within)
      (child_nodes list) (child_nodes_in list is).among

  module _ (c receiver : Node) (behind : List Node) (there : NodesIn c (receiver ∷ behind)) where
    behind_each : All (IsOf code) behind
    behind_each = All-tail (IsOf code) receiver behind there.each

    behind_among : All (λ node. IsAmongNode c (node_part node)) behind
    behind_among = All-tail (λ node. IsAmongNode c (node_part node)) receiver behind there.among

    ahead : All (NodesApart receiver) behind
    ahead = pairs_head NodesApart receiver behind there.apart

    behind_apart : AllPairs NodesApart behind
    behind_apart = pairs_tail NodesApart receiver behind there.apart

    receiver_is : IsOf code receiver
    receiver_is = All-head (IsOf code) receiver behind there.each

    receiver_among : IsAmongNode c (node_part receiver)
    receiver_among = All-head (λ node. IsAmongNode c (node_part node)) receiver behind there.among

    -- the arguments share no token with a node that shares none with their list
    arguments_clear : (x : Node) (o : Option Node) → ((list : Node) → o ≡ Some list → IsOf code list × NodesApart x list)
        → All (NodesApart x) (option_map_or child_nodes o [])
    arguments_clear x None known = All-nil (NodesApart x)
    arguments_clear x (Some list) known = let facts = known list refl in list_clear x list facts.0 facts.1

    with_arguments : (o : Option Node) → first_node k.ARG_LIST behind ≡ o → NodesIn c (receiver ∷ option_map_or child_nodes o [])
    with_arguments None none = record {
      each = All-cons (IsOf code) receiver [] receiver_is (All-nil (IsOf code));
      among =
          All-cons (λ node. IsAmongNode c (node_part node)) receiver [] receiver_among (All-nil (λ node. IsAmongNode c (node_part node)));
      apart = AllPairs-cons NodesApart receiver [] (All-nil (NodesApart receiver)) (pairs_none NodesApart);
    }
    with_arguments (Some list) found =
        let is = found_has (IsOf code) k.ARG_LIST behind list found behind_each in
        let within = found_has (λ node. IsAmongNode c (node_part node)) k.ARG_LIST behind list found behind_among in
        let apart = found_has (NodesApart receiver) k.ARG_LIST behind list found ahead in
        let inner = child_nodes_in list is in
        record {
          each = All-cons (IsOf code) receiver (child_nodes list) receiver_is inner.each;
          among =
              All-cons (λ node. IsAmongNode c (node_part node)) receiver (child_nodes list) receiver_among
              (All-weaker (λ node. IsAmongNode list (node_part node)) (λ node. IsAmongNode c (node_part node))
              (λ node own. wider (run_of list) (run_of c) (run_of node) own within) (child_nodes list) inner.among);
          apart = AllPairs-cons NodesApart receiver (child_nodes list) (list_clear receiver list is apart) inner.apart;
        }

    differ : k.GENERIC_ARG_LIST ≡ k.ARG_LIST → ⊥
    differ same = cc

    in_order : (g a : Option Node) → first_node k.GENERIC_ARG_LIST behind ≡ g → first_node k.ARG_LIST behind ≡ a
        → NodesIn c (option_to_list g ++ receiver ∷ option_map_or child_nodes a [])
    in_order None a none list = with_arguments a list
    in_order (Some generics) a found list =
        let tail = with_arguments a list in
        let arguments = option_map_or child_nodes a [] in
        let clear = found_has (NodesApart receiver) k.GENERIC_ARG_LIST behind generics found ahead in
        record {
          each =
              All-cons (IsOf code) generics (receiver ∷ arguments) (found_has (IsOf code) k.GENERIC_ARG_LIST behind generics found behind_each) tail.each;
          among =
              All-cons (λ node. IsAmongNode c (node_part node)) generics (receiver ∷ arguments)
              (found_has (λ node. IsAmongNode c (node_part node)) k.GENERIC_ARG_LIST behind generics found behind_among) tail.among;
          apart =
              AllPairs-cons NodesApart generics (receiver ∷ arguments)
              (All-cons (NodesApart generics) receiver arguments (swapped receiver generics clear)
              (arguments_clear generics a
              (λ own is. (
                found_has (IsOf code) k.ARG_LIST behind own (list ∙ is) behind_each,
                found_apart k.GENERIC_ARG_LIST k.ARG_LIST behind generics own differ found (list ∙ is) behind_apart,
              ))))
              tail.apart;
        }

  -- what pairs of a method call
  pub method_are : (c : Node) (method : Method) → IsOf code c → HasMethod c method → AreOf code c (map node_part (method_parts method))
  method_are c method is has =
      let behind = has.behind in
      let there = subst (NodesIn c) has.nodes (child_nodes_in c is) in
      let ordered = in_order c method.receiver behind there (first_node k.GENERIC_ARG_LIST behind) (first_node k.ARG_LIST behind) refl refl in
      parts_in c (method_parts method)
      (subst (λ arguments. NodesIn c (method.generics ++ method.receiver ∷ arguments)) (sym has.arguments)
      (subst (λ generics. NodesIn c (generics ++ method.receiver ∷ option_map_or child_nodes (first_node k.ARG_LIST behind) [])) (sym has.generics) ordered))

  pub method_sides_are : (m : Meanings) (tree : ℕ) (rule : ResolvedRule) (call : QualifiedCall) (p c : Node) (sides : Sides) → IsOf code c
      → method_sides m tree rule call p c ≡ Some sides → AreOf code c sides.code
  method_sides_are m tree rule call p c sides is found =
      let it = method_match m tree rule call p c sides found in
      subst (λ (s : Sides). AreOf code c s.code) it.same (method_are c it.method is (has_method c it.method it.is_method))

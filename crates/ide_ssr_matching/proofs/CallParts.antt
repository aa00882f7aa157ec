-- How calls that match are put together.
use Rattle.std.proofs.Common.{◌≡◌, ℕ, Bool, true, false, cond, List, [], ◌∷◌, length, All, Option, Some, None, refl, sym, ◌∙◌, ap, subst, option_to_list}
use Rattle.std.specs.Prelude.{◌==◌}
use Rattle.std.specs.Option.{option_map, option_map_or, option_and_then}
use Rattle.std.proofs.lemmas.Bool.{eqb-true}
use Rattle.std.proofs.lemmas.List.Elements.{All-nil, All-cons, All-head, All-tail}
use Rattle.std.proofs.lemmas.Option.{none-some, same_Some}
use Rattle.ssr_syntax_kinds.specs.declared.kinds.SyntaxKind.{SyntaxKind}
use Rattle.ssr_syntax_kinds.specs.declared.kinds.SyntaxKind.TheVariants as k
use Rattle.ssr_syntax_kinds.specs.Kinds.{same_kind}
use Rattle.ssr_syntax_tree.specs.Places.{Node, Part, token_part, node_part, parts_of}
use Rattle.ssr_base_trees.specs.Meanings.{Meanings}
use Rattle.ide_ssr_resolved_rule.specs.declared.qualified_calls.QualifiedCall.{QualifiedCall}
use Rattle.ide_ssr_resolved_rule.specs.Paths.{first_of_kind}
use Rattle.ide_ssr_resolved_rule.specs.Resolved.{ResolvedRule}
use Rattle.ide_ssr_bindings.specs.declared.receivers.Receiver.{Receiver}
use Rattle.ide_ssr_matching.specs.Children.{bare}
use Rattle.ide_ssr_matching.specs.UsedPaths.{arguments_of, pattern_res}
use Rattle.ide_ssr_matching.specs.Sides.{Sides}
use Rattle.ide_ssr_matching.specs.Calls.{nodes_among, child_nodes, first_node, PathCall, are_call, called_with, called_in, called, Method, method_in, method_call, method_pairs, alike_pairs, receiver_with, method_with, method_sides}

-- ** Nodes among parts.

module _ (P : Part → Type 0) where
  pub nodes_all : (parts : List Part) → All P parts → All (λ node. P (node_part node)) (nodes_among parts)
  nodes_all [] all = All-nil (λ node. P (node_part node))
  nodes_all (token_part t token ∷ rest) all = nodes_all rest (All-tail P (token_part t token) rest all)
  nodes_all (node_part node ∷ rest) all =
      All-cons (λ node. P (node_part node)) node (nodes_among rest) (All-head P (node_part node) rest all)
      (nodes_all rest (All-tail P (node_part node) rest all))

-- the first node of a kind among parts is that among their nodes
pub first_among_nodes : (kind : SyntaxKind) (parts : List Part) → first_of_kind kind parts ≡ first_node kind (nodes_among parts)
first_among_nodes kind [] = refl
first_among_nodes kind (token_part t token ∷ rest) = first_among_nodes kind rest
first_among_nodes kind (node_part node ∷ rest) = ap (cond (same_kind node.kind kind) (Some node)) (first_among_nodes kind rest)

-- what is true of nodes is of the first one of a kind
pub found_has : (P : Node → Type 0) (kind : SyntaxKind) (nodes : List Node) (found : Node) → first_node kind nodes ≡ Some found → All P nodes → P found
found_has P kind [] found is all = absurd (none-some found is)
found_has P kind (node ∷ rest) found is all =
    here (same_kind node.kind kind) (λ is. found_has P kind rest found is (All-tail P node rest all)) is
  where
    here : (b : Bool) → (first_node kind rest ≡ Some found → P found) → cond b (Some node) (first_node kind rest) ≡ Some found → P found
    here true behind is = subst P (same_Some node found is) (All-head P node rest all)
    here false behind is = behind is

-- ** A call of the pattern.

pub record IsCalled (p : Node) (call : PathCall) : Type 0 where
  pub callee : Node
  pub list : Node
  pub nodes : child_nodes p ≡ callee ∷ list ∷ []
  pub kinds : are_call callee list ≡ true
  pub path : child_nodes callee ≡ call.path ∷ []
  pub path_kind : same_kind call.path.kind k.PATH ≡ true
  pub segment : Node
  pub has_segment : first_of_kind k.PATH_SEGMENT (parts_of call.path) ≡ Some segment
  pub first : Node
  pub rest : List Node
  pub arguments : child_nodes list ≡ call.arguments
  pub some : call.arguments ≡ first ∷ rest

module _ (p : Node) (call : PathCall) where
  by_segment : (callee list path first : Node) (rest : List Node) → child_nodes p ≡ callee ∷ list ∷ [] → are_call callee list ≡ true → child_nodes callee ≡ path ∷ []
      → same_kind path.kind k.PATH ≡ true
      → child_nodes list ≡ first ∷ rest → (o : Option Node) → first_of_kind k.PATH_SEGMENT (parts_of path) ≡ o
      → ◌≡◌ {A = Option PathCall} (option_map (λ _. record { path = path; arguments = first ∷ rest }) o) (Some call) → IsCalled p call
  by_segment callee list path first rest nodes kinds inner is_path arguments None none is = absurd (none-some call is)
  by_segment callee list path first rest nodes kinds inner is_path arguments (Some segment) found is =
      let made : PathCall = record { path = path; arguments = first ∷ rest } in
      let same = same_Some made call is in
      record {
        callee = callee;
        list = list;
        nodes = nodes;
        kinds = kinds;
        path = inner ∙ ap (λ (call : PathCall). call.path ∷ []) same;
        path_kind = subst (λ (call : PathCall). same_kind call.path.kind k.PATH ≡ true) same is_path;
        segment = segment;
        has_segment = subst (λ (call : PathCall). first_of_kind k.PATH_SEGMENT (parts_of call.path) ≡ Some segment) same found;
        first = first;
        rest = rest;
        arguments = arguments ∙ ap (λ (call : PathCall). call.arguments) same;
        some = sym (ap (λ (call : PathCall). call.arguments) same);
      }

  by_inner : (callee list : Node) → child_nodes p ≡ callee ∷ list ∷ [] → are_call callee list ≡ true → (inner arguments : List Node) → child_nodes callee ≡ inner
      → child_nodes list ≡ arguments → called_with inner arguments ≡ Some call → IsCalled p call
  by_inner callee list nodes kinds [] arguments inner_is arguments_are is = absurd (none-some call is)
  by_inner callee list nodes kinds (path ∷ []) [] inner_is arguments_are is = absurd (none-some call is)
  by_inner callee list nodes kinds (path ∷ []) (first ∷ rest) inner_is arguments_are is = by_path (same_kind path.kind k.PATH) refl is
    where
      by_path : (b : Bool) → same_kind path.kind k.PATH ≡ b
          → ◌≡◌ {A = Option PathCall} (cond b (option_map (λ _. record { path = path; arguments = first ∷ rest }) (first_of_kind k.PATH_SEGMENT (parts_of path))) None) (Some call)
          → IsCalled p call
      by_path true is_path is =
          by_segment callee list path first rest nodes kinds inner_is is_path arguments_are (first_of_kind k.PATH_SEGMENT (parts_of path)) refl is
      by_path false is_path is = absurd (none-some call is)
  by_inner callee list nodes kinds (path ∷ other ∷ more) arguments inner_is arguments_are is = absurd (none-some call is)

  by_nodes : (nodes : List Node) → child_nodes p ≡ nodes → called_in nodes ≡ Some call → IsCalled p call
  by_nodes [] nodes is = absurd (none-some call is)
  by_nodes (callee ∷ []) nodes is = absurd (none-some call is)
  by_nodes (callee ∷ list ∷ []) nodes is = by_kinds (are_call callee list) refl is
    where
      by_kinds : (b : Bool) → are_call callee list ≡ b → cond b (called_with (child_nodes callee) (child_nodes list)) None ≡ Some call → IsCalled p call
      by_kinds true kinds is = by_inner callee list nodes kinds (child_nodes callee) (child_nodes list) refl refl is
      by_kinds false kinds is = absurd (none-some call is)
  by_nodes (callee ∷ list ∷ other ∷ more) nodes is = absurd (none-some call is)

  pub is_called : called p ≡ Some call → IsCalled p call
  is_called is = by_nodes (child_nodes p) refl is

-- ** A qualified call against a method call.

pub record IsMethodMatch (m : Meanings) (tree : ℕ) (rule : ResolvedRule) (call : QualifiedCall) (p c : Node) (sides : Sides) : Type 0 where
  pub called_nodes : PathCall
  pub is_called : IsCalled p called_nodes
  pub method : Method
  pub is_method : method_call c ≡ Some method
  pub receiver : Receiver
  pub is_received : receiver_with m tree (pattern_res rule called_nodes.path) call.qualifier_type c.number method.receiver.number ≡ Some receiver
  pub even : length (bare (arguments_of called_nodes.path)) ≡ length method.generics
  pub same : method_pairs called_nodes method receiver ≡ sides

module _ (m : Meanings) (tree : ℕ) (rule : ResolvedRule) (call : QualifiedCall) (p c : Node) (sides : Sides) where
  with_receiver : (called_nodes : PathCall) → IsCalled p called_nodes → (method : Method) → method_call c ≡ Some method → (o : Option Receiver)
      → receiver_with m tree (pattern_res rule called_nodes.path) call.qualifier_type c.number method.receiver.number ≡ o
      → option_and_then (alike_pairs called_nodes method) o ≡ Some sides → IsMethodMatch m tree rule call p c sides
  with_receiver called_nodes is_call method is_method None none is = absurd (none-some sides is)
  with_receiver called_nodes is_call method is_method (Some receiver) receives is =
      by (length (bare (arguments_of called_nodes.path)) == length method.generics) refl is
    where
      by : (b : Bool) → (length (bare (arguments_of called_nodes.path)) == length method.generics) ≡ b
          → ◌≡◌ {A = Option Sides} (cond b (Some (method_pairs called_nodes method receiver)) None) (Some sides)
          → IsMethodMatch m tree rule call p c sides
      by true even is = record {
        called_nodes = called_nodes;
        is_called = is_call;
        method = method;
        is_method = is_method;
        receiver = receiver;
        is_received = receives;
        even = eqb-true (length (bare (arguments_of called_nodes.path))) (length method.generics) even;
        same = same_Some (method_pairs called_nodes method receiver) sides is;
      }
      by false uneven is = absurd (none-some sides is)

  with_called : (called_nodes : PathCall) → IsCalled p called_nodes → (o : Option Method) → method_call c ≡ o
      → option_and_then (method_with m tree rule call.qualifier_type c called_nodes) o ≡ Some sides → IsMethodMatch m tree rule call p c sides
  with_called called_nodes is_call None none is = absurd (none-some sides is)
  with_called called_nodes is_call (Some method) is_method is =
      with_receiver called_nodes is_call method is_method
      (receiver_with m tree (pattern_res rule called_nodes.path) call.qualifier_type c.number method.receiver.number) refl is

  by_called : (o : Option PathCall) → called p ≡ o
      → option_and_then (λ called. option_and_then (method_with m tree rule call.qualifier_type c called) (method_call c)) o ≡ Some sides
      → IsMethodMatch m tree rule call p c sides
  by_called None none is = absurd (none-some sides is)
  by_called (Some found) is_call is = with_called found (is_called p found is_call) (method_call c) refl is

  pub method_match : method_sides m tree rule call p c ≡ Some sides → IsMethodMatch m tree rule call p c sides
  method_match is = by_called (called p) refl is

-- the nodes of a method call
pub record HasMethod (c : Node) (method : Method) : Type 0 where
  pub behind : List Node
  pub nodes : child_nodes c ≡ method.receiver ∷ behind
  pub generics : method.generics ≡ option_to_list (first_node k.GENERIC_ARG_LIST behind)
  pub arguments : method.arguments ≡ option_map_or child_nodes (first_node k.ARG_LIST behind) []

pub has_method : (c : Node) (method : Method) → method_call c ≡ Some method → HasMethod c method
has_method c method is = by (child_nodes c) refl is
  where
    by : (nodes : List Node) → child_nodes c ≡ nodes → method_in nodes ≡ Some method → HasMethod c method
    by [] none is = absurd (none-some method is)
    by (receiver ∷ behind) nodes is =
        let made : Method =
        record {
          receiver = receiver;
          generics = option_to_list (first_node k.GENERIC_ARG_LIST behind);
          arguments = option_map_or child_nodes (first_node k.ARG_LIST behind) [];
        } in
        let same = same_Some made method is in
        record {
          behind = behind;
          nodes = nodes ∙ ap (λ (method : Method). method.receiver ∷ behind) same;
          generics = sym (ap (λ (method : Method). method.generics) same);
          arguments = sym (ap (λ (method : Method). method.arguments) same);
        }

-- a callee that stands for something is a used path
pub callee_used : (m : Meanings) (tree : ℕ) (rule : ResolvedRule) (call : QualifiedCall) (p c : Node) (sides : Sides)
    → (is : IsMethodMatch m tree rule call p c sides) → pattern_res rule is.called_nodes.path ≡ None → ⊥
callee_used m tree rule call p c sides is none =
    none-some is.receiver
    (sym (ap (λ used. receiver_with m tree used call.qualifier_type c.number is.method.receiver.number) none) ∙ is.is_received)

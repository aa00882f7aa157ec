-- What is told of calls.
use Rattle.std.proofs.Common.{◌≡◌, ℕ, Bool, true, false, cond, List, [], ◌∷◌, Option, Some, None, refl, sym, ◌∙◌, ap, is_some}
use Rattle.std.specs.Option.{option_and_then, option_map_or}
use Rattle.ssr_syntax_tree.specs.declared.number.NodeNo.{NodeNo}
use Rattle.ssr_syntax_tree.specs.Syntax.{Syntax}
use Rattle.ssr_syntax_tree.specs.Places.{HasNode, Node, node_of}
use Rattle.ssr_syntax_tree.proofs.Shared.{node_of-number}
use Rattle.ssr_base_trees.specs.declared.ids.TypeId.{TypeId}
use Rattle.ssr_base_trees.specs.declared.semantics.Res.{Res}
use Rattle.ssr_base_trees.specs.Meanings.{Meanings}
use Rattle.ssr_base_trees.specs.Workspace.{node_id}
use Rattle.ide_ssr_resolved_rule.specs.declared.qualified_calls.QualifiedCall.{QualifiedCall}
use Rattle.ide_ssr_resolved_rule.specs.Resolved.{ResolvedRule}
use Rattle.ide_ssr_resolved_rule.specs.UsedPaths.{res_at}
use Rattle.ide_ssr_bindings.specs.declared.receivers.Receiver.{Receiver}
use Rattle.ide_ssr_matching.specs.declared.calls.CalledNodes.{CalledNodes}
use Rattle.ide_ssr_matching.specs.declared.calls.MethodNodes.{MethodNodes}
use Rattle.ide_ssr_matching.specs.Calls.{child_nodes, first_among, arguments_among, PathCall, called, Method, method_call, calls_same, derefs, receiver_by, alike_pairs, method_with, method_sides, takes_first, can_be_call}
use Rattle.ide_ssr_matching.specs.Sides.{Sides}
use Rattle.ide_ssr_matching.specs.UsedPaths.{pattern_res}
use Rattle.ide_ssr_matching.specs.Private.Calls.{called_at, method_at}

-- ** The first argument.

-- whether the arguments of a call fit is told by the first one alone
taken : (ms : Meanings) (number : ℕ) (type : Option TypeId) (nodes : List Node) (o : Option Node) → o ≡ first_among nodes
    → option_map_or (λ first. is_some (derefs ms type (node_id number first.number))) o true ≡ takes_first ms number type nodes
taken ms number type nodes o is = ap by_first is ∙ same nodes
  where
    by_first : Option Node → Bool
    by_first first = option_map_or (λ (first : Node). is_some (derefs ms type (node_id number first.number))) first true

    same : (nodes : List Node) → by_first (first_among nodes) ≡ takes_first ms number type nodes
    same [] = refl
    same (first ∷ rest) = refl

pub first_told : (ms : Meanings) (number : ℕ) (code : Syntax) (m : ℕ) (o : Option QualifiedCall) (call : QualifiedCall) (first : NodeNo)
    (count : Option ℕ) (b : Bool) → o ≡ Some call → HasNode code first.0
    → Some (node_of code first.0) ≡ first_among (arguments_among (child_nodes (node_of code m)))
    → count ≡ derefs ms call.qualifier_type (node_id number first.0) → b ≡ is_some count → b ≡ can_be_call ms number o (node_of code m)
first_told ms number code m o call first count b o_is has first_is count_is b_is =
    b_is
    ∙ ap is_some (count_is ∙ ap (λ n. derefs ms call.qualifier_type (node_id number n)) (sym (node_of-number code first.0 has)))
    ∙ taken ms number call.qualifier_type (arguments_among (child_nodes (node_of code m))) (Some (node_of code first.0)) first_is
    ∙ ap (λ o. can_be_call ms number o (node_of code m)) (sym o_is)

pub none_told : (ms : Meanings) (number : ℕ) (code : Syntax) (m : ℕ) (o : Option QualifiedCall) (call : QualifiedCall) → o ≡ Some call
    → None ≡ first_among (arguments_among (child_nodes (node_of code m))) → true ≡ can_be_call ms number o (node_of code m)
none_told ms number code m o call o_is none =
    taken ms number call.qualifier_type (arguments_among (child_nodes (node_of code m))) None none
    ∙ ap (λ o. can_be_call ms number o (node_of code m)) (sym o_is)

-- ** A qualified call against a method call.

module _ (ms : Meanings) (number : ℕ) (rule : ResolvedRule) (pattern code : Syntax) (call : QualifiedCall) (n m : ℕ) where
  abbrev sides : Option Sides
  sides = method_sides ms number rule call (node_of pattern n) (node_of code m)

  abbrev by_called : Option PathCall → Option Sides
  by_called = option_and_then (λ called. option_and_then (method_with ms number rule call.qualifier_type (node_of code m) called) (method_call (node_of code m)))

  -- what is no call of a path
  pub uncalled : None ≡ called (node_of pattern n) → None ≡ sides
  uncalled none = ap by_called none

  module _ (found : CalledNodes) (used : Option Res) (same : Bool) (has_path : HasNode pattern found.path.0) (has : HasNode code m)
      (called_is : Some (called_at pattern found) ≡ called (node_of pattern n)) (used_is : used ≡ res_at rule.pattern_paths found.path)
      (same_is : same ≡ calls_same ms used (node_id number m)) where
    abbrev by_method : Option Method → Option Sides
    by_method = option_and_then (method_with ms number rule call.qualifier_type (node_of code m) (called_at pattern found))

    same_told : calls_same ms (pattern_res rule (node_of pattern found.path.0)) (node_id number (node_of code m).number) ≡ same
    same_told =
        ap (λ k. calls_same ms (res_at rule.pattern_paths (record { 0 = k })) (node_id number (node_of code m).number))
        (node_of-number pattern found.path.0 has_path)
        ∙ ap (λ used. calls_same ms used (node_id number (node_of code m).number)) (sym used_is)
        ∙ ap (λ k. calls_same ms used (node_id number k)) (node_of-number code m has)
        ∙ sym same_is

    -- a method call that calls something else
    pub calls_other : same ≡ false → None ≡ sides
    calls_other differs = sym (by (method_call (node_of code m))) ∙ ap by_called called_is
      where
        by : (o : Option Method) → by_method o ≡ None
        by None = refl
        by (Some method) =
            ap
            (λ b.
            option_and_then (alike_pairs (called_at pattern found) method)
            (cond b (receiver_by ms number call.qualifier_type (node_of code m).number method.receiver.number) None))
            (same_told ∙ differs)

    -- what is no method call
    pub no_method : None ≡ method_call (node_of code m) → None ≡ sides
    no_method none = ap by_method none ∙ ap by_called called_is

    -- a method call, by whether its receiver can be of the qualifier's type
    pub received : (method : MethodNodes) (o : Option Receiver) → same ≡ true → HasNode code method.receiver.0
        → Some (method_at code method) ≡ method_call (node_of code m) → o ≡ receiver_by ms number call.qualifier_type m method.receiver.0
        → option_and_then (alike_pairs (called_at pattern found) (method_at code method)) o ≡ sides
    received method o is_same has_receiver method_is o_is =
        let type = call.qualifier_type in
        let c = node_of code m in
        ap (option_and_then (alike_pairs (called_at pattern found) (method_at code method)))
        (o_is
        ∙ ap (λ c. receiver_by ms number type c method.receiver.0) (sym (node_of-number code m has))
        ∙ ap (receiver_by ms number type c.number) (sym (node_of-number code method.receiver.0 has_receiver))
        ∙ ap (λ b. cond b (receiver_by ms number type c.number (node_of code method.receiver.0).number) None) (sym (same_told ∙ is_same)))
        ∙ ap by_method method_is
        ∙ ap by_called called_is

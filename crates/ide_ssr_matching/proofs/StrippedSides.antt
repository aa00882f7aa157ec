-- What has to pair with parts of a pattern, of nodes that are alike and of which the same is told.
use Rattle.std.proofs.Common.{◌≡◌, ℕ, Bool, true, false, ◌&&◌, not, cond, List, [], ◌∷◌, ◌++◌, length, map, Option, Some, None, is_some, refl, sym, ◌∙◌, ap}
use Rattle.std.specs.Prelude.{◌==◌}
use Rattle.std.specs.List.{list_any, position}
use Rattle.std.specs.Option.{option_and_then, option_map, option_map_or}
use Rattle.std.proofs.lemmas.List.{length-map, map-append}
use Rattle.std.proofs.lemmas.Option.{none-some, same_Some}
use Rattle.ssr_syntax_kinds.specs.declared.kinds.SyntaxKind.TheVariants as k
use Rattle.ssr_syntax_kinds.specs.Kinds.{same_kind}
use Rattle.ssr_syntax_tree.specs.Places.{Node, Part, node_part, parts_of}
use Rattle.ssr_base_trees.specs.declared.ids.TypeId.{TypeId}
use Rattle.ssr_base_trees.specs.declared.semantics.Res.{Res}
use Rattle.ssr_base_trees.specs.declared.semantics.Res.TheVariants as res
use Rattle.ssr_base_trees.specs.Meanings.{Meanings, same_res}
use Rattle.ssr_base_trees.specs.Workspace.{node_id}
use Rattle.ide_ssr_resolved_rule.specs.declared.qualified_calls.QualifiedCall.{QualifiedCall}
use Rattle.ide_ssr_resolved_rule.specs.Resolved.{ResolvedRule}
use Rattle.ide_ssr_bindings.specs.declared.receivers.Receiver.{Receiver}
use Rattle.ide_ssr_matching.specs.Bindings.{stands_if, counted_sides, can_match, like_pairs, like_sides, sides_in, sides_of}
use Rattle.ide_ssr_matching.specs.Calls.{child_nodes, arguments_among, Method, method_call, PathCall, called, call_of, same_type, derefs, calls_same, method_parts, alike_pairs, receiver_with, method_with, method_sides, takes_first, can_be_call}
use Rattle.ide_ssr_matching.specs.Children.{bare}
use Rattle.ide_ssr_matching.specs.Records.{is_open, are_labelled, named_nodes, named_pairs}
use Rattle.ide_ssr_matching.specs.Sides.{Sides}
use Rattle.ide_ssr_matching.specs.Trivia.{AreToldAlike}
use Rattle.ide_ssr_matching.specs.UsedPaths.{arguments_of, pattern_res}
use Rattle.ide_ssr_matching.proofs.StrippedLabels.{labelled_alike, named_alike}
use Rattle.ide_ssr_matching.proofs.StrippedNodes.{stripped_node, stripped_part, AreAlike, kinds_alike, numbers_alike, parts_alike}
use Rattle.ide_ssr_matching.proofs.StrippedParts.{bare_alike, bare_arguments_alike, child_nodes_alike, arguments_among_alike, stripped_method, method_alike}

abbrev pub stripped_sides : Sides → Sides
stripped_sides sides = record sides { code = map stripped_part sides.code }

-- nodes as parts
nodes_stripped : (nodes : List Node) → map node_part (map stripped_node nodes) ≡ map stripped_part (map node_part nodes)
nodes_stripped [] = refl
nodes_stripped (node ∷ rest) = ap (λ parts. node_part (stripped_node node) ∷ parts) (nodes_stripped rest)

cond_sides : (b : Bool) (sides : Sides) → cond b (Some (stripped_sides sides)) None ≡ option_map stripped_sides (cond b (Some sides) None)
cond_sides true sides = refl
cond_sides false sides = refl

module _ (names : Bool) (rule : ResolvedRule) where
  -- ** Method calls.

  alike_pairs_left : (call : PathCall) (method : Method) (receiver : Receiver)
      → alike_pairs call (stripped_method method) receiver ≡ option_map stripped_sides (alike_pairs call method receiver)
  alike_pairs_left call method receiver =
      ap (λ n. cond (length (bare (arguments_of call.path)) == n) (Some (sides (map node_part (method_parts (stripped_method method))))) None)
      (length-map method.generics stripped_node)
      ∙ ap (λ code. cond as_many (Some (sides code)) None)
      (ap (map node_part) (sym (map-append stripped_node method.generics (method.receiver ∷ method.arguments))) ∙ nodes_stripped (method_parts method))
      ∙ cond_sides as_many (sides (map node_part (method_parts method)))
    where
      as_many : Bool
      as_many = length (bare (arguments_of call.path)) == length method.generics

      sides : List Part → Sides
      sides code = record { pattern = bare (arguments_of call.path) ++ map node_part call.arguments; code = code; receiver = Some receiver }

  module _ (ms : Meanings) (tree : ℕ) where
    method_with_left : (type : Option TypeId) (c : Node) (call : PathCall) (method : Method)
        → method_with ms tree rule type c call (stripped_method method) ≡ option_map stripped_sides (method_with ms tree rule type c call method)
    method_with_left type c call method = by (receiver_with ms tree (pattern_res rule call.path) type c.number method.receiver.number)
      where
        by : (o : Option Receiver)
            → option_and_then (alike_pairs call (stripped_method method)) o ≡ option_map stripped_sides (option_and_then (alike_pairs call method) o)
        by None = refl
        by (Some receiver) = alike_pairs_left call method receiver

  module _ (ms : Meanings) (tree : ℕ) (other_ms : Meanings) (other_tree : ℕ) (told : AreToldAlike ms tree other_ms other_tree) where
    derefs_told : (type : Option TypeId) (n : ℕ) → derefs ms type (node_id tree n) ≡ derefs other_ms type (node_id other_tree n)
    derefs_told None n = refl
    derefs_told (Some type) n = ap (option_and_then (position (same_type type))) (told.types n)

    calls_told : (used : Option Res) (n : ℕ) → calls_same ms used (node_id tree n) ≡ calls_same other_ms used (node_id other_tree n)
    calls_told None n = refl
    calls_told (Some r) n = ap (λ o. option_map_or (λ function. same_res r (res.Def function)) o false) (told.method n)

    receivers_told : (used : Option Res) (type : Option TypeId) (c receiver : ℕ)
        → receiver_with ms tree used type c receiver ≡ receiver_with other_ms other_tree used type c receiver
    receivers_told used type c receiver = rw (calls_told used c, derefs_told type receiver, told.self_kind c) refl

    module _ (type : Option TypeId) (call : PathCall) (c d : Node) (same : c.number ≡ d.number) where
      method_with_told : (method : Method) → method_with ms tree rule type c call method ≡ method_with other_ms other_tree rule type d call method
      method_with_told method =
          ap (option_and_then (alike_pairs call method))
          (receivers_told (pattern_res rule call.path) type c.number method.receiver.number
          ∙ ap (λ n. receiver_with other_ms other_tree (pattern_res rule call.path) type n method.receiver.number) same)

      method_with_alike : (x y : Method) → stripped_method x ≡ stripped_method y
          → option_map stripped_sides (method_with ms tree rule type c call x) ≡ option_map stripped_sides (method_with other_ms other_tree rule type d call y)
      method_with_alike x y alike =
          sym (method_with_left ms tree type c call x)
          ∙ ap (method_with ms tree rule type c call) alike
          ∙ method_with_told (stripped_method y)
          ∙ method_with_left other_ms other_tree type d call y

      either_method : (o p : Option Method) → option_map stripped_method o ≡ option_map stripped_method p
          → option_map stripped_sides (option_and_then (method_with ms tree rule type c call) o)
          ≡ option_map stripped_sides (option_and_then (method_with other_ms other_tree rule type d call) p)
      either_method None None alike = refl
      either_method None (Some y) alike = absurd (none-some (stripped_method y) alike)
      either_method (Some x) None alike = absurd (none-some (stripped_method x) (sym alike))
      either_method (Some x) (Some y) alike = method_with_alike x y (same_Some (stripped_method x) (stripped_method y) alike)

    module _ (p c d : Node) (alike : AreAlike c d) where
      methods_alike : (call : QualifiedCall)
          → option_map stripped_sides (method_sides ms tree rule call p c) ≡ option_map stripped_sides (method_sides other_ms other_tree rule call p d)
      methods_alike call = by (called p)
        where
          own : PathCall → Option Sides
          own found = option_and_then (method_with ms tree rule call.qualifier_type c found) (method_call c)

          others : PathCall → Option Sides
          others found = option_and_then (method_with other_ms other_tree rule call.qualifier_type d found) (method_call d)

          by : (o : Option PathCall) → option_map stripped_sides (option_and_then own o) ≡ option_map stripped_sides (option_and_then others o)
          by None = refl
          by (Some found) =
              either_method call.qualifier_type found c d (numbers_alike c d alike) (method_call c) (method_call d) (method_alike c d alike)

      -- ** Which nodes of one kind can match.

      first_told : (type : Option TypeId) (xs ys : List Node) → map stripped_node xs ≡ map stripped_node ys
          → takes_first ms tree type xs ≡ takes_first other_ms other_tree type ys
      first_told type [] [] same = refl
      first_told type [] (y ∷ ys) same = let e : [] ≡ stripped_node y ∷ map stripped_node ys = same in cc
      first_told type (x ∷ xs) [] same = let e : stripped_node x ∷ map stripped_node xs ≡ [] = same in cc
      first_told type (x ∷ xs) (y ∷ ys) same =
          let e : stripped_node x ∷ map stripped_node xs ≡ stripped_node y ∷ map stripped_node ys = same in
          let first : stripped_node x ≡ stripped_node y = cc in
          ap is_some
          (derefs_told type x.number ∙ ap (λ n. derefs other_ms type (node_id other_tree n)) (numbers_alike x y first))

      calls_alike : (o : Option QualifiedCall) → can_be_call ms tree o c ≡ can_be_call other_ms other_tree o d
      calls_alike None = refl
      calls_alike (Some call) =
          first_told call.qualifier_type (arguments_among (child_nodes c)) (arguments_among (child_nodes d))
          (arguments_among_alike (child_nodes c) (child_nodes d) (child_nodes_alike c d alike))

      can_alike : (used : Option Res) → can_match names ms tree rule used p c ≡ can_match names other_ms other_tree rule used p d
      can_alike (Some r) =
          ap (stands_if names r) (told.path c.number ∙ ap (λ n. other_ms.path (node_id other_tree n)) (numbers_alike c d alike))
      can_alike None = calls_alike (call_of rule p)

      -- ** Their parts.

      abbrev sides_with : List Part → Option Res → Sides
      sides_with code used = record { pattern = (counted_sides used p c).pattern; code = code; receiver = None }

      counted_alike : (used : Option Res) → stripped_sides (counted_sides used p c) ≡ stripped_sides (counted_sides used p d)
      counted_alike (Some r) = ap (λ code. sides_with code (Some r)) (bare_arguments_alike c d alike)
      counted_alike None = ap (λ code. sides_with code None) (bare_alike (parts_of c) (parts_of d) (parts_alike c d alike))

      named_stripped : (o : Option (List Node))
          → option_map stripped_sides (option_map (named_pairs p) o) ≡ option_map (named_pairs p) (option_map (map stripped_node) o)
      named_stripped None = refl
      named_stripped (Some nodes) =
          ap (λ code. Some (record { pattern = map node_part (child_nodes p); code = code; receiver = None })) (sym (nodes_stripped nodes))

      pairs_alike : (used : Option Res)
          → option_map stripped_sides (like_pairs names ms tree rule used p c) ≡ option_map stripped_sides (like_pairs names other_ms other_tree rule used p d)
      pairs_alike (Some r) = ap Some (counted_alike (Some r))
      pairs_alike None =
          ap (λ labelled. option_map stripped_sides (cond (named labelled) (option_map (named_pairs p) (named_nodes p c)) (Some (counted_sides None p c))))
          (labelled_alike c d alike)
          ∙ by (named (are_labelled (child_nodes d)))
        where
          named : Bool → Bool
          named labelled =
              same_kind p.kind k.RECORD_EXPR_FIELD_LIST
              && (not (list_any (is_open rule) (child_nodes p)) && (are_labelled (child_nodes p) && labelled))

          by : (b : Bool)
              → option_map stripped_sides (cond b (option_map (named_pairs p) (named_nodes p c)) (Some (counted_sides None p c)))
              ≡ option_map stripped_sides (cond b (option_map (named_pairs p) (named_nodes p d)) (Some (counted_sides None p d)))
          by true = named_stripped (named_nodes p c) ∙ ap (option_map (named_pairs p)) (named_alike p c d alike) ∙ sym (named_stripped (named_nodes p d))
          by false = ap Some (counted_alike None)

      likes_alike : option_map stripped_sides (like_sides names ms tree rule p c) ≡ option_map stripped_sides (like_sides names other_ms other_tree rule p d)
      likes_alike =
          ap (λ kind. if_like (same_kind p.kind kind && can_match names ms tree rule used p c)) (kinds_alike c d alike)
          ∙ ap (λ can. if_like (same_kind p.kind d.kind && can)) (can_alike used)
          ∙ by (same_kind p.kind d.kind && can_match names other_ms other_tree rule used p d)
        where
          used : Option Res
          used = pattern_res rule p

          if_like : Bool → Option Sides
          if_like b = option_map stripped_sides (cond b (like_pairs names ms tree rule used p c) None)

          by : (b : Bool) → if_like b ≡ option_map stripped_sides (cond b (like_pairs names other_ms other_tree rule used p d) None)
          by true = pairs_alike used
          by false = refl

      pub sides_alike : option_map stripped_sides (sides_of names ms tree rule p c) ≡ option_map stripped_sides (sides_of names other_ms other_tree rule p d)
      sides_alike =
          ap (λ kind. option_map stripped_sides (sides_in names ms tree rule (call_of rule p) (same_kind kind k.METHOD_CALL_EXPR) p c)) (kinds_alike c d alike)
          ∙ by (call_of rule p) (same_kind d.kind k.METHOD_CALL_EXPR)
        where
          by : (o : Option QualifiedCall) (b : Bool)
              → option_map stripped_sides (sides_in names ms tree rule o b p c) ≡ option_map stripped_sides (sides_in names other_ms other_tree rule o b p d)
          by (Some call) true = methods_alike call
          by (Some call) false = likes_alike
          by None b = likes_alike

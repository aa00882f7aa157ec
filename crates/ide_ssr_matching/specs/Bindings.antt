-- The bindings of a match, computed: those of the relation of `Matching`, as the law `laws::matching` says, with names asked or
-- without. A node of the
-- pattern asks only for smaller ones, so that as many steps as it has nodes are enough.
use Rattle.std.specs.Prelude.{ℕ, zero, suc, ◌&&◌, Bool, true, false, if◌then◌else◌, List, [], ◌∷◌, Option, Some, None}
use Rattle.std.specs.Option.{option_and_then, option_map, option_map_or}
use Rattle.ssr_syntax_kinds.specs.declared.kinds.SyntaxKind.TheVariants as k
use Rattle.ssr_syntax_kinds.specs.Kinds.{same_kind}
use Rattle.ssr_syntax_tree.specs.Syntax.{same_token}
use Rattle.ssr_syntax_tree.specs.Places.{Node, Part, token_part, node_part, parts_of, size_of}
use Rattle.ssr_base_trees.specs.declared.semantics.Res.{Res}
use Rattle.ssr_base_trees.specs.Meanings.{Meanings, same_res}
use Rattle.ide_ssr_resolved_rule.specs.declared.qualified_calls.QualifiedCall.{QualifiedCall}
use Rattle.ide_ssr_resolved_rule.specs.Placeholders.{placeholder_at}
use Rattle.ide_ssr_resolved_rule.specs.Resolved.{ResolvedRule, meets}
use Rattle.ide_ssr_bindings.specs.declared.bindings.Binding.{Binding}
use Rattle.ide_ssr_bindings.specs.Found.{node_binding}
use Rattle.ide_ssr_matching.specs.Children.{bare}
use Rattle.ide_ssr_matching.specs.Sides.{Sides, kept}
use Rattle.ide_ssr_matching.specs.Calls.{call_of, method_sides, can_be_call}
use Rattle.ide_ssr_token_trees.specs.Bindings.{joined}
use Rattle.ide_ssr_matching.specs.TokenTrees.{is_token_tree, tree_by, is_plain}
use Rattle.ide_ssr_matching.specs.Records.{is_named, named_nodes, named_pairs}
use Rattle.ide_ssr_matching.specs.UsedPaths.{arguments_of, pattern_res, code_res}

-- ** Parts against parts.

-- what a node of a pattern binds in a node of the code, where that matches it
abbrev pub Binder : Type 0
Binder = Node → Node → Option (List Binding)

-- a part of the pattern against one of the code
abbrev pub pair_by : Binder → Part → Part → Option (List Binding)
pair_by inner (token_part t token) (token_part u c) = if same_token token c then Some [] else None
pair_by inner (token_part t token) (node_part c) = None
pair_by inner (node_part p) (token_part u c) = None
pair_by inner (node_part p) (node_part c) = inner p c

-- parts against parts, one by one
abbrev pub pairs_by : Binder → List Part → List Part → Option (List Binding)
pairs_by inner [] [] = Some []
pairs_by inner [] (c ∷ cs) = None
pairs_by inner (p ∷ ps) [] = None
pairs_by inner (p ∷ ps) (c ∷ cs) = joined (pair_by inner p c) (pairs_by inner ps cs)

-- ** Cases.

-- a placeholder against a node, which has to meet its constraints
abbrev pub placeholder_by : ResolvedRule → ℕ → Node → Option (List Binding)
placeholder_by rule i c = if meets rule i c.kind then Some (node_binding i c.number ∷ []) else None

-- a node of the pattern that may be a placeholder
abbrev pub node_by : ResolvedRule → Option ℕ → Option (List Binding) → Node → Option (List Binding)
node_by rule (Some i) rest c = placeholder_by rule i c
node_by rule None rest c = rest

-- whether what is told of a node of the code is what a used path stands for
abbrev pub stands_for : Res → Option Res → Bool
stands_for r told = option_map_or (same_res r) told false

-- the same where it is asked at all
abbrev pub stands_if : Bool → Res → Option Res → Bool
stands_if true r told = stands_for r told
stands_if false r told = true

-- what counts of a used path, or else of a node
abbrev pub counted : {A : Type 0} → Option Res → A → A → A
counted (Some r) arguments children = arguments
counted None arguments children = children

-- what counts of both nodes, where that of the pattern is a used path or none
abbrev pub counted_sides : Option Res → Node → Node → Sides
counted_sides used p c = record {
  pattern = bare (counted used (arguments_of p) (parts_of p));
  code = bare (counted used (arguments_of c) (parts_of c));
  receiver = None;
}

abbrev pub sides_by : Binder → Sides → Option (List Binding)
sides_by inner sides = option_map (kept sides.receiver) (pairs_by inner sides.pattern sides.code)

module _ (names : Bool) (m : Meanings) (tree : ℕ) (rule : ResolvedRule) where
  -- whether a node of the kind of one of the pattern can match it: where that is a used path it has to stand for the
  -- same thing, if names are asked
  abbrev pub can_match : Option Res → Node → Node → Bool
  can_match (Some r) p c = stands_if names r (code_res m tree c)
  can_match None p c = can_be_call m tree (call_of rule p) c

  -- lists of fields with names pair by the names
  abbrev pub like_pairs : Option Res → Node → Node → Option Sides
  like_pairs (Some r) p c = Some (counted_sides (Some r) p c)
  like_pairs None p c = if is_named rule p c then option_map (named_pairs p) (named_nodes p c) else Some (counted_sides None p c)

  abbrev pub like_sides : Node → Node → Option Sides
  like_sides p c = if same_kind p.kind c.kind && can_match (pattern_res rule p) p c then like_pairs (pattern_res rule p) p c else None

  -- what has to pair of a node of the pattern, which may be a qualified call, and a node, which may be a method call
  abbrev pub sides_in : Option QualifiedCall → Bool → Node → Node → Option Sides
  sides_in (Some call) true p c = method_sides m tree rule call p c
  sides_in (Some call) false p c = like_sides p c
  sides_in None is_method p c = like_sides p c

  -- a node of the pattern that is no placeholder against a node: none, where the node cannot match it
  abbrev pub sides_of : Node → Node → Option Sides
  sides_of p c = sides_in (call_of rule p) (same_kind c.kind k.METHOD_CALL_EXPR) p c

  -- a node of the pattern that is no placeholder against a node: a token tree by its tokens, another one by its parts
  abbrev pub other_by : Binder → Bool → Bool → Node → Node → Option (List Binding)
  other_by inner true plain p c = tree_by rule p c
  other_by inner false true p c = option_and_then (sides_by inner) (sides_of p c)
  other_by inner false false p c = None

  -- any node of the pattern, where it is told for smaller ones
  abbrev pub step : Binder → Binder
  step inner p c = node_by rule (placeholder_at rule.names p) (other_by inner (is_token_tree p) (is_plain rule p) p c) c

  abbrev pub bindings_by : ℕ → Binder
  bindings_by zero p c = None
  bindings_by (suc steps) p c = step (bindings_by steps) p c

  -- what the placeholders of the pattern's node p bind where c matches it, with names asked or without
  unfoldable pub bindings_in : Binder
  bindings_in p c = bindings_by (size_of p) p c

-- what the placeholders of a node of the pattern bind where one of the code matches it
abbrev pub bindings_of : Meanings → ℕ → ResolvedRule → Binder
bindings_of m tree rule = bindings_in true m tree rule

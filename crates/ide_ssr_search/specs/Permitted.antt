-- At which nodes a search tries a rule.
use Rattle.std.specs.Prelude.{ℕ, ◌≡◌, ◌⊎◌, ◌&&◌, ◌||◌, not, Bool, false, IsTrue, IsSome, if◌then◌else◌, List, [], ◌∷◌, Option, Some, None, Contains}
use Rattle.std.specs.Option.{IsSomeAnd, option_map, option_and_then}
use Rattle.ssr_syntax_kinds.specs.declared.kinds.SyntaxKind.{SyntaxKind}
use Rattle.ssr_syntax_kinds.specs.declared.kinds.SyntaxKind.TheVariants as k
use Rattle.ssr_syntax_kinds.specs.Kinds.{same_kind, is_trivia}
use Rattle.ssr_syntax_tree.specs.Syntax.{Token, tokens_of}
use Rattle.ssr_syntax_tree.specs.Places.{Part, token_part, node_part, node_of, parts_of}
use Rattle.ssr_base_trees.specs.declared.ids.NodeId.{NodeId}
use Rattle.ssr_base_trees.specs.Workspace.{Workspace, PlacedTree, FileSpan, trees, with_number, node_id, original_range}
use Rattle.ssr_base_trees.specs.Built.{IsNodeOf, IsMacroCall}
use Rattle.ssr_base_trees.specs.Laws.{IsBelow, LiesIn}
use Rattle.ide_ssr_resolved_rule.specs.Resolved.{ResolvedRule}
use Rattle.ide_ssr_bindings.specs.Found.{IsAtOrBelow, HasByte}
use Rattle.ide_ssr_search.specs.Context.{Context}

abbrev pub IsUse : List PlacedTree → NodeId → Type 0
IsUse trees x = IsSomeAnd (with_number trees x.tree) (λ p. (node_of p.syntax x.node.0).kind ≡ k.USE)

-- ** The arguments of a macro call.

-- the number of the first of these siblings that is a token tree
abbrev pub first_token_tree : List Part → Option ℕ
first_token_tree [] = None
first_token_tree (token_part t token ∷ rest) = first_token_tree rest
first_token_tree (node_part node ∷ rest) =
    if same_kind node.kind k.TOKEN_TREE then Some node.number else first_token_tree rest

-- a call's first child that is a token tree
abbrev pub arguments_of : List PlacedTree → NodeId → Option NodeId
arguments_of trees call =
    option_and_then
    (λ p. option_map (node_id call.tree) (first_token_tree (parts_of (node_of p.syntax call.node.0))))
    (with_number trees call.tree)

-- where the arguments of a macro call come from
abbrev pub arguments_range : List PlacedTree → NodeId → Option FileSpan
arguments_range trees call = option_and_then (original_range trees) (arguments_of trees call)

-- what shuts in what is below it: a USE, and a macro call whose arguments have no original range
abbrev pub Shuts : List PlacedTree → NodeId → Type 0
Shuts trees a = IsUse trees a ⊎ (IsMacroCall trees a × (arguments_range trees a ≡ None))

-- ** What is asked of a node, whatever the rule.

-- without restrictions all files are searched, else what lies in one of them
abbrev pub IsSearched : List FileSpan → FileSpan → Type 0
IsSearched restrictions range = (restrictions ≡ []) ⊎ ((r : FileSpan) × Contains restrictions r × LiesIn range r)

pub record IsOpen (w : Workspace) (restrictions : List FileSpan) (x : NodeId) : Type 0 where
  pub node : IsNodeOf (trees w) x
  pub has_byte : IsSomeAnd (original_range (trees w) x) HasByte
  pub searched : IsSomeAnd (original_range (trees w) x) (IsSearched restrictions)
  pub outside_use : (a : NodeId) → IsAtOrBelow (trees w) x a → ¬ IsUse (trees w) a
  pub calls_have_arguments : (a : NodeId) → IsBelow (trees w) x a → IsMacroCall (trees w) a → IsSome (arguments_range (trees w) a)

-- ** `self` as the value of a method.

abbrev pub begins_with : SyntaxKind → List Token → Bool
begins_with kind [] = false
begins_with kind (token ∷ tokens) = same_kind token.kind kind

-- whether a token is `::`, or the first of two `:`, one directly behind the other: in token trees tokens aren't joined
abbrev pub is_double_colon : Token → List Token → Bool
is_double_colon token behind = same_kind token.kind k.COLON2 || (same_kind token.kind k.COLON && begins_with k.COLON behind)

-- whether the first of these tokens that is no trivia is `::`
abbrev pub goes_on : List Token → Bool
goes_on [] = false
goes_on (token ∷ tokens) = if is_trivia token.kind then goes_on tokens else is_double_colon token tokens

-- whether one of these tokens is a `self` that isn't followed, trivia aside, by `::`
abbrev pub names_self : List Token → Bool
names_self [] = false
names_self (token ∷ tokens) = (same_kind token.kind k.SELF_KW && not (goes_on tokens)) || names_self tokens

-- a node stands in the function whose `self` is meant, at its node or below it
abbrev pub IsInFunction : List PlacedTree → Option NodeId → NodeId → Type 0
IsInFunction trees function x = IsSomeAnd function (IsAtOrBelow trees x)

-- ** What is asked of it for a rule.

pub record IsPermitted (w : Workspace) (context : Context) (rule : ResolvedRule) (x : NodeId) : Type 0 where
  pub open_to_all : IsOpen w context.restrictions x
  pub own_self : IsTrue (names_self (tokens_of rule.pattern)) → IsInFunction (trees w) context.function x

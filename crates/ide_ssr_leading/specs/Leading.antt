-- The path of a pattern that leads the search for its matches, and the nodes that usages lead to.
use Rattle.std.specs.Prelude.{ℕ, ◌≡◌, ◌-◌, ◌&&◌, nat_le, nat_lt, if◌then◌else◌, List, [], ◌∷◌, length, Option, Some, None, Contains}
use Rattle.std.specs.Option.{option_and_then}
use Rattle.ssr_syntax_kinds.specs.declared.kinds.SyntaxKind.{SyntaxKind}
use Rattle.ssr_syntax_kinds.specs.declared.kinds.SyntaxKind.TheVariants as k
use Rattle.ssr_syntax_kinds.specs.Kinds.{same_kind}
use Rattle.ssr_syntax_tree.specs.Syntax.{Syntax, tokens_of}
use Rattle.ssr_syntax_tree.specs.Places.{node_of, text_of, depth_at}
use Rattle.ssr_base_trees.specs.declared.ids.NodeId.{NodeId}
use Rattle.ssr_base_trees.specs.Meanings.{Meanings}
use Rattle.ssr_base_trees.specs.Workspace.{PlacedTree, told_of}
use Rattle.ssr_base_trees.specs.Laws.{climbed}
use Rattle.ide_ssr_resolved_rule.specs.declared.used_paths.UsedPath.{UsedPath}
use Rattle.ide_ssr_resolved_rule.specs.Resolved.{ResolvedRule}
use Rattle.ide_ssr_search.specs.Permitted.{names_self}

-- ** The picked path.

module _ (pattern : Syntax) where
  abbrev pub length_of : UsedPath → ℕ
  length_of path = length (text_of (node_of pattern path.node.0))

  -- the one with the longer text, the first one on ties
  abbrev pub longer : Option UsedPath → UsedPath → UsedPath
  longer None path = path
  longer (Some best) path = if nat_lt (length_of best) (length_of path) then path else best

  abbrev pub longest_of : Option UsedPath → List UsedPath → Option UsedPath
  longest_of best [] = best
  longest_of best (path ∷ paths) = longest_of (Some (longer best path)) paths

-- The path that leads the search for a rule: of the eligible ones that with the longest text in bytes, the first one on ties. No
-- path leads the search for a rule whose pattern has `self` as a value.
unfoldable pub picked_path : ResolvedRule → Option UsedPath
picked_path rule = if names_self (tokens_of rule.pattern) then None else longest_of rule.pattern None rule.eligible_paths

-- ** Where a usage leads.

-- How many steps a match stands above a usage of a path that is so deep in the pattern. A method call stands for a call of the
-- pattern, which is two levels above the path that it calls. No other node leads anywhere.
abbrev pub steps_from : SyntaxKind → ℕ → Option ℕ
steps_from kind depth =
    if same_kind kind k.PATH then Some depth
    else if same_kind kind k.METHOD_CALL_EXPR && nat_le 2 depth then Some (depth - 2)
    else None

-- the kind of a node, if there is one of this number
abbrev pub kind_at : List PlacedTree → NodeId → Option SyntaxKind
kind_at trees x = told_of (λ p. Some (node_of p.syntax x.node.0).kind) trees x

-- the node that a usage leads to
unfoldable pub led_to : List PlacedTree → ℕ → NodeId → Option NodeId
led_to trees depth usage =
    option_and_then (λ steps. climbed trees steps usage) (option_and_then (λ kind. steps_from kind depth) (kind_at trees usage))

-- some usage of what a path of a rule's pattern stands for leads to a node
abbrev pub IsLedTo : List PlacedTree → Meanings → ResolvedRule → NodeId → UsedPath → Type 0
IsLedTo trees m rule x path =
    (usage : NodeId) × Contains (m.usages path.res) usage × (led_to trees (depth_at rule.pattern path.node.0) usage ≡ Some x)

-- What is known of a used path: it is a path that the walk reaches, and no used path stands above it.
use Rattle.std.proofs.Common.{◌≡◌, ℕ, Bool, true, false, ◌&&◌, not, List, [], ◌∷◌, All, Option, Some, None, Ok, refl, sym, ap, ◌∙◌, subst, get_or, arith}
use Rattle.std.specs.Prelude.{if◌then◌else◌}
use Rattle.std.specs.List.{cons_option, filter_map, find}
use Rattle.std.specs.Option.{is_some, option_and_then, option_map, option_map_or}
use Rattle.std.proofs.lemmas.Bool.{both_ways, or_right}
use Rattle.std.proofs.lemmas.List.{get_or_default}
use Rattle.std.proofs.lemmas.List.Elements.{All-nil, All-cons, All-head, All-tail, All-filter, filter_passes}
use Rattle.std.proofs.lemmas.Option.{none-some, same_Some}
use Rattle.ssr_syntax_kinds.proofs.Shared.{same_kind-equal}
use Rattle.ssr_syntax_kinds.specs.declared.kinds.SyntaxKind.TheVariants as k
use Rattle.ssr_syntax_tree.specs.Places.{Node, HasNode, node_of, nodes_of, root_of}
use Rattle.ssr_syntax_tree.specs.Syntax.{Syntax}
use Rattle.ssr_syntax_tree.proofs.Shared.{length-nodes_of, node_is, node_of-number, IsOver}
use Rattle.ssr_base_trees.specs.declared.ids.ScopeId.{ScopeId}
use Rattle.ssr_base_trees.specs.declared.semantics.Res.{Res}
use Rattle.ssr_base_trees.specs.Meanings.{Meanings}
use Rattle.ide_ssr_resolved_rule.specs.declared.used_paths.UsedPath.{UsedPath}
use Rattle.ide_ssr_resolving.specs.Resolving.{resolution}
use Rattle.ide_ssr_resolving.specs.Used.{ends_in_self, has_to_resolve, is_path, is_whole, is_reached, is_unresolved, reached, refused, stops, use_of, used, used_at, used_path, used_paths}
use Rattle.ide_ssr_resolving.proofs.Walk.{hidden}

pub filter_map_all : {X Y : Type 0} (P : X → Type 0) (Q : Y → Type 0) (f : X → Option Y) (xs : List X) → ((x : X) (y : Y) → P x → f x ≡ Some y → Q y) → All P xs
    → All Q (filter_map f xs)
filter_map_all P Q f [] each all = All-nil Q
filter_map_all {X} {Y} P Q f (x ∷ xs) each all = by (f x) refl (filter_map_all P Q f xs each (All-tail P x xs all))
  where
    by : (o : Option Y) → f x ≡ o → All Q (filter_map f xs) → All Q (cons_option o (filter_map f xs))
    by None is behind = behind
    by (Some y) is behind = All-cons Q y (filter_map f xs) (each x y (All-head P x xs all) is) behind

-- a node that a tree has under its number
record IsThere (tree : Syntax) (node : Node) : Type 0 where
  has : HasNode tree node.number
  is : node_of tree node.number ≡ node

all_there : (tree : Syntax) → All (IsThere tree) (nodes_of tree)
all_there tree n d within =
    let has : HasNode tree n = omega (arith, within, length-nodes_of tree) in
    let is : node_of tree n ≡ get_or (nodes_of tree) n d = node_is tree n has ∙ get_or_default (nodes_of tree) n (root_of tree) d within in
    let number = node_of-number tree n has in
    subst (IsThere tree) is (record { has = subst (HasNode tree) (sym number) has; is = ap (node_of tree) number })

module _ (m : Meanings) (scope : ScopeId) (names : List (List ℕ)) where
  -- ** What is used.

  pub use_kind : (node : Node) (r : Res) → use_of m scope names node ≡ Some r → node.kind ≡ k.PATH
  unfolding use_of
  use_kind node r is = same_kind-equal node.kind k.PATH (by (is_path node) (has_to_resolve names node.children) is)
    where
      by : (path resolves : Bool) → (if path && resolves then option_and_then (used m) (resolution m scope node.children) else None) ≡ Some r → path ≡ true
      by true resolves is = refl
      by false resolves is = absurd (none-some r is)

  pub use_whole : (node : Node) (r : Res) → use_of m scope names node ≡ Some r → is_whole names node.children ≡ true
  unfolding use_of
  use_whole node r is = by (is_path node) (ends_in_self node.children) (is_whole names node.children) is
    where
      by : (path own whole : Bool) → (if path && (not own && whole) then option_and_then (used m) (resolution m scope node.children) else None) ≡ Some r → whole ≡ true
      by true false true is = refl
      by true false false is = absurd (none-some r is)
      by true true whole is = absurd (none-some r is)
      by false own whole is = absurd (none-some r is)

  -- nothing below it is looked at
  use_stops : (node : Node) (r : Res) → use_of m scope names node ≡ Some r → stops m scope names node ≡ true
  unfolding stops
  use_stops node r is = or_right (is_path node && ends_in_self node.children) (is_some (use_of m scope names node)) (ap is_some is)

  module _ (tree : Syntax) where
    record IsReached (node : Node) : Type 0 where
      there : IsThere tree node
      reached : is_reached m scope names tree node ≡ true

    -- a path that the walk reaches, which is used for what it stands for
    pub record IsUsed (path : UsedPath) : Type 0 where
      pub has : HasNode tree path.node.0
      pub reached : is_reached m scope names tree (node_of tree path.node.0) ≡ true
      pub is : use_of m scope names (node_of tree path.node.0) ≡ Some path.res

    all_reached : All IsReached (reached m scope names tree)
    all_reached n d within = record {
      there = All-filter (is_reached m scope names tree) (IsThere tree) (nodes_of tree) (all_there tree) n d within;
      reached = filter_passes (is_reached m scope names tree) (nodes_of tree) n d within;
    }

    used_is : (node : Node) (path : UsedPath) → IsReached node → used_at m scope names node ≡ Some path → IsUsed path
    used_is node path walked is = by (use_of m scope names node) refl is
      where
        by : (o : Option Res) → use_of m scope names node ≡ o → option_map (used_path node) o ≡ Some path → IsUsed path
        by None none is = absurd (none-some path is)
        by (Some r) uses is =
            let there = walked.there in
            subst IsUsed (same_Some (used_path node r) path is)
            (record {
              has = there.has;
              reached = ap (is_reached m scope names tree) there.is ∙ walked.reached;
              is = ap (use_of m scope names) there.is ∙ uses;
            })

    pub all_used : (paths : List UsedPath) → used_paths m scope names tree ≡ Ok paths → All IsUsed paths
    unfolding used_paths
    all_used paths is = by (find (is_unresolved m scope names) (reached m scope names tree)) is
      where
        by : (o : Option Node) → option_map_or refused o (Ok (filter_map (used_at m scope names) (reached m scope names tree))) ≡ Ok paths → All IsUsed paths
        by (Some node) is = cc
        by None is =
            let same : filter_map (used_at m scope names) (reached m scope names tree) ≡ paths = cc in
            subst (All IsUsed) same (filter_map_all IsReached IsUsed (used_at m scope names) (reached m scope names tree) used_is all_reached)

    -- ** What that says.

    pub used_kind : (path : UsedPath) → IsUsed path → (node_of tree path.node.0).kind ≡ k.PATH
    used_kind path known = use_kind (node_of tree path.node.0) path.res known.is

    -- a node is used for one thing
    pub used_once : (path other : UsedPath) → IsUsed path → IsUsed other → path.node.0 ≡ other.node.0 → path.res ≡ other.res
    used_once path other known again same =
        same_Some path.res other.res (sym known.is ∙ ap (λ n. use_of m scope names (node_of tree n)) same ∙ again.is)

    pub outermost : (upper path : UsedPath) → IsUsed upper → IsUsed path → IsOver tree upper.node.0 path.node.0 → ⊥
    outermost upper path above known over =
        both_ways (is_reached m scope names tree (node_of tree path.node.0))
        (hidden m scope names tree upper.node.0 path.node.0 above.has over (use_stops (node_of tree upper.node.0) upper.res above.is)) known.reached

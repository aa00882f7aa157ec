-- What counts of a node: its children, or the arguments of a path's last segment. They are among the children, or among those
-- of a child.
use Rattle.std.proofs.Common.{◌≡◌, Bool, true, false, cond, List, [], ◌∷◌, All, Option, Some, None, refl, subst}
use Rattle.std.proofs.lemmas.List.Elements.{All-nil, All-cons, All-head, All-tail}
use Rattle.std.proofs.lemmas.Option.{none-some, same_Some}
use Rattle.std.specs.Option.{option_map_or}
use Rattle.ssr_syntax_kinds.specs.declared.kinds.SyntaxKind.{SyntaxKind}
use Rattle.ssr_syntax_kinds.specs.declared.kinds.SyntaxKind.TheVariants as k
use Rattle.ssr_syntax_kinds.specs.Kinds.{same_kind}
use Rattle.ssr_syntax_tree.specs.Places.{Node, Part, token_part, node_part, parts_of}
use Rattle.ssr_base_trees.specs.declared.semantics.Res.{Res}
use Rattle.ide_ssr_resolved_rule.specs.Paths.{first_of_kind}
use Rattle.ide_ssr_matching.specs.Bindings.{counted}
use Rattle.ide_ssr_matching.specs.Children.{leaves_out, bare}
use Rattle.ide_ssr_matching.specs.UsedPaths.{holds_arguments, from_arguments, arguments_of}

module _ (P : Part → Type 0) where
  pub bare_all : (parts : List Part) → All P parts → All P (bare parts)
  bare_all [] all = all
  bare_all (part ∷ rest) all = kept (leaves_out part rest) (bare_all rest (All-tail P part rest all))
    where
      kept : (b : Bool) → All P (bare rest) → All P (cond b (bare rest) (part ∷ bare rest))
      kept true behind = behind
      kept false behind = All-cons P part (bare rest) (All-head P part rest all) behind

  pub arguments_all : (parts : List Part) → All P parts → All P (from_arguments parts)
  arguments_all [] all = all
  arguments_all (part ∷ rest) all = kept (holds_arguments part) (arguments_all rest (All-tail P part rest all))
    where
      kept : (b : Bool) → All P (from_arguments rest) → All P (cond b (part ∷ rest) (from_arguments rest))
      kept true behind = all
      kept false behind = behind

  pub first_has : (kind : SyntaxKind) (parts : List Part) (node : Node) → first_of_kind kind parts ≡ Some node → All P parts → P (node_part node)
  first_has kind [] node is all = absurd (none-some node is)
  first_has kind (token_part t token ∷ rest) node is all = first_has kind rest node is (All-tail P (token_part t token) rest all)
  first_has kind (node_part own ∷ rest) node is all =
      here (same_kind own.kind kind) (λ is. first_has kind rest node is (All-tail P (node_part own) rest all)) is
    where
      here : (b : Bool) → (first_of_kind kind rest ≡ Some node → P (node_part node)) → cond b (Some own) (first_of_kind kind rest) ≡ Some node
          → P (node_part node)
      here true behind is = subst (λ node. P (node_part node)) (same_Some own node is) (All-head P (node_part own) rest all)
      here false behind is = behind is

  segment_all : (o : Option Node) → ((segment : Node) → o ≡ Some segment → All P (parts_of segment))
      → All P (option_map_or (λ segment. from_arguments (parts_of segment)) o [])
  segment_all None below = All-nil P
  segment_all (Some segment) below = arguments_all (parts_of segment) (below segment refl)

  pub last_arguments_all : (path : Node) → ((segment : Node) → first_of_kind k.PATH_SEGMENT (parts_of path) ≡ Some segment → All P (parts_of segment))
      → All P (arguments_of path)
  last_arguments_all path below = segment_all (first_of_kind k.PATH_SEGMENT (parts_of path)) below

  -- what is true of the children, and of those of the last segment, is of what counts
  pub counted_all : (used : Option Res) (node : Node) → All P (parts_of node)
      → ((segment : Node) → first_of_kind k.PATH_SEGMENT (parts_of node) ≡ Some segment → All P (parts_of segment))
      → All P (counted used (arguments_of node) (parts_of node))
  counted_all (Some r) node children below = segment_all (first_of_kind k.PATH_SEGMENT (parts_of node)) below
  counted_all None node children below = children

-- Parts of a node of a tree: nodes of the tree whose tokens are among the node's, no two of which share one.
use Rattle.std.proofs.Common.{◌≡◌, ℕ, ◌+◌, ◌≤◌, Bool, true, false, cond, List, [], ◌∷◌, All, AllPairs, Option, Some, None, refl, subst, inl, inr, ◌⊎◌, arith}
use Rattle.std.specs.Option.{option_map_or}
use Rattle.std.proofs.lemmas.List.Elements.{All-nil, All-cons, All-weaker}
use Rattle.std.proofs.lemmas.List.Kept.{AllPairs-cons}
use Rattle.ssr_syntax_kinds.specs.declared.kinds.SyntaxKind.TheVariants as k
use Rattle.ssr_syntax_tree.specs.Syntax.{Syntax, Forest, nothing, leaf, branch, token_count, node_count}
use Rattle.ssr_syntax_tree.specs.Places.{Node, Part, token_part, node_part, parts_in, parts_of}
use Rattle.ssr_syntax_tree.proofs.Lists.{pairs_none, pairs_head, pairs_tail}
use Rattle.ssr_syntax_tree.proofs.Shared.{IsOf, IsChild, children_known}
use Rattle.ssr_base_trees.specs.declared.ids.TokenRun.{TokenRun}
use Rattle.ssr_base_trees.specs.declared.semantics.Res.{Res}
use Rattle.ssr_base_trees.specs.Laws.{IsAmong}
use Rattle.ssr_base_trees.specs.Workspace.{run_of}
use Rattle.ide_ssr_resolved_rule.specs.Paths.{first_of_kind}
use Rattle.ide_ssr_matching.specs.Children.{leaves_out, bare}
use Rattle.ide_ssr_matching.specs.UsedPaths.{holds_arguments, from_arguments, arguments_of}
use Rattle.ide_ssr_matching.specs.Bindings.{counted}
use Rattle.ide_ssr_matching.proofs.Counted.{bare_all, arguments_all, first_has}

-- ** Tokens.

-- two runs without a common token
abbrev pub RunsApart : TokenRun → TokenRun → Type 0
RunsApart r s = (r.first + r.count ≤ s.first) ⊎ (s.first + s.count ≤ r.first)

pub narrower : (r s x y : TokenRun) → RunsApart r s → IsAmong x r → IsAmong y s → RunsApart x y
narrower r s x y (inl before) in_r in_s = let ends = in_r.1 in let starts = in_s.0 in inl (omega arith)
narrower r s x y (inr behind) in_r in_s = let starts = in_r.0 in let ends = in_s.1 in inr (omega arith)

pub wider : (r s x : TokenRun) → IsAmong x r → IsAmong r s → IsAmong x s
wider r s x within inside =
    let a = within.0 in
    let b = within.1 in
    let c = inside.0 in
    let d = inside.1 in
    (omega arith, omega arith)

-- ** Parts.

-- a node of a tree
abbrev pub IsPartOf : Syntax → Part → Type 0
IsPartOf code (token_part t token) = Unit {0}
IsPartOf code (node_part node) = IsOf code node

-- a node whose tokens are between two numbers
abbrev pub IsBetween : ℕ → ℕ → Part → Type 0
IsBetween low high (token_part t token) = Unit {0}
IsBetween low high (node_part node) = (low ≤ node.first) × (node.first + token_count node.children ≤ high)

-- among those of a node
abbrev pub IsAmongNode : Node → Part → Type 0
IsAmongNode c part = IsBetween c.first (c.first + token_count c.children) part

abbrev pub PartsApart : Part → Part → Type 0
PartsApart (token_part t token) q = Unit {0}
PartsApart (node_part a) (token_part t token) = Unit {0}
PartsApart (node_part a) (node_part b) = RunsApart (run_of a) (run_of b)

parts_between : (low high parent m t : ℕ) (forest : Forest) → low ≤ t → t + token_count forest ≤ high → All (IsBetween low high) (parts_in parent m t forest)
parts_between low high parent m t nothing from to = All-nil (IsBetween low high)
parts_between low high parent m t (leaf token next) from to =
    All-cons (IsBetween low high) (token_part t token) (parts_in parent m (1 + t) next) tt
    (parts_between low high parent m (1 + t) next (omega arith) (omega arith))
parts_between low high parent m t (branch kind below next) from to =
    let node : Node = record { number = m; parent = parent; first = t; kind = kind; children = below } in
    All-cons (IsBetween low high) (node_part node) (parts_in parent (1 + m + node_count below) (t + token_count below) next) (from, omega arith)
    (parts_between low high parent (1 + m + node_count below) (t + token_count below) next (omega arith) (omega arith))

-- what comes behind a node shares no token with it
behind_apart : (node : Node) (high : ℕ) (part : Part) → IsBetween (node.first + token_count node.children) high part → PartsApart (node_part node) part
behind_apart node high (token_part t token) behind = tt
behind_apart node high (node_part later) behind = inl behind.0

parts_apart : (parent m t : ℕ) (forest : Forest) → AllPairs PartsApart (parts_in parent m t forest)
parts_apart parent m t nothing = pairs_none PartsApart
parts_apart parent m t (leaf token next) =
    AllPairs-cons PartsApart (token_part t token) (parts_in parent m (1 + t) next) (λ i d lt. tt) (parts_apart parent m (1 + t) next)
parts_apart parent m t (branch kind below next) =
    let node : Node = record { number = m; parent = parent; first = t; kind = kind; children = below } in
    let rest = parts_in parent (1 + m + node_count below) (t + token_count below) next in
    let high = t + token_count below + token_count next in
    AllPairs-cons PartsApart (node_part node) rest
    (All-weaker (IsBetween (t + token_count below) high) (PartsApart (node_part node)) (behind_apart node high) rest
    (parts_between (t + token_count below) high parent (1 + m + node_count below) (t + token_count below) next (omega arith) (omega arith)))
    (parts_apart parent (1 + m + node_count below) (t + token_count below) next)

bare_apart : (parts : List Part) → AllPairs PartsApart parts → AllPairs PartsApart (bare parts)
bare_apart [] apart = apart
bare_apart (part ∷ rest) apart = kept (leaves_out part rest) (bare_apart rest (pairs_tail PartsApart part rest apart))
  where
    kept : (b : Bool) → AllPairs PartsApart (bare rest) → AllPairs PartsApart (cond b (bare rest) (part ∷ bare rest))
    kept true behind = behind
    kept false behind =
        AllPairs-cons PartsApart part (bare rest) (bare_all (PartsApart part) rest (pairs_head PartsApart part rest apart)) behind

arguments_apart : (parts : List Part) → AllPairs PartsApart parts → AllPairs PartsApart (from_arguments parts)
arguments_apart [] apart = apart
arguments_apart (part ∷ rest) apart = kept (holds_arguments part) (arguments_apart rest (pairs_tail PartsApart part rest apart))
  where
    kept : (b : Bool) → AllPairs PartsApart (from_arguments rest) → AllPairs PartsApart (cond b (part ∷ rest) (from_arguments rest))
    kept true behind = apart
    kept false behind = behind

-- ** Parts of a node of a tree.

pub record AreOf (code : Syntax) (c : Node) (parts : List Part) : Type 0 where
  pub each : All (IsPartOf code) parts
  pub among : All (IsAmongNode c) parts
  pub apart : AllPairs PartsApart parts

module _ (code : Syntax) where
  pub none_are : (c : Node) → AreOf code c []
  none_are c = record { each = All-nil (IsPartOf code); among = All-nil (IsAmongNode c); apart = pairs_none PartsApart }

  child_is : (n : ℕ) (part : Part) → IsChild code n part → IsPartOf code part
  child_is n (token_part t token) child = tt
  child_is n (node_part node) child = (child.0, child.1)

  pub each_child : (c : Node) → IsOf code c → All (IsPartOf code) (parts_of c)
  each_child c is =
      All-weaker (IsChild code c.number) (IsPartOf code) (child_is c.number) (parts_of c)
      (subst (λ (found : Node). All (IsChild code c.number) (parts_of found)) is.1 (children_known code c.number is.0))

  pub children_are : (c : Node) → IsOf code c → AreOf code c (parts_of c)
  children_are c is = record {
    each = each_child c is;
    among = parts_between c.first (c.first + token_count c.children) c.number (1 + c.number) c.first c.children (omega arith) (omega arith);
    apart = parts_apart c.number (1 + c.number) c.first c.children;
  }

  pub bare_are : (c : Node) (parts : List Part) → AreOf code c parts → AreOf code c (bare parts)
  bare_are c parts are = record {
    each = bare_all (IsPartOf code) parts are.each;
    among = bare_all (IsAmongNode c) parts are.among;
    apart = bare_apart parts are.apart;
  }

  arguments_are : (c : Node) (parts : List Part) → AreOf code c parts → AreOf code c (from_arguments parts)
  arguments_are c parts are = record {
    each = arguments_all (IsPartOf code) parts are.each;
    among = arguments_all (IsAmongNode c) parts are.among;
    apart = arguments_apart parts are.apart;
  }

  -- those of a node among the tokens of another one are its parts too
  pub inner_are : (c x : Node) (parts : List Part) → IsAmongNode c (node_part x) → AreOf code x parts → AreOf code c parts
  inner_are c x parts within are = record {
    each = are.each;
    among = All-weaker (IsAmongNode x) (IsAmongNode c) inside parts are.among;
    apart = are.apart;
  }
    where
      inside : (part : Part) → IsAmongNode x part → IsAmongNode c part
      inside (token_part t token) own = tt
      inside (node_part node) own = wider (run_of x) (run_of c) (run_of node) own within

  segment_are : (c : Node) (o : Option Node) → ((segment : Node) → o ≡ Some segment → IsOf code segment × IsAmongNode c (node_part segment))
      → AreOf code c (option_map_or (λ segment. from_arguments (parts_of segment)) o [])
  segment_are c None known = none_are c
  segment_are c (Some segment) known =
      let facts = known segment refl in
      inner_are c segment (from_arguments (parts_of segment)) facts.1 (arguments_are segment (parts_of segment) (children_are segment facts.0))

  -- what counts of a node
  pub counted_are : (used : Option Res) (c : Node) → IsOf code c → AreOf code c (bare (counted used (arguments_of c) (parts_of c)))
  counted_are None c is = bare_are c (parts_of c) (children_are c is)
  counted_are (Some r) c is =
      let children = children_are c is in
      bare_are c (arguments_of c)
      (segment_are c (first_of_kind k.PATH_SEGMENT (parts_of c))
      (λ segment found. (
        first_has (IsPartOf code) k.PATH_SEGMENT (parts_of c) segment found children.each,
        first_has (IsAmongNode c) k.PATH_SEGMENT (parts_of c) segment found children.among,
      )))

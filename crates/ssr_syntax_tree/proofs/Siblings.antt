-- How one gets from siblings to those after them and to those below.
use Rattle.std.proofs.Common.{◌≡◌, ℕ, ◌+◌, ◌≤◌, List, [], ◌++◌, length, All, refl, sym, ap, ◌∙◌, arith, append_assoc, append-nil, length-append}
use Rattle.std.proofs.lemmas.List.Elements.{All-nil, All-cons, All-append, All-weaker}
use Rattle.std.proofs.lemmas.Option.{get_or_from_slice_get}
use Rattle.std.specs.Prelude.{unwrap_or}
use Rattle.ssr_syntax_kinds.specs.declared.kinds.SyntaxKind.{SyntaxKind}
use Rattle.ssr_syntax_tree.specs.Syntax.{Token, Forest, nothing, leaf, branch, Syntax, token_count, node_count, tokens_in, tokens_of}
use Rattle.ssr_syntax_tree.specs.Private.Siblings.{At}
use Rattle.ssr_syntax_tree.proofs.Lists.{drop_one, drop_part, slice_get-drop}
use Rattle.ssr_syntax_tree.specs.Places.{Node, nodes_in, nodes_of, root_of, node_of, token_of, depths_in, depths_of, depth_at}

pub length-nodes_in : (parent m t : ℕ) (forest : Forest) → length (nodes_in parent m t forest) ≡ node_count forest
length-nodes_in parent m t nothing = refl
length-nodes_in parent m t (leaf token next) = length-nodes_in parent m (1 + t) next
length-nodes_in parent m t (branch kind below next) =
    omega (
      arith,
      length-append (nodes_in m (1 + m) t below) (nodes_in parent (1 + m + node_count below) (t + token_count below) next),
      length-nodes_in m (1 + m) t below,
      length-nodes_in parent (1 + m + node_count below) (t + token_count below) next,
    )

pub length-tokens_in : (forest : Forest) → length (tokens_in forest) ≡ token_count forest
length-tokens_in nothing = refl
length-tokens_in (leaf token next) = omega (arith, length-tokens_in next)
length-tokens_in (branch kind below next) =
    omega (arith, length-append (tokens_in below) (tokens_in next), length-tokens_in below, length-tokens_in next)

pub length-depths_in : (depth : ℕ) (forest : Forest) → length (depths_in depth forest) ≡ node_count forest
length-depths_in depth nothing = refl
length-depths_in depth (leaf token next) = length-depths_in depth next
length-depths_in depth (branch kind below next) =
    omega (arith, length-append (depths_in (1 + depth) below) (depths_in depth next), length-depths_in (1 + depth) below, length-depths_in depth next)

-- siblings and the nodes below them begin at or after the first token
pub first-nodes_in : (parent m t low : ℕ) (forest : Forest) → low ≤ t → All (λ node. low ≤ node.first) (nodes_in parent m t forest)
first-nodes_in parent m t low nothing h = All-nil (λ node. low ≤ node.first)
first-nodes_in parent m t low (leaf token next) h = first-nodes_in parent m (1 + t) low next (omega arith)
first-nodes_in parent m t low (branch kind below next) h =
    All-cons (λ node. low ≤ node.first) _ _ h
    (All-append (λ node. low ≤ node.first) _ _
    (first-nodes_in m (1 + m) t low below h)
    (first-nodes_in parent (1 + m + node_count below) (t + token_count below) low next (omega arith)))

later_weaker : (low high : ℕ) (nodes : List Node) → low ≤ high → All (λ node. high ≤ node.first) nodes → All (λ node. low ≤ node.first) nodes
later_weaker low high nodes h later = All-weaker (λ node. high ≤ node.first) (λ node. low ≤ node.first) (λ node g. omega arith) nodes later

pub at_top : (syntax : Syntax) → At syntax 0 1 0 syntax.children
unfolding node_of depth_at
at_top syntax = record {
  nodes_after = [];
  tokens_after = [];
  depths_after = [];
  nodes = sym (append-nil _);
  tokens = sym (append-nil _);
  depths = sym (append-nil _);
  nodes_end = omega arith;
  tokens_end = omega arith;
  later = All-nil _;
  behind_parent = omega arith;
  in_parent = omega arith;
}

pub at_leaf : (syntax : Syntax) (parent m t : ℕ) (token : Token) (next : Forest) → At syntax parent m t (leaf token next) → At syntax parent m (1 + t) next
at_leaf syntax parent m t token next a = record {
  nodes_after = a.nodes_after;
  tokens_after = a.tokens_after;
  depths_after = a.depths_after;
  nodes = a.nodes;
  tokens = drop_one (tokens_of syntax) t token (tokens_in next ++ a.tokens_after) a.tokens;
  depths = a.depths;
  nodes_end = a.nodes_end;
  tokens_end = omega arith;
  later = later_weaker _ _ a.nodes_after (omega arith) a.later;
  behind_parent = a.behind_parent;
  in_parent = a.in_parent;
}

-- the node that stands there
pub node_of-at : (syntax : Syntax) (parent m t : ℕ) (kind : SyntaxKind) (below next : Forest) → At syntax parent m t (branch kind below next) → node_of syntax m ≡ record { number = m; parent = parent; first = t; kind = kind; children = below }
unfolding node_of
node_of-at syntax parent m t kind below next a =
    ap (λ found. unwrap_or found (root_of syntax)) (slice_get-drop (nodes_of syntax) m _ _ a.nodes)

pub token_of-at : (syntax : Syntax) (parent m t : ℕ) (token : Token) (next : Forest) → At syntax parent m t (leaf token next) → token_of syntax t ≡ token
unfolding token_of
token_of-at syntax parent m t token next a = rw (slice_get-drop (tokens_of syntax) t _ _ a.tokens) refl

pub depth_at-at : (syntax : Syntax) (parent m t : ℕ) (kind : SyntaxKind) (below next : Forest) → At syntax parent m t (branch kind below next) → depth_at syntax m ≡ 1 + depth_at syntax parent
unfolding depth_at
depth_at-at syntax parent m t kind below next a =
    get_or_from_slice_get (depths_of syntax) m _ 0 (slice_get-drop (depths_of syntax) m _ _ a.depths)

pub at_below : (syntax : Syntax) (parent m t : ℕ) (kind : SyntaxKind) (below next : Forest) → At syntax parent m t (branch kind below next) → At syntax m (1 + m) t below
at_below syntax parent m t kind below next a = record {
  nodes_after = nodes_in parent (1 + m + node_count below) (t + token_count below) next ++ a.nodes_after;
  tokens_after = tokens_in next ++ a.tokens_after;
  depths_after = depths_in (1 + depth_at syntax parent) next ++ a.depths_after;
  nodes = drop_one (nodes_of syntax) m _ _ a.nodes ∙ append_assoc (nodes_in m (1 + m) t below) _ _;
  tokens = a.tokens ∙ append_assoc (tokens_in below) (tokens_in next) a.tokens_after;
  depths =
      drop_one (depths_of syntax) m _ _ a.depths
      ∙ append_assoc (depths_in (1 + (1 + depth_at syntax parent)) below) _ _
      ∙ ap (λ depth. depths_in (1 + depth) below ++ (depths_in (1 + depth_at syntax parent) next ++ a.depths_after)) (sym (depth_at-at syntax parent m t kind below next a));
  nodes_end = omega (arith, length-append (nodes_in parent (1 + m + node_count below) (t + token_count below) next) a.nodes_after, length-nodes_in parent (1 + m + node_count below) (t + token_count below) next);
  tokens_end = omega (arith, length-append (tokens_in next) a.tokens_after, length-tokens_in next);
  later =
      All-append (λ node. t + token_count below ≤ node.first) _ _
      (first-nodes_in parent (1 + m + node_count below) (t + token_count below) (t + token_count below) next (omega arith))
      (later_weaker (t + token_count below) (t + (token_count below + token_count next)) a.nodes_after (omega arith) a.later);
  behind_parent = omega arith;
  in_parent = rw (node_of-at syntax parent m t kind below next a) (omega arith);
}

pub at_next : (syntax : Syntax) (parent m t : ℕ) (kind : SyntaxKind) (below next : Forest) → At syntax parent m t (branch kind below next) → At syntax parent (1 + m + node_count below) (t + token_count below) next
unfolding at_below
at_next syntax parent m t kind below next a = record {
  nodes_after = a.nodes_after;
  tokens_after = a.tokens_after;
  depths_after = a.depths_after;
  nodes =
      drop_part (nodes_of syntax) (1 + m) (node_count below) (nodes_in m (1 + m) t below) _ inner.nodes (length-nodes_in m (1 + m) t below);
  tokens = drop_part (tokens_of syntax) t (token_count below) (tokens_in below) _ inner.tokens (length-tokens_in below);
  depths =
      drop_part (depths_of syntax) (1 + m) (node_count below) (depths_in (1 + depth_at syntax m) below) _ inner.depths (length-depths_in (1 + depth_at syntax m) below);
  nodes_end = omega arith;
  tokens_end = omega arith;
  later = later_weaker _ _ a.nodes_after (omega arith) a.later;
  behind_parent = omega arith;
  in_parent = omega arith;
}
  where
    inner : At syntax m (1 + m) t below
    inner = at_below syntax parent m t kind below next a

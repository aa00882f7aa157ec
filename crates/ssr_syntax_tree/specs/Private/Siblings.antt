-- Private: where siblings stand in a tree, which the steps over the children of a node keep.
use Rattle.std.specs.Prelude.{ℕ, ◌+◌, ◌≡◌, ◌<◌, ◌≤◌, List, ◌++◌, All, length, drop, map}
use Rattle.ssr_syntax_tree.specs.declared.children.Children.TheInside.{Inside}
use Rattle.ssr_syntax_tree.specs.declared.number.Element.{Element}
use Rattle.ssr_syntax_tree.specs.Places.{Node, nodes_in, nodes_of, node_of, parts_in, element_of, elements_of, size_of, depths_in, depths_of, depth_at, HasNode}
use Rattle.ssr_syntax_tree.specs.Syntax.{Token, Forest, Syntax, token_count, node_count, tokens_in, tokens_of}

-- siblings stand below their parent at the node m and the token t: the tree's nodes and tokens go on there with theirs,
-- and the nodes behind theirs begin behind their tokens
pub record At (syntax : Syntax) (parent m t : ℕ) (forest : Forest) : Type 0 where
  pub nodes_after : List Node
  pub tokens_after : List Token
  pub depths_after : List ℕ
  pub nodes : drop m (nodes_of syntax) ≡ nodes_in parent m t forest ++ nodes_after
  pub tokens : drop t (tokens_of syntax) ≡ tokens_in forest ++ tokens_after
  pub depths : drop m (depths_of syntax) ≡ depths_in (1 + depth_at syntax parent) forest ++ depths_after
  pub nodes_end : m + node_count forest + length nodes_after ≡ 1 + node_count syntax.children
  pub tokens_end : t + token_count forest + length tokens_after ≡ token_count syntax.children
  pub later : All (λ node. t + token_count forest ≤ node.first) nodes_after
  pub behind_parent : parent < m
  pub in_parent : m + node_count forest ≤ parent + size_of (node_of syntax parent)

-- the children of a node that are left, where `count` of them have come
abbrev pub elements_left : Inside → List Element
elements_left children = drop children.count (elements_of (node_of children.tree.now children.node.0))

-- those are the siblings that stand at the next node and the next token
pub record IsStep (children : Inside) : Type 0 where
  pub siblings : Forest
  pub has : HasNode children.tree.now children.node.0
  pub at : At children.tree.now children.node.0 children.next_node children.next_token siblings
  pub past_node : children.past_node ≡ children.next_node + node_count siblings
  pub past_token : children.past_token ≡ children.next_token + token_count siblings
  pub left : elements_left children ≡ map element_of (parts_in children.node.0 children.next_node children.next_token siblings)
  pub counted : children.count ≤ children.next_node + children.next_token

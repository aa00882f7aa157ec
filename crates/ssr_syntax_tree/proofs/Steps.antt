-- The steps over the children of a node.
use Rattle.std.proofs.Common.{◌≡◌, ℕ, ◌+◌, ◌<◌, ◌≤◌, List, [], ◌∷◌, drop, map, sym, ap, ◌∙◌, subst, arith}
use Rattle.ssr_syntax_tree.specs.declared.children.Children.TheInside.{Inside}
use Rattle.ssr_syntax_tree.specs.declared.number.Element.{Element}
use Rattle.ssr_syntax_tree.specs.declared.number.Element.TheVariants as element
use Rattle.ssr_syntax_tree.specs.Places.{node_of, parts_in, element_of, elements_of, size_of, HasNode}
use Rattle.ssr_syntax_tree.specs.Private.Siblings.{At, elements_left, IsStep}
use Rattle.ssr_syntax_tree.specs.Syntax.{Forest, nothing, leaf, branch, Syntax, token_count, node_count}
use Rattle.ssr_syntax_tree.proofs.Lists.{drop_one}
use Rattle.ssr_syntax_tree.proofs.Siblings.{at_leaf, at_next, node_of-at}
use Rattle.ssr_syntax_tree.proofs.Places.{known}

-- the cursor behind one more child
abbrev pub stepped : Inside → ℕ → ℕ → Inside
stepped a m t = record {
  tree = a.tree;
  node = a.node;
  count = a.count + 1;
  next_node = m;
  next_token = t;
  past_node = a.past_node;
  past_token = a.past_token;
}

-- the child that comes, and the cursor after it
pub record Comes (a b : Inside) (element : Element) : Type 0 where
  pub step : IsStep b
  pub left : elements_left a ≡ element ∷ elements_left b

-- the node that stands next among siblings begins at or after the next token
first_ahead : (syntax : Syntax) (parent m t : ℕ) (forest : Forest) → At syntax parent m t forest → 0 < node_count forest → t ≤ (node_of syntax m).first
first_ahead syntax parent m t nothing a h = absurd (omega arith)
first_ahead syntax parent m t (leaf token next) a h = omega (arith, first_ahead syntax parent m (1 + t) next (at_leaf syntax parent m t token next a) h)
first_ahead syntax parent m t (branch kind below next) a h = rw (node_of-at syntax parent m t kind below next a) (omega arith)

left_after : (a : Inside) (element : Element) (rest : List Element) → elements_left a ≡ element ∷ rest → drop (a.count + 1) (elements_of (node_of a.tree.now a.node.0)) ≡ rest
left_after a element rest e =
    let elements = elements_of (node_of a.tree.now a.node.0) in
    ap (λ count. drop count elements) (let same : a.count + 1 ≡ 1 + a.count = omega arith in same) ∙ drop_one elements a.count element rest e

node_comes_from : (a : Inside) (forest : Forest) → HasNode a.tree.now a.node.0 → At a.tree.now a.node.0 a.next_node a.next_token forest → a.past_node ≡ a.next_node + node_count forest → a.past_token ≡ a.next_token + token_count forest → elements_left a ≡ map element_of (parts_in a.node.0 a.next_node a.next_token forest) → a.count ≤ a.next_node + a.next_token → a.next_node < a.past_node → (node_of a.tree.now a.next_node).first ≡ a.next_token → Comes a (stepped a (a.next_node + size_of (node_of a.tree.now a.next_node)) ((node_of a.tree.now a.next_node).first + token_count (node_of a.tree.now a.next_node).children)) (element.Node (record { 0 = a.next_node }))
node_comes_from a nothing has at pn pt left counted some first = absurd (omega arith)
node_comes_from a (leaf token next) has at pn pt left counted some first =
    absurd (omega (arith, first_ahead a.tree.now a.node.0 a.next_node (1 + a.next_token) next (at_leaf a.tree.now a.node.0 a.next_node a.next_token token next at) (omega arith)))
node_comes_from a (branch kind below next) has at pn pt left counted some first =
    rw (node_of-at a.tree.now a.node.0 a.next_node a.next_token kind below next at) (record {
      step = record {
        siblings = next;
        has = has;
        at = rest;
        past_node = omega arith;
        past_token = omega arith;
        left = after;
        counted = omega arith;
      };
      left = left ∙ ap (λ rest. element.Node (record { 0 = a.next_node }) ∷ rest) (sym (left_after a (element.Node (record { 0 = a.next_node })) _ left));
    })
  where
    same : 1 + a.next_node + node_count below ≡ a.next_node + (1 + node_count below)
    same = omega arith

    rest : At a.tree.now a.node.0 (a.next_node + (1 + node_count below)) (a.next_token + token_count below) next
    rest = subst (λ m. At a.tree.now a.node.0 m (a.next_token + token_count below) next) same (at_next a.tree.now a.node.0 a.next_node a.next_token kind below next at)

    after : drop (a.count + 1) (elements_of (node_of a.tree.now a.node.0)) ≡ map element_of (parts_in a.node.0 (a.next_node + (1 + node_count below)) (a.next_token + token_count below) next)
    after =
        left_after a (element.Node (record { 0 = a.next_node })) _ left
        ∙ ap (λ m. map element_of (parts_in a.node.0 m (a.next_token + token_count below) next)) same

pub node_comes : (a : Inside) (m t : ℕ) → IsStep a → a.next_node < a.past_node → (node_of a.tree.now a.next_node).first ≡ a.next_token → m ≡ a.next_node + size_of (node_of a.tree.now a.next_node) → t ≡ (node_of a.tree.now a.next_node).first + token_count (node_of a.tree.now a.next_node).children → Comes a (stepped a m t) (element.Node (record { 0 = a.next_node }))
node_comes a m t step some first m_is t_is =
    rw m_is (rw t_is (node_comes_from a step.siblings step.has step.at step.past_node step.past_token step.left step.counted some first))

token_comes_from : (a : Inside) (forest : Forest) → HasNode a.tree.now a.node.0 → At a.tree.now a.node.0 a.next_node a.next_token forest → a.past_node ≡ a.next_node + node_count forest → a.past_token ≡ a.next_token + token_count forest → elements_left a ≡ map element_of (parts_in a.node.0 a.next_node a.next_token forest) → a.count ≤ a.next_node + a.next_token → (a.next_node < a.past_node → (node_of a.tree.now a.next_node).first ≡ a.next_token → ⊥) → a.next_token < a.past_token → Comes a (stepped a a.next_node (a.next_token + 1)) (element.Token (record { 0 = a.next_token }))
token_comes_from a nothing has at pn pt left counted none some = absurd (omega arith)
token_comes_from a (leaf token next) has at pn pt left counted none some = record {
  step = record {
    siblings = next;
    has = has;
    at = subst (λ t. At a.tree.now a.node.0 a.next_node t next) same (at_leaf a.tree.now a.node.0 a.next_node a.next_token token next at);
    past_node = pn;
    past_token = omega arith;
    left = after;
    counted = omega arith;
  };
  left = left ∙ ap (λ rest. element.Token (record { 0 = a.next_token }) ∷ rest) (sym (left_after a (element.Token (record { 0 = a.next_token })) _ left));
}
  where
    same : 1 + a.next_token ≡ a.next_token + 1
    same = omega arith

    after : drop (a.count + 1) (elements_of (node_of a.tree.now a.node.0)) ≡ map element_of (parts_in a.node.0 a.next_node (a.next_token + 1) next)
    after =
        left_after a (element.Token (record { 0 = a.next_token })) _ left
        ∙ ap (λ t. map element_of (parts_in a.node.0 a.next_node t next)) same
token_comes_from a (branch kind below next) has at pn pt left counted none some =
    absurd (none (omega arith) (ap (λ node. node.first) (node_of-at a.tree.now a.node.0 a.next_node a.next_token kind below next at)))

pub token_comes : (a : Inside) → IsStep a → (a.next_node < a.past_node → (node_of a.tree.now a.next_node).first ≡ a.next_token → ⊥) → a.next_token < a.past_token → Comes a (stepped a a.next_node (a.next_token + 1)) (element.Token (record { 0 = a.next_token }))
token_comes a step none some = token_comes_from a step.siblings step.has step.at step.past_node step.past_token step.left step.counted none some

none_left_from : (a : Inside) (forest : Forest) → At a.tree.now a.node.0 a.next_node a.next_token forest → a.past_node ≡ a.next_node + node_count forest → a.past_token ≡ a.next_token + token_count forest → elements_left a ≡ map element_of (parts_in a.node.0 a.next_node a.next_token forest) → (a.next_node < a.past_node → (node_of a.tree.now a.next_node).first ≡ a.next_token → ⊥) → a.past_token ≤ a.next_token → elements_left a ≡ []
none_left_from a nothing at pn pt left none over = left
none_left_from a (leaf token next) at pn pt left none over = absurd (omega arith)
none_left_from a (branch kind below next) at pn pt left none over =
    absurd (none (omega arith) (ap (λ node. node.first) (node_of-at a.tree.now a.node.0 a.next_node a.next_token kind below next at)))

pub none_left : (a : Inside) → IsStep a → (a.next_node < a.past_node → (node_of a.tree.now a.next_node).first ≡ a.next_token → ⊥) → a.past_token ≤ a.next_token → elements_left a ≡ []
none_left a step none over = none_left_from a step.siblings step.at step.past_node step.past_token step.left none over

-- the cursor before the first child
pub first_step : (a : Inside) → HasNode a.tree.now a.node.0 → a.count ≡ 0 → a.next_node ≡ 1 + a.node.0 → a.next_token ≡ (node_of a.tree.now a.node.0).first → a.past_node ≡ a.node.0 + size_of (node_of a.tree.now a.node.0) → a.past_token ≡ (node_of a.tree.now a.node.0).first + token_count (node_of a.tree.now a.node.0).children → IsStep a
first_step a has none m t pm pt =
    let about = known a.tree.now a.node.0 has in
    let node = node_of a.tree.now a.node.0 in
    let whole : elements_left a ≡ map element_of (parts_in a.node.0 (1 + a.node.0) node.first node.children) =
    ap (λ count. drop count (elements_of node)) none
    ∙ ap (λ number. map element_of (parts_in number (1 + number) node.first node.children)) about.number in
    record {
      siblings = node.children;
      has = has;
      at = rw m (rw t about.children);
      past_node = omega arith;
      past_token = omega arith;
      left = rw m (rw t whole);
      counted = omega arith;
    }

-- Laws of the places in a tree.
use Rattle.std.proofs.Common.{◌≡◌, ℕ, get_or, ◌+◌, ◌-◌, ◌<◌, ◌≤◌, List, [], ◌∷◌, All, length, take, drop, map, refl, sym, ap, ◌∙◌, subst, inl, inr, arith}
use Rattle.std.proofs.lemmas.Bool.{cases_lt}
use Rattle.std.proofs.lemmas.List.{take_at, length-map, get_or-drop, get_or-append_right}
use Rattle.std.proofs.lemmas.Option.{unwrap_or-slice_get, slice_get_within, slice_get-map, get_or_from_slice_get}
use Rattle.std.proofs.lemmas.List.Elements.{All-nil, All-cons, All-head, All-tail, All-weaker, All-map, All-get_or}
use Rattle.std.specs.Prelude.{zero, suc, option_map, slice_get, Some}
use Rattle.ssr_syntax_kinds.specs.declared.kinds.SyntaxKind.{SyntaxKind}
use Rattle.ssr_syntax_tree.specs.declared.number.Element.{Element}
use Rattle.ssr_syntax_tree.specs.Places.{Node, Part, token_part, node_part, nodes_in, parts_in, nodes_of, root_of, node_of, token_of, parts_of, elements_of, element_of, part_of, size_of, IsAbove, HasNode, HasToken, HasElement, depth_at}
use Rattle.ssr_syntax_tree.specs.Syntax.{Forest, nothing, leaf, branch, Syntax, token_count, node_count, tokens_in, tokens_of}
use Rattle.ssr_syntax_tree.specs.Private.Siblings.{At}
use Rattle.ssr_syntax_tree.proofs.Siblings.{at_top, at_leaf, at_below, at_next, node_of-at, depth_at-at, token_of-at, length-nodes_in, length-tokens_in}

-- a node among siblings or below them: where it stands, and that it and its tokens lie within theirs
record Found (syntax : Syntax) (m t : ℕ) (forest : Forest) (n : ℕ) : Type 0 where
  parent : ℕ
  token : ℕ
  kind : SyntaxKind
  below : Forest
  next : Forest
  at : At syntax parent n token (branch kind below next)
  starts : t ≤ token
  ends : token + token_count below ≤ t + token_count forest
  within : n + 1 + node_count below ≤ m + node_count forest

-- a place among siblings or below them is one among siblings that hold these
widened : (syntax : Syntax) (m t p u : ℕ) (inner outer : Forest) (n : ℕ) → u ≤ t → t + token_count inner ≤ u + token_count outer → m + node_count inner ≤ p + node_count outer → Found syntax m t inner n → Found syntax p u outer n
widened syntax m t p u inner outer n starts ends within place = record {
  parent = place.parent;
  token = place.token;
  kind = place.kind;
  below = place.below;
  next = place.next;
  at = place.at;
  starts = omega (arith, place.starts);
  ends = omega (arith, place.ends);
  within = omega (arith, place.within);
}

found_among : (syntax : Syntax) (parent m t : ℕ) (forest : Forest) → At syntax parent m t forest → (n : ℕ) → m ≤ n → n < m + node_count forest → Found syntax m t forest n
found_among syntax parent m t nothing a n low high = absurd (omega arith)
found_among syntax parent m t (leaf token next) a n low high =
    widened syntax m (1 + t) m t next (leaf token next) n (omega arith) (omega arith) (omega arith)
    (found_among syntax parent m (1 + t) next (at_leaf syntax parent m t token next a) n low high)
found_among syntax parent m t (branch kind below next) a n low high =
    elim (cases_lt m n) [
      | inl behind ↦
          elim (cases_lt n (1 + m + node_count below)) [
            | inl inside ↦
                widened syntax (1 + m) t m t below (branch kind below next) n (omega arith) (omega arith) (omega arith)
                (found_among syntax m (1 + m) t below (at_below syntax parent m t kind below next a) n (omega arith) inside)
            | inr outside ↦
                widened syntax (1 + m + node_count below) (t + token_count below) m t next (branch kind below next) n (omega arith) (omega arith) (omega arith)
                (found_among syntax parent (1 + m + node_count below) (t + token_count below) next (at_next syntax parent m t kind below next a) n outside (omega arith))
          ]
      | inr here ↦
          record {
            parent = parent;
            token = t;
            kind = kind;
            below = below;
            next = next;
            at = subst (λ n. At syntax parent n t (branch kind below next)) (let same : m ≡ n = omega arith in same) a;
            starts = omega arith;
            ends = omega arith;
            within = omega arith;
          }
    ]

-- a node other than the root stands among those below the root
standing : (syntax : Syntax) (n : ℕ) → HasNode syntax n → 0 < n → Found syntax 1 0 syntax.children n
standing syntax n h behind = found_among syntax 0 1 0 syntax.children (at_top syntax) n (omega arith) (omega arith)

node_of-found : (syntax : Syntax) (m t : ℕ) (forest : Forest) (n : ℕ) (place : Found syntax m t forest n) → node_of syntax n ≡ record { number = n; parent = place.parent; first = place.token; kind = place.kind; children = place.below }
node_of-found syntax m t forest n place = node_of-at syntax place.parent n place.token place.kind place.below place.next place.at

-- the node of a number has that number, and what is below it stands behind it
pub record IsKnown (syntax : Syntax) (n : ℕ) : Type 0 where
  pub number : (node_of syntax n).number ≡ n
  pub children : At syntax n (1 + n) (node_of syntax n).first (node_of syntax n).children

pub known : (syntax : Syntax) (n : ℕ) → HasNode syntax n → IsKnown syntax n
unfolding node_of
known syntax zero h = record { number = refl; children = at_top syntax }
known syntax (suc n) h =
    let place = standing syntax (suc n) h (omega arith) in
    let node = sym (node_of-found syntax 1 0 syntax.children (suc n) place) in
    record {
      number = ap (λ node. node.number) (sym node);
      children =
          subst (λ node. At syntax (suc n) (1 + suc n) node.first node.children) node
          (at_below syntax place.parent (suc n) place.token place.kind place.below place.next place.at);
    }

pub node_of-number : (syntax : Syntax) (n : ℕ) → HasNode syntax n → (node_of syntax n).number ≡ n
node_of-number syntax n h = (known syntax n h).number

-- the numbers below a node are those of nodes
pub below_fits : (syntax : Syntax) (n : ℕ) → HasNode syntax n → n + size_of (node_of syntax n) ≤ 1 + node_count syntax.children
below_fits syntax n h = let ends = (known syntax n h).children.nodes_end in omega arith

pub below_has : (syntax : Syntax) (n m : ℕ) → HasNode syntax n → IsAbove (node_of syntax n) m → HasNode syntax m
below_has syntax n m h above = omega (arith, below_fits syntax n h, node_of-number syntax n h, above.1)

pub tokens_fit : (syntax : Syntax) (n : ℕ) → HasNode syntax n → (node_of syntax n).first + token_count (node_of syntax n).children ≤ token_count syntax.children
tokens_fit syntax n h = let ends = (known syntax n h).children.tokens_end in omega arith

-- the parent of a node stands before it
pub parent_before : (syntax : Syntax) (n : ℕ) → HasNode syntax n → 0 < n → (node_of syntax n).parent < n
parent_before syntax n h behind =
    let place = standing syntax n h behind in
    rw (node_of-found syntax 1 0 syntax.children n place) place.at.behind_parent

-- the depths
pub depth_at-root : (syntax : Syntax) → depth_at syntax 0 ≡ 0
unfolding depth_at
depth_at-root syntax = refl

pub depth_at-parent : (syntax : Syntax) (n : ℕ) → HasNode syntax n → 0 < n → depth_at syntax n ≡ 1 + depth_at syntax (node_of syntax n).parent
depth_at-parent syntax n h behind =
    let place = standing syntax n h behind in
    rw (node_of-found syntax 1 0 syntax.children n place) (depth_at-at syntax place.parent n place.token place.kind place.below place.next place.at)

depth_at_le_up_to : (syntax : Syntax) (bound n : ℕ) → n ≤ bound → HasNode syntax n → depth_at syntax n ≤ n
depth_at_le_up_to syntax bound zero low h = omega (arith, depth_at-root syntax)
depth_at_le_up_to syntax zero (suc n) low h = absurd (omega arith)
depth_at_le_up_to syntax (suc bound) (suc n) low h =
    let parent = (node_of syntax (suc n)).parent in
    let before = parent_before syntax (suc n) h (omega arith) in
    omega (arith, depth_at-parent syntax (suc n) h (omega arith), depth_at_le_up_to syntax bound parent (omega arith) (omega arith))

-- a node below another one has its nodes and its tokens among those of the other one
pub record IsWithin (inner outer : Node) : Type 0 where
  pub nodes : inner.number + size_of inner ≤ outer.number + size_of outer
  pub starts : outer.first ≤ inner.first
  pub ends : inner.first + token_count inner.children ≤ outer.first + token_count outer.children

pub below_within : (syntax : Syntax) (n m : ℕ) → HasNode syntax n → IsAbove (node_of syntax n) m → IsWithin (node_of syntax m) (node_of syntax n)
below_within syntax n m h above =
    let about = known syntax n h in
    let number = about.number in
    let place = found_among syntax n (1 + n) (node_of syntax n).first (node_of syntax n).children about.children m (omega (arith, above.0)) (omega (arith, above.1)) in
    let starts = place.starts in
    let ends = place.ends in
    let within = place.within in
    rw (node_of-found syntax (1 + n) (node_of syntax n).first (node_of syntax n).children m place) (record { nodes = omega arith; starts = omega arith; ends = omega arith })

-- fewer nodes are below a node than below one above it
pub smaller : (syntax : Syntax) (n m : ℕ) → HasNode syntax n → IsAbove (node_of syntax n) m → size_of (node_of syntax m) < size_of (node_of syntax n)
smaller syntax n m h above =
    let within = (below_within syntax n m h above).nodes in
    omega (arith, node_of-number syntax n h, node_of-number syntax m (below_has syntax n m h above), above.0)

node_of-get_or : (syntax : Syntax) (n : ℕ) → node_of syntax n ≡ get_or (nodes_of syntax) n (root_of syntax)
unfolding node_of
node_of-get_or syntax n = unwrap_or-slice_get (nodes_of syntax) n (root_of syntax)

-- a node that comes after another one and isn't below it begins at or after its end
pub tokens_apart : (syntax : Syntax) (n m : ℕ) → HasNode syntax n → HasNode syntax m → n + size_of (node_of syntax n) ≤ m → (node_of syntax n).first + token_count (node_of syntax n).children ≤ (node_of syntax m).first
tokens_apart syntax n m h g behind =
    let node = node_of syntax n in
    let place = (known syntax n h).children in
    let ends = place.nodes_end in
    let front = nodes_in n (1 + n) node.first node.children in
    let count : length front ≡ node_count node.children = length-nodes_in n (1 + n) node.first node.children in
    let root = root_of syntax in
    let far = m - (1 + n) in
    let read : node_of syntax m ≡ get_or place.nodes_after (far - node_count node.children) root =
    node_of-get_or syntax m
    ∙ ap (λ k. get_or (nodes_of syntax) k root) (let same : m ≡ 1 + n + far = omega arith in same)
    ∙ sym (get_or-drop (1 + n) (nodes_of syntax) far root)
    ∙ ap (λ nodes. get_or nodes far root) place.nodes
    ∙ get_or-append_right front place.nodes_after (node_count node.children) far root count (omega arith) in
    rw read (All-get_or (λ later. node.first + token_count node.children ≤ later.first) place.nodes_after (far - node_count node.children) root (omega arith) place.later)

-- of two nodes the one with the greater number begins at the same token or later
pub firsts_grow : (syntax : Syntax) (n m : ℕ) → HasNode syntax n → HasNode syntax m → n < m → (node_of syntax n).first ≤ (node_of syntax m).first
firsts_grow syntax n m h g behind =
    let number = node_of-number syntax n h in
    elim (cases_lt m (n + size_of (node_of syntax n))) [
      | inl inside ↦ (below_within syntax n m h (omega arith, omega arith)).starts
      | inr apart ↦ omega (arith, tokens_apart syntax n m h g apart)
    ]

-- the tokens of a node
pub tokens_in-node : (syntax : Syntax) (n : ℕ) → HasNode syntax n → take (token_count (node_of syntax n).children) (drop (node_of syntax n).first (tokens_of syntax)) ≡ tokens_in (node_of syntax n).children
tokens_in-node syntax n h =
    let node = node_of syntax n in
    let place = (known syntax n h).children in
    ap (take (token_count node.children)) place.tokens ∙ take_at (tokens_in node.children) place.tokens_after (token_count node.children) (length-tokens_in node.children)

-- a child of a node is in the tree, and it is what the tree has under its number
abbrev pub IsChild : Syntax → ℕ → Part → Type 0
IsChild syntax n (token_part t token) = HasToken syntax t × (token_of syntax t ≡ token)
IsChild syntax n (node_part node) =
    HasNode syntax node.number × (node_of syntax node.number ≡ node) × (node.parent ≡ n) × IsAbove (node_of syntax n) node.number

parts_in-children : (syntax : Syntax) (parent m t : ℕ) (forest : Forest) → At syntax parent m t forest → All (IsChild syntax parent) (parts_in parent m t forest)
parts_in-children syntax parent m t nothing a = All-nil (IsChild syntax parent)
parts_in-children syntax parent m t (leaf token next) a =
    let ends = a.tokens_end in
    All-cons (IsChild syntax parent) _ _ (omega arith, token_of-at syntax parent m t token next a)
    (parts_in-children syntax parent m (1 + t) next (at_leaf syntax parent m t token next a))
parts_in-children syntax parent m t (branch kind below next) a =
    let ends = a.nodes_end in
    let before = a.behind_parent in
    let holds = a.in_parent in
    let number = node_of-number syntax parent (omega arith) in
    All-cons (IsChild syntax parent) _ _ (omega arith, node_of-at syntax parent m t kind below next a, refl, (omega arith, omega arith))
    (parts_in-children syntax parent (1 + m + node_count below) (t + token_count below) next (at_next syntax parent m t kind below next a))

pub children_known : (syntax : Syntax) (n : ℕ) → HasNode syntax n → All (IsChild syntax n) (parts_of (node_of syntax n))
children_known syntax n h =
    let about = known syntax n h in
    let node = node_of syntax n in
    subst (λ number. All (IsChild syntax n) (parts_in number (1 + number) node.first node.children)) (sym about.number)
    (parts_in-children syntax n (1 + n) node.first node.children about.children)

-- the elements of a node's children are of the tree, and they name those children
part_of-element_of : (syntax : Syntax) (n : ℕ) (part : Part) → IsChild syntax n part → part_of syntax (element_of part) ≡ part
part_of-element_of syntax n (token_part t token) child = ap (token_part t) child.1
part_of-element_of syntax n (node_part node) child = ap node_part child.1

has_element_of : (syntax : Syntax) (n : ℕ) (part : Part) → IsChild syntax n part → HasElement syntax (element_of part)
has_element_of syntax n (token_part t token) child = child.0
has_element_of syntax n (node_part node) child = child.0

map_part_of : (syntax : Syntax) (n : ℕ) (parts : List Part) → All (IsChild syntax n) parts → map (part_of syntax) (map element_of parts) ≡ parts
map_part_of syntax n [] h = refl
map_part_of syntax n (part ∷ rest) h =
    ap (λ part. part ∷ map (part_of syntax) (map element_of rest)) (part_of-element_of syntax n part (All-head (IsChild syntax n) part rest h))
    ∙ ap (λ rest. part ∷ rest) (map_part_of syntax n rest (All-tail (IsChild syntax n) part rest h))

pub parts_of-elements_of : (syntax : Syntax) (n : ℕ) → HasNode syntax n → map (part_of syntax) (elements_of (node_of syntax n)) ≡ parts_of (node_of syntax n)
parts_of-elements_of syntax n h = map_part_of syntax n (parts_of (node_of syntax n)) (children_known syntax n h)

pub elements_had : (syntax : Syntax) (n : ℕ) → HasNode syntax n → All (HasElement syntax) (elements_of (node_of syntax n))
elements_had syntax n h =
    All-map (HasElement syntax) element_of (parts_of (node_of syntax n))
    (All-weaker (IsChild syntax n) (λ part. HasElement syntax (element_of part)) (has_element_of syntax n) (parts_of (node_of syntax n)) (children_known syntax n h))

-- a node isn't deeper than its number
pub depth_at_le : (syntax : Syntax) (n : ℕ) → HasNode syntax n → depth_at syntax n ≤ n
depth_at_le syntax n h = depth_at_le_up_to syntax n n (omega arith) h

pub element_had : (syntax : Syntax) (n : ℕ) → HasNode syntax n → (i : ℕ) (element : Element) → slice_get (elements_of (node_of syntax n)) i ≡ Some element → HasElement syntax element
element_had syntax n h i element e =
    let elements = elements_of (node_of syntax n) in
    let within = slice_get_within elements i element e in
    subst (HasElement syntax) (get_or_from_slice_get elements i element element e) (All-get_or (HasElement syntax) elements i element within (elements_had syntax n h))

length-parts_in : (parent m t : ℕ) (forest : Forest) → length (parts_in parent m t forest) ≤ node_count forest + token_count forest
length-parts_in parent m t nothing = omega arith
length-parts_in parent m t (leaf token next) = omega (arith, length-parts_in parent m (1 + t) next)
length-parts_in parent m t (branch kind below next) = omega (arith, length-parts_in parent (1 + m + node_count below) (t + token_count below) next)

pub length-elements_of : (node : Node) → length (elements_of node) ≤ node_count node.children + token_count node.children
length-elements_of node = omega (arith, length-map (parts_of node) element_of, length-parts_in node.number (1 + node.number) node.first node.children)

pub root_size : (syntax : Syntax) (n : ℕ) → HasNode syntax n → n < (node_of syntax 0).number + size_of (node_of syntax 0)
unfolding node_of
root_size syntax n h = omega arith

-- where an element stands among those of the children, there is the part that it names
pub part_at : (syntax : Syntax) (n : ℕ) → HasNode syntax n → (i : ℕ) (element : Element) → slice_get (elements_of (node_of syntax n)) i ≡ Some element → slice_get (parts_of (node_of syntax n)) i ≡ Some (part_of syntax element)
part_at syntax n h i element e =
    ap (λ parts. slice_get parts i) (sym (parts_of-elements_of syntax n h))
    ∙ slice_get-map (part_of syntax) (elements_of (node_of syntax n)) i
    ∙ ap (option_map (part_of syntax)) e

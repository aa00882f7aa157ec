-- Nodes without trivia: those with one number, and the parts of nodes that are alike.
use Rattle.std.proofs.Common.{◌≡◌, ℕ, ◌+◌, cond, List, [], ◌∷◌, ◌++◌, get_or, map, refl, sym, ◌∙◌, ap}
use Rattle.std.specs.Prelude.{if◌then◌else◌}
use Rattle.std.proofs.Math.ListN.{get_or-map}
use Rattle.std.proofs.lemmas.Bool.{cond_both}
use Rattle.std.proofs.lemmas.List.{map-append}
use Rattle.std.proofs.lemmas.Option.{unwrap_or-slice_get}
use Rattle.ssr_syntax_kinds.specs.Kinds.{is_trivia}
use Rattle.ssr_syntax_tree.specs.Syntax.{Forest, nothing, leaf, branch, Syntax, node_count, token_count}
use Rattle.ssr_syntax_tree.specs.Places.{Node, Part, token_part, node_part, nodes_in, parts_in, root_of, nodes_of, node_of, parts_of}
use Rattle.ide_ssr_token_trees.specs.Elements.{is_trivia_part}
use Rattle.ide_ssr_matching.specs.Trivia.{stripped, stripped_below, stripped_tree}
use Rattle.ide_ssr_matching.proofs.Stripped.{either_below, node_count_below_left, stripped_below_again}

-- a node without trivia below it, and without the number of its first token, which trivia in front of it change
abbrev pub stripped_node : Node → Node
stripped_node node = record node { first = 0; children = stripped_below node.kind node.children }

abbrev pub stripped_part : Part → Part
stripped_part (token_part t token) = token_part 0 token
stripped_part (node_part node) = node_part (stripped_node node)

abbrev pub stripped_parts : List Part → List Part
stripped_parts [] = []
stripped_parts (part ∷ rest) = if is_trivia_part part then stripped_parts rest else stripped_part part ∷ stripped_parts rest

-- two nodes are the same but for trivia
abbrev pub AreAlike : Node → Node → Type 0
AreAlike a b = stripped_node a ≡ stripped_node b

pub kinds_alike : (a b : Node) → AreAlike a b → a.kind ≡ b.kind
kinds_alike a b alike = ap (λ (node : Node). node.kind) alike

pub numbers_alike : (a b : Node) → AreAlike a b → a.number ≡ b.number
numbers_alike a b alike = ap (λ (node : Node). node.number) alike

-- ** Parts.

parts_left : (parent m t u : ℕ) (siblings : Forest) → stripped_parts (parts_in parent m t (stripped siblings)) ≡ stripped_parts (parts_in parent m u siblings)
parts_left parent m t u nothing = refl
parts_left parent m t u (leaf token next) =
    cond_both (is_trivia token.kind) (stripped next) (leaf token (stripped next))
    (λ rest. stripped_parts (parts_in parent m t rest) ≡ stripped_parts (token_part u token ∷ parts_in parent m (1 + u) next))
    (λ is.
    parts_left parent m t (1 + u) next
    ∙ ap (λ b. cond b (stripped_parts (parts_in parent m (1 + u) next)) (token_part 0 token ∷ stripped_parts (parts_in parent m (1 + u) next))) (sym is))
    (λ _. ap (λ parts. cond (is_trivia token.kind) parts (token_part 0 token ∷ parts)) (parts_left parent m (1 + t) (1 + u) next))
parts_left parent m t u (branch kind below next) =
    let inner = stripped_below kind below in
    let behind = stripped_parts (parts_in parent (1 + m + node_count inner) (t + token_count inner) (stripped next)) in
    ap (λ rest. node_part (record { number = m; parent = parent; first = 0; kind = kind; children = rest }) ∷ behind)
    (stripped_below_again kind below)
    ∙ ap (λ parts. node_part (record { number = m; parent = parent; first = 0; kind = kind; children = inner }) ∷ parts)
    (ap (λ n. stripped_parts (parts_in parent (1 + m + n) (t + token_count inner) (stripped next))) (node_count_below_left kind below)
    ∙ parts_left parent (1 + m + node_count below) (t + token_count inner) (u + token_count below) next)

parts_stripped : (node : Node) → stripped_parts (parts_of (stripped_node node)) ≡ stripped_parts (parts_of node)
parts_stripped node =
    either_below (λ rest. stripped_parts (parts_in node.number (1 + node.number) 0 rest) ≡ stripped_parts (parts_of node)) node.kind node.children
    (sym (parts_left node.number (1 + node.number) 0 0 node.children) ∙ parts_left node.number (1 + node.number) 0 node.first node.children)
    (parts_left node.number (1 + node.number) 0 node.first node.children)

pub parts_alike : (a b : Node) → AreAlike a b → stripped_parts (parts_of a) ≡ stripped_parts (parts_of b)
parts_alike a b alike = sym (parts_stripped a) ∙ ap (λ (node : Node). stripped_parts (parts_of node)) alike ∙ parts_stripped b

-- ** Nodes of trees.

inner_left : (parent m t u : ℕ) (siblings : Forest)
    → map stripped_node (nodes_in parent m t (stripped siblings)) ≡ map stripped_node (nodes_in parent m u siblings)
inner_left parent m t u nothing = refl
inner_left parent m t u (leaf token next) =
    cond_both (is_trivia token.kind) (stripped next) (leaf token (stripped next))
    (λ rest. map stripped_node (nodes_in parent m t rest) ≡ map stripped_node (nodes_in parent m (1 + u) next))
    (λ _. inner_left parent m t (1 + u) next)
    (λ _. inner_left parent m (1 + t) (1 + u) next)
inner_left parent m t u (branch kind below next) =
    let inner = stripped_below kind below in
    let own = nodes_in m (1 + m) t inner in
    let others = nodes_in parent (1 + m + node_count inner) (t + token_count inner) (stripped next) in
    let here : map stripped_node own ≡ map stripped_node (nodes_in m (1 + m) u below) =
    either_below (λ rest. map stripped_node (nodes_in m (1 + m) t rest) ≡ map stripped_node (nodes_in m (1 + m) u below)) kind below
    (sym (inner_left m (1 + m) 0 t below) ∙ inner_left m (1 + m) 0 u below)
    (inner_left m (1 + m) t u below)
    in
    let behind : map stripped_node others ≡ map stripped_node (nodes_in parent (1 + m + node_count below) (u + token_count below) next) =
    ap (λ n. map stripped_node (nodes_in parent (1 + m + n) (t + token_count inner) (stripped next))) (node_count_below_left kind below)
    ∙ inner_left parent (1 + m + node_count below) (t + token_count inner) (u + token_count below) next
    in
    ap (λ rest. record { number = m; parent = parent; first = 0; kind = kind; children = rest } ∷ map stripped_node (own ++ others))
    (stripped_below_again kind below)
    ∙ ap (λ nodes. record { number = m; parent = parent; first = 0; kind = kind; children = inner } ∷ nodes)
    (map-append stripped_node own others
    ∙ ap (λ nodes. nodes ++ map stripped_node others) here
    ∙ ap (λ nodes. map stripped_node (nodes_in m (1 + m) u below) ++ nodes) behind
    ∙ sym (map-append stripped_node (nodes_in m (1 + m) u below) (nodes_in parent (1 + m + node_count below) (u + token_count below) next)))

root_stripped : (tree : Syntax) → AreAlike (root_of (stripped_tree tree)) (root_of tree)
root_stripped tree =
    ap (λ below. record { number = 0; parent = 0; first = 0; kind = tree.kind; children = below }) (stripped_below_again tree.kind tree.children)

nodes_stripped : (tree : Syntax) → map stripped_node (nodes_of (stripped_tree tree)) ≡ map stripped_node (nodes_of tree)
nodes_stripped tree =
    ap (λ (node : Node). node ∷ map stripped_node (nodes_in 0 1 0 (stripped_below tree.kind tree.children))) (root_stripped tree)
    ∙ ap (λ nodes. stripped_node (root_of tree) ∷ nodes)
    (either_below (λ rest. map stripped_node (nodes_in 0 1 0 rest) ≡ map stripped_node (nodes_in 0 1 0 tree.children)) tree.kind tree.children
    refl (inner_left 0 1 0 0 tree.children))

node_at : (tree : Syntax) (n : ℕ) → stripped_node (node_of tree n) ≡ get_or (map stripped_node (nodes_of tree)) n (stripped_node (root_of tree))
unfolding node_of
node_at tree n =
    ap (λ (node : Node). stripped_node node) (unwrap_or-slice_get (nodes_of tree) n (root_of tree)) ∙ sym (get_or-map stripped_node (nodes_of tree) n (root_of tree))

node_stripped : (tree : Syntax) (n : ℕ) → AreAlike (node_of (stripped_tree tree) n) (node_of tree n)
node_stripped tree n =
    node_at (stripped_tree tree) n
    ∙ ap (λ nodes. get_or nodes n (stripped_node (root_of (stripped_tree tree)))) (nodes_stripped tree)
    ∙ ap (get_or (map stripped_node (nodes_of tree)) n) (root_stripped tree)
    ∙ sym (node_at tree n)

-- nodes with one number, in two trees that are the same but for trivia
pub nodes_alike : (code other : Syntax) → stripped_tree code ≡ stripped_tree other → (n : ℕ) → AreAlike (node_of code n) (node_of other n)
nodes_alike code other same n =
    sym (node_stripped code n) ∙ ap (λ (tree : Syntax). stripped_node (node_of tree n)) same ∙ node_stripped other n

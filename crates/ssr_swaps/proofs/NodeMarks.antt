-- The marks of nodes, one after the other.
use Rattle.std.proofs.Common.{◌≡◌, ◌∙◌, ℕ, ◌+◌, ◌<◌, ◌≤◌, Bool, true, false, List, [], ◌∷◌, ◌++◌, get_or, length, map, take, refl, ap, sym, append_assoc, arith}
use Rattle.std.specs.Prelude.{flat_map, if◌then◌else◌}
use Rattle.std.proofs.lemmas.List.{flat_map_more, get_or-map, length-map, take_all, take_more, take_more_same}
use Rattle.std.proofs.lemmas.Grind.{flat_map-append}
use Rattle.ssr_syntax_kinds.specs.Kinds.{is_trivia}
use Rattle.ssr_syntax_tree.specs.Syntax.{Token, Forest, nothing, leaf, branch, Syntax, node_count, token_count}
use Rattle.ssr_syntax_tree.specs.Places.{Node, HasNode, node_of, nodes_in, nodes_of, part_of, parts_in, root_of}
use Rattle.ssr_syntax_tree.specs.declared.number.Element.{Element}
use Rattle.ssr_syntax_tree.proofs.Shared.{node_is, length-nodes_of}
use Rattle.ssr_swaps.specs.declared.marks.Mark.{Mark}
use Rattle.ssr_swaps.specs.Private.Marks.{shown, PlainMark, node_mark, token_mark, child_mark, siblings, below, marks_of, node_marks, part_marks}

leaf_marks : (token : Token) (next : Forest) (rest : List PlainMark) (trivia : Bool) → rest ≡ siblings next
    → (if trivia then [] else token_mark token ∷ []) ++ rest ≡ (if trivia then siblings next else token_mark token ∷ siblings next)
leaf_marks token next rest true same = same
leaf_marks token next rest false same = ap (λ marks. token_mark token ∷ marks) same

-- the marks of the children of a node are those of siblings
pub parts_marks : (parent m t : ℕ) (forest : Forest) → flat_map part_marks (parts_in parent m t forest) ≡ siblings forest
parts_marks parent m t nothing = refl
parts_marks parent m t (leaf token next) = leaf_marks token next _ (is_trivia token.kind) (parts_marks parent m (1 + t) next)
parts_marks parent m t (branch kind children next) =
    ap (λ marks. child_mark ∷ marks) (parts_marks parent (1 + m + node_count children) (t + token_count children) next)

pub nodes_marks : (parent m t : ℕ) (forest : Forest) → flat_map node_marks (nodes_in parent m t forest) ≡ below forest
nodes_marks parent m t nothing = refl
nodes_marks parent m t (leaf token next) = nodes_marks parent m (1 + t) next
nodes_marks parent m t (branch kind children next) =
    ap (λ marks. (node_mark kind ∷ marks) ++ flat_map node_marks (nodes_in m (1 + m) t children ++ nodes_in parent (1 + m + node_count children) (t + token_count children) next))
    (parts_marks m (1 + m) t children)
    ∙ ap (λ marks. node_mark kind ∷ (siblings children ++ marks))
    (flat_map-append node_marks (nodes_in m (1 + m) t children) (nodes_in parent (1 + m + node_count children) (t + token_count children) next)
    ∙ ap (λ marks. marks ++ flat_map node_marks (nodes_in parent (1 + m + node_count children) (t + token_count children) next)) (nodes_marks m (1 + m) t children)
    ∙ ap (λ marks. below children ++ marks) (nodes_marks parent (1 + m + node_count children) (t + token_count children) next))

-- the marks of all nodes are those of the tree
pub tree_marks : (tree : Syntax) → flat_map node_marks (nodes_of tree) ≡ marks_of tree
tree_marks tree =
    ap (λ marks. (node_mark tree.kind ∷ marks) ++ flat_map node_marks (nodes_in 0 1 0 tree.children)) (parts_marks 0 1 0 tree.children)
    ∙ ap (λ marks. node_mark tree.kind ∷ (siblings tree.children ++ marks)) (nodes_marks 0 1 0 tree.children)

-- those of one node more
pub node_more : (tree : Syntax) (front : List PlainMark) (n : ℕ) → HasNode tree n
    → (front ++ flat_map node_marks (take n (nodes_of tree))) ++ node_marks (node_of tree n) ≡ front ++ flat_map node_marks (take (n + 1) (nodes_of tree))
node_more tree front n has =
    append_assoc front (flat_map node_marks (take n (nodes_of tree))) (node_marks (node_of tree n))
    ∙ ap (λ marks. front ++ marks)
    (flat_map_more node_marks [] (take n (nodes_of tree)) (node_of tree n)
    ∙ ap (flat_map node_marks) (ap (λ (y : Node). take n (nodes_of tree) ++ y ∷ []) (node_is tree n has)
    ∙ sym (take_more (nodes_of tree) n (root_of tree) (omega (arith, length-nodes_of tree)))))

-- those of all
pub nodes_all : (tree : Syntax) (n : ℕ) → 1 + node_count tree.children ≤ n → flat_map node_marks (take n (nodes_of tree)) ≡ marks_of tree
nodes_all tree n all = ap (flat_map node_marks) (take_all n (nodes_of tree) (omega (arith, length-nodes_of tree))) ∙ tree_marks tree

-- the marks of one child more
pub child_more : (tree : Syntax) (child : Element) (left behind : List Element) (front new whole : List PlainMark)
    → left ≡ child ∷ behind → new ≡ front ++ part_marks (part_of tree child)
    → front ++ flat_map part_marks (map (part_of tree) left) ≡ whole → new ++ flat_map part_marks (map (part_of tree) behind) ≡ whole
child_more tree child left behind front new whole steps added so_far =
    ap (λ marks. marks ++ flat_map part_marks (map (part_of tree) behind)) added
    ∙ append_assoc front (part_marks (part_of tree child)) (flat_map part_marks (map (part_of tree) behind))
    ∙ ap (λ (es : List Element). front ++ flat_map part_marks (map (part_of tree) es)) (sym steps) ∙ so_far

-- marks that show the same, up to one more
pub same_more : (xs ys : List Mark) (n : ℕ) (x y : Mark) → n < length xs → n < length ys
    → shown (get_or xs n x) ≡ shown (get_or ys n y) → take n (map shown xs) ≡ take n (map shown ys)
    → take (n + 1) (map shown xs) ≡ take (n + 1) (map shown ys)
same_more xs ys n x y h k same so =
    take_more_same (map shown xs) (map shown ys) n (shown (get_or xs n x)) (omega (arith, length-map xs shown)) (omega (arith, length-map ys shown)) so
    (get_or-map shown xs n x (shown (get_or xs n x)) h ∙ same ∙ sym (get_or-map shown ys n y (shown (get_or xs n x)) k))

-- of marks that show the same each two do
pub same_there : (xs ys : List Mark) (n : ℕ) (x y : Mark) → n < length xs → n < length ys
    → map shown xs ≡ map shown ys → shown (get_or xs n x) ≡ shown (get_or ys n y)
same_there xs ys n x y h k same =
    sym (get_or-map shown xs n x (shown x) h) ∙ ap (λ (marks : List PlainMark). get_or marks n (shown x)) same
    ∙ get_or-map shown ys n y (shown x) k

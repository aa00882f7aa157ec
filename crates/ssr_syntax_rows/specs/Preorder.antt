-- The rows of a tree's nodes in preorder, from the parser's rows, in which a node stands behind those below it.
use Rattle.std.specs.Prelude.{ℕ, ◌+◌, max, Bool, false, List, [], ◌∷◌, ◌++◌, length, true, ⊤, ◌≡◌, Result, Ok, Err}
use Rattle.ssr_syntax_tree.specs.declared.rows.NodeRow.{NodeRow}
use Rattle.ssr_syntax_forms.specs.declared.fault.Fault.{Fault}
use Rattle.ssr_syntax_forms.specs.declared.fault.Fault.TheVariants as faults
use Rattle.ssr_syntax_kinds.specs.declared.kinds.SyntaxKind.{SyntaxKind}
use Rattle.ssr_syntax_forms.specs.Places.{Place, behind_token}
use Rattle.ssr_syntax_forms.specs.Trees.{Forest, done, leaf, tree, nodes}
use Rattle.ssr_syntax_rows.specs.Leaves.{leaves, after, first_in, past_in}

-- ** The rows of a forest, in front of which the parser stands: `parent` stands above it and begins at the token `low`, and
-- m is the number of its first node. A node without tokens stands where the token before it ends, but not before its parent.
abbrev pub node_rows : ℕ → ℕ → ℕ → Place → Forest → List NodeRow
node_rows parent low m p done = []
node_rows parent low m p (leaf kind tokens next) = node_rows parent low m (behind_token (length tokens) p) next
node_rows parent low m p (tree kind kids next) =
    let us = leaves kids in
    let first = max (first_in us p) low in
    record { kind = kind; parent = parent; first = first; past = max (past_in us p) low; below = nodes kids }
    ∷ (node_rows m first (1 + m) p kids ++ node_rows parent low (1 + m + nodes kids) (after us p) next)

-- the rows of a whole tree of so many tokens
abbrev pub tree_rows : Place → ℕ → SyntaxKind → Forest → List NodeRow
tree_rows p tokens kind kids =
    record { kind = kind; parent = 0; first = 0; past = tokens; below = nodes kids } ∷ node_rows 0 0 1 p kids

-- how many nodes a tree may have
abbrev pub most_nodes : ℕ
most_nodes = 0xffff_f000

-- the fault of a tree that is too deep; want of memory says nothing
abbrev pub IsDepthFault : Bool → Fault → Type 0
IsDepthFault deep faults.TooDeep = deep ≡ true
IsDepthFault deep faults.Memory = ⊤
IsDepthFault deep faults.NoTree = ⊥

-- the answer is what P says, but `TooDeep` just where the tree is too deep
abbrev pub OkUnlessDeep : {R : Type 0} → Bool → (R → Type 0) → Result R Fault → Type 0
OkUnlessDeep deep P (Ok r) = (deep ≡ false) × P r
OkUnlessDeep deep P (Err e) = IsDepthFault deep e

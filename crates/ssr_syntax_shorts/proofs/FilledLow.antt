-- How deep the tree of a long text is at most.
use Rattle.std.proofs.Common.{◌≡◌, ℕ, suc, ◌+◌, ◌-◌, ◌<◌, ◌≤◌, Bool, true, false, if◌then◌else◌, List, [], ◌∷◌, ◌++◌, length, get_or, Some, None, refl, sym, subst, ◌∙◌, arith}
use Rattle.std.specs.Prelude.{⊤, Option}
use Rattle.std.proofs.lemmas.List.{length-append}
use Rattle.ssr_syntax_kinds.specs.Kinds.{is_trivia, same_kind}
use Rattle.ssr_syntax_kinds.specs.declared.kinds.SyntaxKind.{SyntaxKind}
use Rattle.ssr_syntax_kinds.specs.declared.kinds.SyntaxKind.TheVariants as k
use Rattle.ssr_syntax_kinds.specs.declared.reach.Reach.{Reach}
use Rattle.ssr_syntax_tree.specs.Places.{Node, HasNode, depth_at, depths_in, nodes_in, nodes_of, root_of}
use Rattle.ssr_syntax_tree.specs.Syntax as plain
use Rattle.ssr_syntax_tree.specs.Syntax.{Syntax, depth_of, node_count, token_count}
use Rattle.ssr_syntax_tree.proofs.Shared.{length-nodes_in}
use Rattle.ssr_syntax_forms.specs.Trees.{Forest, leaf, tree, height, spell}
use Rattle.ssr_syntax_places.specs.Core.{Hole, Holes}
use Rattle.ssr_syntax_places.specs.LongTexts.{IsReadFilled, filled_height, path_height}
use Rattle.ssr_syntax_places.specs.PlainCore.{forest_in, tokens_like}
use Rattle.ssr_syntax_places.specs.Standing.{node}
use Rattle.ssr_syntax_places.proofs.Shared.{long_depth}
use Rattle.ssr_syntax_shorts.specs.Told.{IsFilledWithin, depth_below}
use Rattle.ssr_syntax_shorts.proofs.Steps.{node_at}

-- ** Nodes with their depths.

-- `depth` is that of what stands for paths
abbrev AreWithin : ℕ → ℕ → List ℕ → List Node → Type 0
AreWithin depth most [] nodes = ⊤
AreWithin depth most (n ∷ ns) [] = ⊤
AreWithin depth most (n ∷ ns) (node ∷ nodes) = (n + depth_below depth node.kind ≤ most) × AreWithin depth most ns nodes

within_from : (depth most : ℕ) (ns : List ℕ) (nodes : List Node) (d : Node)
    → ((i : ℕ) → i < length nodes → get_or ns i 0 + depth_below depth (get_or nodes i d).kind ≤ most) → AreWithin depth most ns nodes
within_from depth most [] nodes d h = tt
within_from depth most (n ∷ ns) [] d h = tt
within_from depth most (n ∷ ns) (x ∷ nodes) d h =
    (h 0 (omega arith), within_from depth most ns nodes d (λ i less. h (suc i) (omega (arith, less))))

within_parts : (depth most : ℕ) (ns ms : List ℕ) (xs ys : List Node) → length ns ≡ length xs → AreWithin depth most (ns ++ ms) (xs ++ ys)
    → AreWithin depth most ns xs × AreWithin depth most ms ys
within_parts depth most [] ms [] ys e h = (tt, h)
within_parts depth most [] ms (x ∷ xs) ys e h = absurd (omega (arith, e))
within_parts depth most (n ∷ ns) ms [] ys e h = absurd (omega (arith, e))
within_parts depth most (n ∷ ns) ms (x ∷ xs) ys e h =
    let rest = within_parts depth most ns ms xs ys (omega (arith, e)) h.1 in
    ((h.0, rest.0), rest.1)

depths_count : (at : ℕ) (z : plain.Forest) → length (depths_in at z) ≡ node_count z
depths_count at plain.nothing = refl
depths_count at (plain.leaf token x) = depths_count at x
depths_count at (plain.branch kind below x) =
    omega (arith, length-append (depths_in (1 + at) below) (depths_in at x), depths_count (1 + at) below, depths_count at x)

-- those below a node, and those behind it
branch_within : (depth most at parent m t : ℕ) (kind : SyntaxKind) (below x : plain.Forest)
    → AreWithin depth most (depths_in at (plain.branch kind below x)) (nodes_in parent m t (plain.branch kind below x))
    → (at + depth_below depth kind ≤ most)
    × AreWithin depth most (depths_in (1 + at) below) (nodes_in m (1 + m) t below)
    × AreWithin depth most (depths_in at x) (nodes_in parent (1 + m + node_count below) (t + token_count below) x)
branch_within depth most at parent m t kind below x h =
    let rest = within_parts depth most (depths_in (1 + at) below) (depths_in at x) (nodes_in m (1 + m) t below)
    (nodes_in parent (1 + m + node_count below) (t + token_count below) x)
    (depths_count (1 + at) below ∙ sym (length-nodes_in m (1 + m) t below)) h.1 in
    (h.0, rest.0, rest.1)

-- ** Siblings, without white space and comments.

low_leaf : (b : Bool) (n : ℕ) (kind : SyntaxKind) (z : Forest) → height z ≤ n → height (if b then z else leaf kind (tokens_like kind) z) ≤ n
low_leaf true n kind z low = low
low_leaf false n kind z low = low

-- how deep they are as they are
forest_low : (depth most at parent m t : ℕ) (z : plain.Forest) → AreWithin depth most (depths_in at z) (nodes_in parent m t z)
    → height (forest_in z) ≤ (1 + most) - at
forest_low depth most at parent m t plain.nothing h = omega arith
forest_low depth most at parent m t (plain.leaf token x) h =
    low_leaf (is_trivia token.kind) ((1 + most) - at) token.kind (forest_in x) (forest_low depth most at parent m (1 + t) x h)
forest_low depth most at parent m t (plain.branch kind below x) h =
    let parts = branch_within depth most at parent m t kind below x h in
    let inner = forest_low depth most (1 + at) m (1 + m) t below parts.1 in
    let rest = forest_low depth most at parent (1 + m + node_count below) (t + token_count below) x parts.2 in
    omega (arith, inner, rest, parts.0)

abbrev AreLowHoles : ℕ → Holes → Type 0
AreLowHoles depth holes = (number : ℕ) (hole : Hole) → holes number ≡ Some hole → height hole.tree ≤ 1 + depth

path_low : (depth n : ℕ) (o : Option Hole) (kids : Forest) → ((hole : Hole) → o ≡ Some hole → height hole.tree ≤ 1 + depth) → 1 + depth ≤ n
    → 1 + height kids ≤ n → path_height o kids ≤ n
path_low depth n None kids low room kept = kept
path_low depth n (Some hole) kids low room kept = omega (arith, low hole refl, room)

node_low : (path : Bool) (depth most at filled own replaced : ℕ) → at + (if path then depth else 0) ≤ most → own ≤ most - at → filled ≤ most - at
    → (1 + depth ≤ (1 + most) - at → 1 + own ≤ (1 + most) - at → replaced ≤ (1 + most) - at)
    → (if path then replaced else 1 + filled) ≤ (1 + most) - at
node_low true depth most at filled own replaced room low within path = path (omega (arith, room)) (omega (arith, room, low))
node_low false depth most at filled own replaced room low within path = omega (arith, room, within)

filled_leaf : (b : Bool) (holes : Holes) (n place : ℕ) (kind : SyntaxKind) (z : Forest) → ((at : ℕ) → filled_height holes at z ≤ n)
    → filled_height holes place (if b then z else leaf kind (tokens_like kind) z) ≤ n
filled_leaf true holes n place kind z low = low place
filled_leaf false holes n place kind z low = low (place + length (tokens_like kind))

-- how deep they are filled
filled_low : (holes : Holes) (depth most at parent m t place : ℕ) (z : plain.Forest) → AreLowHoles depth holes
    → AreWithin depth most (depths_in at z) (nodes_in parent m t z) → filled_height holes place (forest_in z) ≤ (1 + most) - at
filled_low holes depth most at parent m t place plain.nothing low h = omega arith
filled_low holes depth most at parent m t place (plain.leaf token x) low h =
    filled_leaf (is_trivia token.kind) holes ((1 + most) - at) place token.kind (forest_in x)
    (λ n. filled_low holes depth most at parent m (1 + t) n x low h)
filled_low holes depth most at parent m t place (plain.branch kind below x) low h =
    let parts = branch_within depth most at parent m t kind below x h in
    let z : Forest = forest_in below in
    let kept : height z ≤ (1 + most) - (1 + at) = forest_low depth most (1 + at) m (1 + m) t below parts.1 in
    let inner : filled_height holes place z ≤ (1 + most) - (1 + at) = filled_low holes depth most (1 + at) m (1 + m) t place below low parts.1 in
    let rest = filled_low holes depth most at parent (1 + m + node_count below) (t + token_count below) (place + length (spell z)) x low parts.2 in
    let here = node_low (same_kind kind k.PATH_EXPR) depth most at (filled_height holes place z) (height z) (path_height (holes place) z) parts.0
    (omega (arith, kept)) (omega (arith, inner)) (path_low depth ((1 + most) - at) (holes place) z (low place)) in
    omega (arith, here, rest)

-- ** The tree.

nodes_within : (depth most : ℕ) (syntax : Syntax) → IsFilledWithin depth syntax most
    → AreWithin depth most (0 ∷ depths_in 1 syntax.children) (nodes_of syntax)
unfolding depth_at
nodes_within depth most syntax within =
    let count = length-nodes_in 0 1 0 syntax.children in
    within_from depth most (0 ∷ depths_in 1 syntax.children) (nodes_of syntax) (root_of syntax)
    (λ i less.
    let has : HasNode syntax i = omega (arith, less, count) in
    subst (λ (node : Node). get_or (0 ∷ depths_in 1 syntax.children) i 0 + depth_below depth node.kind ≤ most) (sym (node_at syntax i (root_of syntax) has))
    (within i has))

pub long_low : (reach : Reach) (holes : Holes) (depth most : ℕ) (name text : List ℕ) (short : Syntax) (read : IsReadFilled reach holes name text short)
    → AreLowHoles depth holes → IsFilledWithin depth short most → depth_of read.long ≤ most
long_low reach holes depth most name text short read low within =
    let z : Forest = forest_in short.children in
    let all = nodes_within depth most short within in
    let deep : 1 + depth_of read.long ≡ filled_height holes 0 (node short.kind z) = long_depth reach holes name text short read in
    let kept : height z ≤ (1 + most) - 1 = forest_low depth most 1 0 1 0 short.children all.1 in
    let inner : filled_height holes 0 z ≤ (1 + most) - 1 = filled_low holes depth most 1 0 1 0 0 short.children low all.1 in
    let here = node_low (same_kind short.kind k.PATH_EXPR) depth most 0 (filled_height holes 0 z) (height z) (path_height (holes 0) z) all.0
    (omega (arith, kept)) (omega (arith, inner)) (path_low depth ((1 + most) - 0) (holes 0) z (low 0)) in
    omega (arith, deep, here)

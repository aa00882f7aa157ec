-- How deep the tree of a long text is.
use Rattle.std.proofs.Common.{◌≡◌, ℕ, ◌+◌, Bool, true, false, if◌then◌else◌, List, length, Some, None, refl, sym, ap, ◌∙◌, arith}
use Rattle.std.specs.Prelude.{Option, max}
use Rattle.ssr_syntax_kinds.specs.Kinds.{same_kind}
use Rattle.ssr_syntax_kinds.specs.declared.kinds.SyntaxKind.{SyntaxKind}
use Rattle.ssr_syntax_kinds.specs.declared.kinds.SyntaxKind.TheVariants as k
use Rattle.ssr_syntax_kinds.specs.declared.reach.Reach.{Reach}
use Rattle.ssr_syntax_tree.specs.Syntax.{Syntax, depth_of}
use Rattle.ssr_syntax_forms.specs.Trees.{Forest, done, leaf, tree, join, height, spell}
use Rattle.ssr_syntax_rows.specs.Solid.{pieces}
use Rattle.ssr_syntax_rows.proofs.Shared.{whole-depth}
use Rattle.ssr_syntax.specs.Reading.{trimmed}
use Rattle.ssr_syntax_places.specs.Core.{Hole, Holes, path_filled, filled, node_filled}
use Rattle.ssr_syntax_places.specs.LongTexts.{IsReadFilled, path_height, filled_height}
use Rattle.ssr_syntax_places.specs.PlainCore.{tokens_like, forest_in}
use Rattle.ssr_syntax_places.specs.Standing.{node}
use Rattle.ssr_syntax_places.proofs.LikeForests.{like, Known, leaf_length, spell_length}
use Rattle.ssr_syntax_places.proofs.PlainCore.{known_tree, children_like}

height_join : (x y : Forest) → height (join x y) ≡ max (height x) (height y)
height_join done y = omega arith
height_join (leaf kind us x) y = height_join x y
height_join (tree kind kids x) y = let rest = height_join x y in omega (arith, rest)

path_same : (o : Option Hole) (kids : Forest) → height (path_filled o kids) ≡ path_height o kids
path_same None kids = omega arith
path_same (Some hole) kids = refl

either_same : (b : Bool) (x y : Forest) (n m : ℕ) → height x ≡ n → height y ≡ m → height (if b then x else y) ≡ (if b then n else m)
either_same true x y n m e d = e
either_same false x y n m e d = d

height_filled : (holes : Holes) (at : ℕ) (z : Forest) → height (filled holes at z) ≡ filled_height holes at z
height_filled holes at done = refl
height_filled holes at (leaf kind us x) = height_filled holes (at + length us) x
height_filled holes at (tree kind kids x) =
    let below = height_filled holes at kids in
    let own : height (node kind (filled holes at kids)) ≡ 1 + filled_height holes at kids = omega (arith, below) in
    height_join (node_filled holes at kind kids) (filled holes (at + length (spell kids)) x)
    ∙ ap (λ n. max n (height (filled holes (at + length (spell kids)) x)))
    (either_same (same_kind kind k.PATH_EXPR) (path_filled (holes at) kids) (node kind (filled holes at kids)) (path_height (holes at) kids)
    (1 + filled_height holes at kids) (path_same (holes at) kids) own)
    ∙ ap (λ n. max (if same_kind kind k.PATH_EXPR then path_height (holes at) kids else 1 + filled_height holes at kids) n)
    (height_filled holes (at + length (spell kids)) x)

-- ** By the kinds of the tokens.

like_height : (z : Forest) → height (like z) ≡ height z
like_height done = refl
like_height (leaf kind us x) = like_height x
like_height (tree kind kids x) = let below = like_height kids in let rest = like_height x in omega (arith, below, rest)

like_path : (o : Option Hole) (kids : Forest) → path_height o (like kids) ≡ path_height o kids
like_path None kids = ap (λ n. 1 + n) (like_height kids)
like_path (Some hole) kids = refl

like_filled : (holes : Holes) (at place : ℕ) (z : Forest) → place ≡ at → Known z → filled_height holes place (like z) ≡ filled_height holes at z
like_filled holes at place done e known = refl
like_filled holes at place (leaf kind us x) e known =
    let same = leaf_length kind us known.0 in
    like_filled holes (at + length us) (place + length (tokens_like kind)) x (omega (arith, e, same)) known.2
like_filled holes at place (tree kind kids x) e known =
    let same = spell_length kids known.0.below in
    let rest : ℕ = filled_height holes (place + length (spell (like kids))) (like x) in
    ap (λ n. max (if same_kind kind k.PATH_EXPR then path_height (holes n) (like kids) else 1 + filled_height holes place (like kids)) rest) e
    ∙ ap (λ n. max (if same_kind kind k.PATH_EXPR then n else 1 + filled_height holes place (like kids)) rest) (like_path (holes at) kids)
    ∙ ap (λ n. max (if same_kind kind k.PATH_EXPR then path_height (holes at) kids else 1 + n) rest) (like_filled holes at place kids e known.0.below)
    ∙ ap (λ n. max (if same_kind kind k.PATH_EXPR then path_height (holes at) kids else 1 + filled_height holes at kids) n)
    (like_filled holes (at + length (spell kids)) (place + length (spell (like kids))) x (omega (arith, e, same)) known.1)

-- ** The tree.

one_node : (kind : SyntaxKind) (z : Forest) → height (node kind z) ≡ 1 + height z
one_node kind z = omega arith

pub long_depth : (reach : Reach) (holes : Holes) (name text : List ℕ) (short : Syntax) (read : IsReadFilled reach holes name text short)
    → 1 + depth_of read.long ≡ filled_height holes 0 (node short.kind (forest_in short.children))
long_depth reach holes name text short read =
    let whole = read.whole in
    let known = known_tree reach name read.raw read.kind read.kids read.template in
    let long : depth_of read.long ≡ height whole.kids = ap depth_of whole.whole ∙ whole-depth whole.kind whole.kids (pieces (trimmed text) whole.raw) in
    let filled_is : height (filled holes 0 (node read.kind read.kids)) ≡ 1 + height whole.kids = ap height whole.tree ∙ one_node whole.kind whole.kids in
    let children : forest_in short.children ≡ like read.kids =
    ap (λ s. forest_in s.children) read.short_is ∙ children_like (trimmed name) read.raw read.kind read.kids known.marks_are known.spells in
    let kind : short.kind ≡ read.kind = ap (λ s. s.kind) read.short_is in
    ap (λ n. 1 + n) long
    ∙ sym filled_is
    ∙ height_filled holes 0 (node read.kind read.kids)
    ∙ sym (like_filled holes 0 0 (node read.kind read.kids) refl (known.known, tt))
    ∙ ap (λ z. filled_height holes 0 (node read.kind z)) (sym children)
    ∙ ap (λ a. filled_height holes 0 (node a (forest_in short.children))) (sym kind)

-- Whether a change stands by the nearest block around it.
use Rattle.std.specs.Prelude.{ℕ, ◌&&◌, Bool, false, if◌then◌else◌, List, [], ◌∷◌, Option, Some, None, length, slice_get}
use Rattle.std.specs.Option.{option_map_or, option_or}
use Rattle.ssr_syntax_kinds.specs.declared.kinds.SyntaxKind.TheVariants as k
use Rattle.ssr_syntax_kinds.specs.declared.reach.Reach.{Reach}
use Rattle.ssr_syntax_kinds.specs.Kinds.{same_kind}
use Rattle.ssr_syntax_tree.specs.Syntax.{Syntax, source_of}
use Rattle.ssr_syntax_tree.specs.Places.{Node, end_of, nodes_of, start_of}
use Rattle.ssr_base_trees.specs.Changes.{Change}
use Rattle.ssr_base_trees.specs.Origins.{Span}
use Rattle.ssr_base_trees.specs.Workspace.{Workspace}
use Rattle.ssr_standing.specs.Expansions.{first_stand, is_inside, stands_in}
use Rattle.ssr_standing.specs.Fitted.{if_fitted}
use Rattle.ssr_standing.specs.Parts.{stands_between}
use Rattle.ssr_standing.specs.Ranges.{old_place}
use Rattle.ssr_standing.specs.Standing.{stands_of}
use Rattle.ssr_standing.specs.declared.fitted.Judge.{Judge}
use Rattle.ssr_standing.specs.declared.fitted.Judge.TheVariants as judges

-- ** The nearest block.

-- the bytes of a node
abbrev pub span_in : Syntax → Node → Span
span_in tree node = record { start = start_of tree node; end = end_of tree node }

-- a block that has the bytes of a place, and more
abbrev pub is_around : Syntax → Span → Node → Bool
is_around tree place node = same_kind node.kind k.BLOCK_EXPR && is_inside (span_in tree node) place

-- the last of some nodes that is such a block; another one, where none is
abbrev pub last_around : Syntax → Span → Option Node → List Node → Option Node
last_around tree place found [] = found
last_around tree place found (node ∷ nodes) = last_around tree place (if is_around tree place node then Some node else found) nodes

-- The nearest block around a place: of blocks that stand in one another the innermost comes last.
unfoldable pub nearest_block : Syntax → Span → Option Node
nearest_block tree place = last_around tree place None (nodes_of tree)

-- ** Whether a change stands by it.

-- the text of a block is an expression, without a change made and with it, and groups as before
abbrev pub stands_in_block : Reach → Syntax → Change → Node → Bool
stands_in_block reach file c block = stands_between reach [] (source_of file) (start_of file block) (end_of file block) (c ∷ [])

-- the same of the nearest block around the change; of the file, where no block is around it
abbrev pub text_stands_near : Reach → Syntax → Change → Bool
text_stands_near reach file c =
    option_map_or (stands_in_block reach file c) (nearest_block file (old_place c)) (stands_of reach file (c ∷ []))

-- The text around a change groups as it did, as far as its nearest block goes, and so does what each call of a macro in the file
-- stands for.
abbrev pub stands_near : Workspace → ℕ → Change → Bool
stands_near w n c =
    option_map_or (λ file. text_stands_near w.reach file c && first_stand w n file (c ∷ []) (length w.expansions)) (slice_get w.files n) false

-- ** By what a change is judged.

-- a change stands by its nearest block, or alone in the whole file
abbrev pub stands_by : Workspace → ℕ → Judge → Change → Bool
stands_by w n judges.Block c = stands_near w n c
stands_by w n judges.File c = stands_in w n (c ∷ [])

-- A change as its nearest block tells; where it doesn't stand by that, as it stands alone in the whole file. None where it stands by
-- neither.
abbrev pub settled : (Judge → Change → Bool) → Change → Option Change
settled stands_by c = option_or (if_fitted (stands_by judges.Block) c) (if_fitted (stands_by judges.File) c)

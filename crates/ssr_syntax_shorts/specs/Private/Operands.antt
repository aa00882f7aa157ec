-- What has to be core below a node, if the node is to be.
use Rattle.std.specs.Prelude.{◌≡◌, ℕ, ◌+◌, ◌<◌, All, Bool, true, false, ◌&&◌, ◌||◌, List, [], ◌∷◌, length}
use Rattle.ssr_syntax_kinds.specs.Kinds.{same_kind}
use Rattle.ssr_syntax_kinds.specs.declared.kinds.SyntaxKind.{SyntaxKind}
use Rattle.ssr_syntax_kinds.specs.declared.kinds.SyntaxKind.TheVariants as k
use Rattle.ssr_syntax_tree.specs.Syntax.{Syntax}
use Rattle.ssr_syntax_tree.specs.Places.{HasNode, node_of, size_of}
use Rattle.ssr_syntax_tree.specs.declared.number.TokenNo.{TokenNo}
use Rattle.ssr_syntax_forms.specs.Trees.{Forest, leaf}
use Rattle.ssr_syntax_places.specs.Core.{Holes, arguments, core, is_held, is_leaf}
use Rattle.ssr_syntax_places.specs.PlainCore.{forest_in}
use Rattle.ssr_syntax_shorts.specs.declared.operands.Asked.{Asked}
use Rattle.ssr_syntax_shorts.specs.declared.operands.Need.{Need}
use Rattle.ssr_syntax_shorts.specs.declared.operands.Need.TheVariants as need
use Rattle.ssr_syntax_shorts.specs.declared.operands.Operands.{Operands}
use Rattle.ssr_syntax_shorts.specs.declared.operands.Operands.TheVariants as operands
use Rattle.ssr_syntax_shorts.specs.Names.{place_of, AreNames}

-- a list of arguments: a parenthesis that opens, and what stands behind it
abbrev pub are_arguments : Holes → ℕ → SyntaxKind → Forest → Bool
are_arguments holes at kind (leaf a us args) =
    same_kind kind k.ARG_LIST && (is_leaf holes at (k.L_PAREN ∷ []) a us && arguments holes (at + length us) args)
are_arguments holes at kind _ = false

-- a node meets what is asked of it
abbrev pub meets : Holes → Need → ℕ → SyntaxKind → Forest → Bool
meets holes (need.Operand callable most) at kind kids = core holes callable most at kind kids
meets holes need.Inside at kind kids = is_held holes at kind kids || core holes false 12 at kind kids
meets holes need.Arguments at kind kids = are_arguments holes at kind kids

abbrev pub MeetsBy : Syntax → Holes → Need → ℕ → Type 0
MeetsBy syntax holes need n =
    meets holes need (place_of syntax (node_of syntax n).first) (node_of syntax n).kind (forest_in (node_of syntax n).children) ≡ true

abbrev pub MeetsAlways : Syntax → List TokenNo → Need → ℕ → Type 0
MeetsAlways syntax names need n = (holes : Holes) → AreNames syntax names holes → MeetsBy syntax holes need n

abbrev pub asked_in : Operands → List Asked
asked_in operands.Alone = []
asked_in (operands.One a) = a ∷ []
asked_in (operands.Two a b) = a ∷ b ∷ []

-- A node meets what is asked of it if these nodes below it do.
pub record AreEnough (syntax : Syntax) (names : List TokenNo) (need : Need) (n : ℕ) (asked : List Asked) : Type 0 where
  pub has : All (λ (a : Asked). HasNode syntax a.node.0) asked
  pub below : All (λ (a : Asked). size_of (node_of syntax a.node.0) < size_of (node_of syntax n)) asked
  pub meets : (holes : Holes) → AreNames syntax names holes → All (λ (a : Asked). MeetsBy syntax holes a.need a.node.0) asked → MeetsBy syntax holes need n

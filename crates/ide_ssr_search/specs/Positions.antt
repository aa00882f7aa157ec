-- The node of a position in a file, which tells what a search there is made for.
use Rattle.std.specs.Prelude.{ℕ, ◌≡◌, ◌+◌, ◌-◌, ◌<◌, ◌≤◌, ◌⊎◌, Option, Some, None, Contains}
use Rattle.ssr_syntax_kinds.specs.declared.kinds.SyntaxKind.TheVariants as k
use Rattle.ssr_syntax_tree.specs.declared.number.Element.TheVariants as element
use Rattle.ssr_syntax_tree.specs.Syntax.{Syntax}
use Rattle.ssr_syntax_tree.specs.Places.{HasNode, HasToken, HoldsByte, node_of, size_of, offset_of, elements_of}

-- ** The token of a position.

-- a token has a byte in front of an offset, and ends there
abbrev pub EndsAt : Syntax → ℕ → ℕ → Type 0
EndsAt syntax offset t = HasToken syntax t × (0 < offset) × HoldsByte syntax t (offset - 1) × (offset_of syntax (1 + t) ≡ offset)

-- a token has the byte at an offset
abbrev pub HoldsAt : Syntax → ℕ → ℕ → Type 0
HoldsAt syntax offset t = HasToken syntax t × HoldsByte syntax t offset

-- the token that ends at a position, else the one that holds or begins at it
abbrev pub IsNear : Syntax → ℕ → Option ℕ → Type 0
IsNear syntax offset (Some t) = EndsAt syntax offset t ⊎ (((u : ℕ) → ¬ EndsAt syntax offset u) × HoldsAt syntax offset t)
IsNear syntax offset None = ((u : ℕ) → ¬ EndsAt syntax offset u) × ((u : ℕ) → ¬ HoldsAt syntax offset u)

-- ** Its node.

-- the parent of a token, if there is one, else the root
abbrev pub IsFirst : Syntax → Option ℕ → ℕ → Type 0
IsFirst syntax (Some t) n = HasNode syntax n × Contains (elements_of (node_of syntax n)) (element.Token (record { 0 = t }))
IsFirst syntax None n = n ≡ 0

-- behind a node and what is below it comes another one that has the same parent
abbrev pub IsNextSibling : Syntax → ℕ → ℕ → Type 0
IsNextSibling syntax n m =
    (m ≡ n + size_of (node_of syntax n)) × HasNode syntax m × ((node_of syntax m).parent ≡ (node_of syntax n).parent)

-- a LET_STMT or an IDENT_PAT is left for its next sibling, a NAME for its parent
abbrev pub IsLeftFor : Syntax → ℕ → ℕ → Type 0
IsLeftFor syntax n m =
    ((((node_of syntax n).kind ≡ k.LET_STMT) ⊎ ((node_of syntax n).kind ≡ k.IDENT_PAT)) × IsNextSibling syntax n m)
    ⊎ (((node_of syntax n).kind ≡ k.NAME) × (0 < n) × (m ≡ (node_of syntax n).parent))

-- from a node to the last one, where each LET_STMT, IDENT_PAT and NAME is left, as long as there is a node that it is left for
pub data Leads (syntax : Syntax) : ℕ → ℕ → Type 0 where
  stays : (n : ℕ) → ((m : ℕ) → ¬ IsLeftFor syntax n m) → Leads syntax n n
  goes_on : (n m last : ℕ) → IsLeftFor syntax n m → Leads syntax m last → Leads syntax n last

-- an EXPR_STMT is left for its first child node, which has the next number
abbrev pub IsStatementAround : Syntax → ℕ → Type 0
IsStatementAround syntax n = ((node_of syntax n).kind ≡ k.EXPR_STMT) × (1 < size_of (node_of syntax n))

abbrev pub Settles : Syntax → ℕ → ℕ → Type 0
Settles syntax n m = (IsStatementAround syntax n × (m ≡ 1 + n)) ⊎ (¬ IsStatementAround syntax n × (m ≡ n))

-- the node of a position
pub record IsNodeAt (syntax : Syntax) (offset n : ℕ) : Type 0 where
  pub token : Option ℕ
  pub near : IsNear syntax offset token
  pub first : ℕ
  pub is_first : IsFirst syntax token first
  pub last : ℕ
  pub leads : Leads syntax first last
  pub settles : Settles syntax last n

-- ** The function around it.

-- a function is the node or stands above it: below a node are the numbers after its own
abbrev pub IsFunctionAround : Syntax → ℕ → ℕ → Type 0
IsFunctionAround syntax n f =
    HasNode syntax f × ((node_of syntax f).kind ≡ k.FN) × (f ≤ n) × (n < f + size_of (node_of syntax f))

-- the innermost function around a node, if there is one: of nodes above one another it has the last number
abbrev pub IsInnermost : Syntax → ℕ → Option ℕ → Type 0
IsInnermost syntax n None = (f : ℕ) → ¬ IsFunctionAround syntax n f
IsInnermost syntax n (Some f) = IsFunctionAround syntax n f × ((g : ℕ) → IsFunctionAround syntax n g → g ≤ f)

-- What is true of each workspace that is built.
use Rattle.std.specs.Prelude.{ℕ, ◌+◌, ◌≡◌, ◌≢◌, ◌≤◌, ⊤, List, [], ◌∷◌, length, All, AllPairs, IfSome}
use Rattle.std.specs.List.{AllPass}
use Rattle.std.specs.Option.{IsSomeAnd}
use Rattle.std.specs.Str.{IsUtf8}
use Rattle.ssr_syntax_kinds.specs.declared.kinds.SyntaxKind.TheVariants as k
use Rattle.ssr_syntax_tree.specs.Syntax.{Syntax, token_count, tokens_of, depth_of, most_deep}
use Rattle.ssr_syntax_tree.specs.Places.{node_of, HasNode}
use Rattle.ssr_base_trees.specs.declared.ids.NodeId.{NodeId}
use Rattle.ssr_base_trees.specs.Workspace.{Expanded, Workspace, PlacedTree, trees, with_number, nesting, text_at_top}
use Rattle.ssr_base_trees.specs.Origins.{fits_origin}

-- how many files and expansions there may be
abbrev pub most_trees : ℕ
most_trees = 65536

-- how many calls there may be from an expansion up to its file
abbrev pub most_nested : ℕ
most_nested = 32

-- whether there is such a node in one of the trees
abbrev pub IsNodeOf : List PlacedTree → NodeId → Type 0
IsNodeOf trees x = IsSomeAnd (with_number trees x.tree) (λ p. HasNode p.syntax x.node.0)

abbrev pub IsMacroCall : List PlacedTree → NodeId → Type 0
IsMacroCall trees x = IsSomeAnd (with_number trees x.tree) (λ p. (node_of p.syntax x.node.0).kind ≡ k.MACRO_CALL)

-- of trees, the latest first: the call of each is a node of one of those behind it, which are the earlier ones
abbrev pub CallsAreEarlier : List PlacedTree → Type 0
CallsAreEarlier [] = ⊤
CallsAreEarlier (p ∷ earlier) = IfSome p.call (IsNodeOf earlier) × CallsAreEarlier earlier

-- each token of an expansion has a place for its origin, which is none, or has a byte and lies between characters of the file
-- at the top
pub record HasOrigins (trees : List PlacedTree) (e : Expanded) : Type 0 where
  pub counted : length e.origins ≡ token_count e.syntax.children
  pub fitting : AllPass (fits_origin (text_at_top trees e.call.tree)) e.origins

-- each token is a text, so it begins and ends between characters
abbrev pub HasTexts : Syntax → Type 0
HasTexts tree = All (λ token. IsUtf8 token.text) (tokens_of tree)

pub record IsBuilt (w : Workspace) : Type 0 where
  pub few : length w.files + length w.expansions ≤ most_trees
  pub grown : CallsAreEarlier (trees w)
  pub calls : All (λ e. IsMacroCall (trees w) e.call) w.expansions
  -- no two expansions have one call
  pub once : AllPairs (λ a b. a.call ≢ b.call) w.expansions
  pub nested : (t : ℕ) → nesting (trees w) t ≤ most_nested
  pub origins : All (HasOrigins (trees w)) w.expansions
  pub shallow : All (λ p. depth_of p.syntax ≤ most_deep) (trees w)
  pub texts : All HasTexts w.files

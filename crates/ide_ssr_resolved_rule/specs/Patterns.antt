-- Which placeholders a pattern has for a match to bind: each once.
use Rattle.std.specs.Prelude.{ℕ, ◌≡◌, All, List, [], ◌∷◌, ◌++◌, length, if◌then◌else◌, Option, Some, None}
use Rattle.std.specs.List.{cons_option, filter_map, range_with_len}
use Rattle.std.specs.Option.{option_and_then}
use Rattle.ssr_syntax_kinds.specs.declared.kinds.SyntaxKind.{SyntaxKind}
use Rattle.ssr_syntax_kinds.specs.declared.kinds.SyntaxKind.TheVariants as k
use Rattle.ssr_syntax_kinds.specs.Kinds.{same_kind}
use Rattle.ssr_syntax_tree.specs.Places.{node_of}
use Rattle.ssr_syntax_tree.specs.Syntax.{Token, Forest, nothing, leaf, branch, Syntax, tokens_in, tokens_of}
use Rattle.ide_ssr_resolved_rule.specs.StandIns.{name_at}
use Rattle.ide_ssr_resolved_rule.specs.Names.{AreNew}
use Rattle.ide_ssr_resolved_rule.specs.declared.used_paths.UsedPath.{UsedPath}
use Rattle.ide_ssr_resolved_rule.specs.Paths.{path_arguments}
use Rattle.ide_ssr_resolved_rule.specs.Placeholders.{only_token}

-- the placeholders among tokens, in order: the places of their names
abbrev pub placeholders_among : List (List ℕ) → List Token → List ℕ
placeholders_among names tokens = filter_map (name_at names) tokens

-- the placeholder that a node is, or else those below the node
abbrev pub or_below : Option ℕ → List ℕ → List ℕ
or_below (Some i) below = i ∷ []
or_below None below = below

-- the placeholders below a node of this kind: in a token tree the tokens that are some, in a `macro_rules` item, in which an
-- identifier stands beside other children too, those children, and else the nodes among the children and below them
abbrev pub of_kind : SyntaxKind → List ℕ → List ℕ → List ℕ → List ℕ
of_kind kind tokens children nodes = if same_kind kind k.TOKEN_TREE then tokens else if same_kind kind k.MACRO_RULES then children else nodes

abbrev mutual
  -- the placeholders among the nodes that are siblings and below them, from the left; what stands below one is that one itself
  pub placeholders_in : List (List ℕ) → Forest → List ℕ
  placeholders_in names nothing = []
  placeholders_in names (leaf token next) = placeholders_in names next
  placeholders_in names (branch kind below next) =
      or_below (option_and_then (name_at names) (only_token below))
      (of_kind kind (placeholders_among names (tokens_in below)) (placeholders_mixed names below) (placeholders_in names below))
      ++ placeholders_in names next

  -- the placeholders among siblings and below them, from the left, where tokens among the siblings count as well
  pub placeholders_mixed : List (List ℕ) → Forest → List ℕ
  placeholders_mixed names nothing = []
  placeholders_mixed names (leaf token next) = cons_option (name_at names token) (placeholders_mixed names next)
  placeholders_mixed names (branch kind below next) =
      or_below (option_and_then (name_at names) (only_token below))
      (of_kind kind (placeholders_among names (tokens_in below)) (placeholders_mixed names below) (placeholders_in names below))
      ++ placeholders_mixed names next

abbrev pub placeholders_below : List (List ℕ) → SyntaxKind → Forest → List ℕ
placeholders_below names kind below =
    of_kind kind (placeholders_among names (tokens_in below)) (placeholders_mixed names below) (placeholders_in names below)

abbrev pub placeholders_of : List (List ℕ) → Syntax → List ℕ
placeholders_of names tree = placeholders_in names (branch tree.kind tree.children nothing)

-- A pattern has each placeholder once, as a token and for a match to bind, in the order of their names, and no two have one
-- name.
pub record HasEachOnce (names : List (List ℕ)) (pattern : Syntax) : Type 0 where
  pub each : placeholders_among names (tokens_of pattern) ≡ range_with_len 0 (length names)
  pub bound : placeholders_of names pattern ≡ range_with_len 0 (length names)
  pub different : AreNew [] names

-- what placeholders a path has stand in its arguments
abbrev pub HasThemInArguments : List (List ℕ) → Forest → Type 0
HasThemInArguments names path = placeholders_in names path ≡ placeholders_in names (path_arguments path)

-- what placeholders each used path of a pattern has stand in its arguments
abbrev pub AreInArguments : List (List ℕ) → Syntax → List UsedPath → Type 0
AreInArguments names pattern paths = All (λ path. HasThemInArguments names (node_of pattern path.node.0).children) paths

-- The call that each expansion is that of, and the tokens that are its arguments.
use Rattle.std.specs.Prelude.{ℕ, ◌≡◌, ◌+◌, ◌-◌, not, List, ◌++◌, length, map, take, filter, Some, slice_get, slice_range, string_bytes}
use Rattle.std.specs.List.{AllZip, range_with_len}
use Rattle.std.specs.Option.{IsSomeAnd}
use Rattle.ssr_syntax_kinds.specs.Kinds.{is_trivia}
use Rattle.ssr_syntax_kinds.specs.declared.kinds.SyntaxKind.TheVariants as k
use Rattle.ssr_syntax_kinds.specs.declared.range.TextRange.{TextRange}
use Rattle.ssr_syntax_tree.specs.Syntax.{Syntax, token_count, source_of}
use Rattle.ssr_syntax_tree.specs.Places.{Node, node_of, token_of, parts_of, offset_of, start_of, end_of, HasNode}
use Rattle.ssr_syntax.specs.Expansions.{expansion_text}
use Rattle.ssr_syntax.specs.declared.expansions.ExpToken.{ExpToken}
use Rattle.ide_ssr_resolved_rule.specs.Paths.{first_of_kind}
use Rattle.ssr_base.specs.declared.building.Expansion.{Expansion}
use Rattle.ssr_macro_arguments.specs.declared.arguments.ArgumentToken.{ArgumentToken}
use Rattle.ssr_macro_arguments.specs.declared.expanding.ReadExpansion.{ReadExpansion}
use Rattle.ssr_macro_arguments.specs.declared.macros.Form.{Form}
use Rattle.ssr_macro_arguments.specs.Arguments.{piece_of}
use Rattle.ssr_macro_arguments.specs.Forms.{searched, expansion_of}

-- a tree in which calls stand: that of a file, or the one that tokens are read as that were handed in
pub data Searched : Type 0 where
  file : Syntax → Searched
  expanded : List ExpToken → Syntax → Searched

abbrev pub tree_of : Searched → Syntax
tree_of (file tree) = tree
tree_of (expanded tokens tree) = tree

-- ** The tokens of arguments.

-- the tokens between a node's first and its last one, white space and comments aside
abbrev pub solid_between : Syntax → Node → List ℕ
solid_between tree node =
    filter (λ t. not (is_trivia (token_of tree t).kind)) (range_with_len (1 + node.first) (token_count node.children - 2))

-- the range of a token
pub record IsRangeOfToken (tree : Syntax) (t : ℕ) (range : TextRange) : Type 0 where
  pub start : range.start ≡ offset_of tree t
  pub end : range.end ≡ offset_of tree (1 + t)

-- a token among those that were handed in, of whose texts its own begins at this byte
pub record IsHandedIn (tokens : List ExpToken) (start : ℕ) (token : ExpToken) : Type 0 where
  pub place : ℕ
  pub there : IsSomeAnd (slice_get tokens place) (λ own. piece_of own ≡ piece_of token)
  pub begins : length (expansion_text (take place tokens)) ≡ start

-- A token of a file's tree comes from where it stands. One of other trees comes from where the token does that was handed in.
abbrev pub ComesFrom : Searched → ℕ → ExpToken → Type 0
ComesFrom (file tree) t token = IsSomeAnd token.origin (IsRangeOfToken tree t)
ComesFrom (expanded tokens tree) t token = IsHandedIn tokens (offset_of tree t) token

-- a token of a tree as a token of arguments
pub record IsArgumentAt (searched : Searched) (t : ℕ) (argument : ArgumentToken) : Type 0 where
  pub kind : argument.kind ≡ (token_of (tree_of searched) t).kind
  pub text : slice_range (source_of (tree_of searched)) (offset_of (tree_of searched) t) (offset_of (tree_of searched) (1 + t)) ≡ string_bytes argument.token.text
  pub origin : ComesFrom searched t argument.token

-- all tokens between the brackets, in order
abbrev pub AreArgumentsOf : Searched → Node → List ArgumentToken → Type 0
AreArgumentsOf searched brackets arguments = AllZip (IsArgumentAt searched) (solid_between (tree_of searched) brackets) arguments

-- ** The calls.

-- a macro call with this range, and its brackets
pub record IsCallAt (tree : Syntax) (range : TextRange) (brackets : Node) : Type 0 where
  pub node : ℕ
  pub has : HasNode tree node
  pub call : (node_of tree node).kind ≡ k.MACRO_CALL
  pub start : range.start ≡ start_of tree (node_of tree node)
  pub end : range.end ≡ end_of tree (node_of tree node)
  pub with_brackets : first_of_kind k.TOKEN_TREE (parts_of (node_of tree node)) ≡ Some brackets

-- the expansion of a call in a tree: what the arguments are read as that stand between the call's brackets
pub record IsOfCallIn (place : Searched) (x : Expansion) : Type 0 where
  pub brackets : Node
  pub call : IsCallAt (tree_of place) x.call.1 brackets
  pub arguments : List ArgumentToken
  pub all : AreArgumentsOf place brackets arguments
  pub form : Form
  pub tokens : map piece_of x.tokens.items ≡ expansion_of form (searched form arguments)

abbrev pub its_tree : ReadExpansion → Searched
its_tree one = expanded one.expansion.tokens.items one.tree

-- the trees of files, and behind them those of expansions
abbrev pub trees_of : List Syntax → List ReadExpansion → List Searched
trees_of files made = map file files ++ map its_tree made

-- an expansion of a call in the tree that it names
abbrev pub IsOfItsCall : List Searched → ReadExpansion → Type 0
IsOfItsCall trees one = IsSomeAnd (slice_get trees one.expansion.call.0) (λ place. IsOfCallIn place one.expansion)

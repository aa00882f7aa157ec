-- Where paths can stand, and how their arguments begin: what the grammar keeps of each tree, and a search by usages rests on.
use Rattle.std.specs.Prelude.{◌≡◌, Bool, true, false, not, ◌&&◌, ◌||◌, ⊤}
use Rattle.ssr_syntax_kinds.specs.Kinds.{same_kind, is_ident}
use Rattle.ssr_syntax_kinds.specs.declared.kinds.SyntaxKind.{SyntaxKind}
use Rattle.ssr_syntax_kinds.specs.declared.kinds.SyntaxKind.TheVariants as k
use Rattle.ssr_syntax_tree.specs.Syntax.{Forest, nothing, leaf, branch, Syntax}

-- a node of this kind holds arguments of a path's segment, or the return type behind them
abbrev pub is_arguments : SyntaxKind → Bool
is_arguments k.GENERIC_ARG_LIST = true
is_arguments k.PARENTHESIZED_ARG_LIST = true
is_arguments k.RET_TYPE = true
is_arguments _ = false

-- whether each node among siblings is a token tree
abbrev pub are_token_trees : Forest → Bool
are_token_trees nothing = true
are_token_trees (leaf token next) = are_token_trees next
are_token_trees (branch kind below next) = same_kind kind k.TOKEN_TREE && are_token_trees next

-- whether siblings begin with a token that is no identifier
abbrev pub begin_with_sign : Forest → Bool
begin_with_sign nothing = false
begin_with_sign (leaf token next) = not (is_ident token.kind)
begin_with_sign (branch kind below next) = false

-- A token tree has no nodes but token trees, so no path stands in one. Arguments begin with a token that is no identifier.
abbrev pub is_clear : SyntaxKind → Forest → Bool
is_clear kind below =
    (not (same_kind kind k.TOKEN_TREE) || are_token_trees below) && (not (is_arguments kind) || begin_with_sign below)

-- of all nodes among siblings and below them
abbrev pub HaveClearPaths : Forest → Type 0
HaveClearPaths nothing = ⊤
HaveClearPaths (leaf token next) = HaveClearPaths next
HaveClearPaths (branch kind below next) = (is_clear kind below ≡ true) × HaveClearPaths below × HaveClearPaths next

-- of all nodes of a tree
abbrev pub HasClearPaths : Syntax → Type 0
HasClearPaths syntax = (is_clear syntax.kind syntax.children ≡ true) × HaveClearPaths syntax.children

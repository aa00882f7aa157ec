-- The comments of the code that a match keeps: what is written behind its replacement.
use Rattle.std.specs.Prelude.{ℕ, ◌+◌, Bool, true, false, not, ◌&&◌, if◌then◌else◌, nat_le, nat_lt, eqb, List, ◌++◌, map, filter, flat_map, codes}
use Rattle.std.specs.List.{list_any, range_with_len, starts_with}
use Rattle.ssr_syntax_kinds.specs.declared.kinds.SyntaxKind.{SyntaxKind}
use Rattle.ssr_syntax_kinds.specs.declared.kinds.SyntaxKind.TheVariants as k
use Rattle.ssr_syntax_tree.specs.declared.number.TokenNo.{TokenNo}
use Rattle.ssr_syntax_tree.specs.Syntax.{Syntax, token_count}
use Rattle.ssr_syntax_tree.specs.Places.{Node, node_of, token_of}
use Rattle.ssr_base_trees.specs.declared.ids.TokenRun.{TokenRun}
use Rattle.ide_ssr_bindings.specs.Apart.{tokens_held}
use Rattle.ide_ssr_bindings.specs.declared.bindings.Binding.{Binding}

unfoldable pub is_comment : SyntaxKind → Bool
is_comment k.COMMENT = true
is_comment _ = false

-- the tokens below a node, in order
abbrev pub tokens_below : Node → List TokenNo
tokens_below node = map (λ t. record { 0 = t }) (range_with_len node.first (token_count node.children))

-- whether a token is one of these
abbrev pub is_among : TokenRun → TokenNo → Bool
is_among run token = nat_le run.first token.0 && nat_lt token.0 (run.first + run.count)

-- whether a placeholder holds a token
abbrev pub is_bound : Syntax → List Binding → TokenNo → Bool
is_bound code bindings token = list_any (λ binding. is_among (tokens_held code binding.held) token) bindings

abbrev pub is_kept_comment : Syntax → List Binding → TokenNo → Bool
is_kept_comment code bindings token = is_comment (token_of code token.0).kind && not (is_bound code bindings token)

-- all comments below a match's node that none of its placeholders holds
unfoldable pub kept_comments : Syntax → ℕ → List Binding → List TokenNo
kept_comments code node bindings = filter (is_kept_comment code bindings) (tokens_below (node_of code node))

-- a comment that goes to the end of its line is followed by a line break
abbrev pub comment_text : List ℕ → List ℕ
comment_text text = if starts_with eqb text (codes "//") then text ++ codes "\n" else text

abbrev pub comments_text : Syntax → List TokenNo → List ℕ
comments_text code comments = flat_map (λ token. comment_text (token_of code token.0).text) comments

-- Where the comments stand that a match keeps.
use Rattle.std.specs.Prelude.{ℕ, ◌+◌, List, [], map, slice_get}
use Rattle.std.specs.Option.{option_map_or}
use Rattle.ssr_syntax_tree.specs.declared.number.TokenNo.{TokenNo}
use Rattle.ssr_syntax_tree.specs.Syntax.{Syntax}
use Rattle.ssr_syntax_tree.specs.Places.{offset_of}
use Rattle.ssr_base_trees.specs.Workspace.{Workspace, FileSpan}
use Rattle.ide_ssr_bindings.specs.Found.{FoundMatch}
use Rattle.ide_ssr_rewriting.specs.Comments.{kept_comments}

-- the bytes of a token in its file
abbrev pub token_span : ℕ → Syntax → TokenNo → FileSpan
token_span file syntax token = record { file = file; span = record { start = offset_of syntax token.0; end = offset_of syntax (1 + token.0) } }

-- where the comments stand that a match keeps. What a macro call stands for has none
abbrev pub comment_spans : Workspace → FoundMatch → List FileSpan
comment_spans w m =
    option_map_or (λ syntax. map (token_span m.node.tree syntax) (kept_comments syntax m.node.node.0 m.bindings)) (slice_get w.files m.node.tree) []

use Rattle.std.proofs.Common.{◌≡◌, ◌++◌, take, string_bytes}
use Rattle.ide_ssr_rewriting.specs.Comments.{comments_text}
use Rattle.ide_ssr_rewriting.proofs.comments.push_comments.Given as goal

abbrev pub invariant-loop-comment : goal.invariant-loop-comment
invariant-loop-comment l = string_bytes l.text ≡ string_bytes l.fn.text ++ comments_text l.tree (take l.comment-index l.comments)

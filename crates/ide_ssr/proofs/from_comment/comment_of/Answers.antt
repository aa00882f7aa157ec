use Rattle.std.proofs.Common.{inl, sym, subst}
use Rattle.std.specs.Prelude.{IfNone}
use Rattle.ide_ssr_search.proofs.Shared.{file_there}
use Rattle.ide_ssr.specs.FromComment.{LacksComment}
use Rattle.ide_ssr.proofs.from_comment.comment_of.Goals as goal

pub returns-in_err-tree-clause-none : goal.returns-in_err-tree-clause-none
returns-in_err-tree-clause-none c =
    subst (λ found. IfNone found (LacksComment c.args.workspace.now c.args.position)) (sym c.from_residual.ensures)
    (inl (λ has. file_there c.args.workspace.now c.args.position.file_id.0 c.in_err-tree.ensures has))

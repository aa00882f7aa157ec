use Rattle.std.proofs.Common.{sym, ap, ◌∙◌, arith}
use Rattle.ssr_syntax_kinds.specs.declared.kinds.SyntaxKind.TheVariants as k
use Rattle.ssr_syntax_kinds.specs.Kinds.{same_kind}
use Rattle.ide_ssr_resolving.specs.Keys.{begins_with_colons}
use Rattle.ide_ssr_resolving.proofs.Tokens.{colons_at, between_none, nat_lt-false}
use Rattle.ide_ssr_resolving.proofs.keys.begins_with_colons.Goals as goal

pub returns-then-piece : goal.returns-then-piece
returns-then-piece c =
    c.is.ensures.same ∙ ap (λ kind. same_kind kind k.COLON2) c.token_kind.ensures
    ∙ sym (colons_at c.args.tree.now c.args.piece.first c.args.piece.past (omega arith) (omega arith))

pub returns-else-piece : goal.returns-else-piece
returns-else-piece c =
    nat_lt-false c.args.piece.first c.args.piece.past (omega arith)
    ∙ sym (ap begins_with_colons (between_none c.args.tree.now c.args.piece.first c.args.piece.past (omega arith)))

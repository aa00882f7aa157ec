use Rattle.std.proofs.Common.{sym, ap, ◌∙◌}
use Rattle.ssr_syntax_kinds.specs.declared.kinds.SyntaxKind.TheVariants as k
use Rattle.ssr_syntax_kinds.specs.Kinds.{same_kind}
use Rattle.ide_ssr_search.proofs.Arguments.{token_tree_is}
use Rattle.ide_ssr_search.proofs.permitted.token_tree.Goals as goal

pub returns-then-is : goal.returns-then-is
returns-then-is c =
    token_tree_is c.args.tree.now c.args.child c.in-Node.node c.requires c.in-Node.is
    (ap (λ kind. same_kind kind k.TOKEN_TREE) (sym c.kind.ensures) ∙ sym c.is.ensures.same ∙ c.if-is.true)

use Rattle.ssr_syntax_kinds.specs.declared.kinds.SyntaxKind.TheVariants as k
use Rattle.ide_ssr_search.proofs.roots.KindSet.shutting.Goals as goal

pub returns-clause-uses : goal.returns-clause-uses
returns-clause-uses c = c.add-2.ensures.kept k.USE c.add.ensures.added

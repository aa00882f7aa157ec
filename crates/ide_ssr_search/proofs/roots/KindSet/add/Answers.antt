use denote.Enum.Declared.{tag_of}
use Rattle.ssr_syntax_kinds.specs.contracts.kinds.SyntaxKind.{the_type}
use Rattle.ide_ssr_search.proofs.Asked.{set_kept}
use Rattle.ide_ssr_search.proofs.roots.KindSet.add.Goals as goal

pub returns-clause-kept : goal.returns-clause-kept
returns-clause-kept c = λ other has. set_kept c.args.self.now.every c.args.self.now.listed (tag_of the_type c.args.kind) (tag_of the_type other) has

use Rattle.std.proofs.Common.{inl, refl}
use Rattle.ide_ssr_search.proofs.FirstFile.{file_there}
use Rattle.ide_ssr_search.proofs.context.file_at.Goals as goal

pub returns-in_default : goal.returns-in_default
returns-in_default c = inl (refl, λ has. file_there c.args.workspace.now c.args.position.file_id.0 c.in_default.ensures has)

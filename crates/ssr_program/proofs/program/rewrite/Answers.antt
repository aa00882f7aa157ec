use Rattle.std.proofs.Common.{refl}
use Rattle.ssr_program.proofs.Answering.{rewrites_in}
use Rattle.ssr_program.proofs.program.rewrite.Goals as goal

pub returns-in-File : goal.returns-in-File
returns-in-File c = rewrites_in _ _ _ _ _ _ c.in-File.is refl c.rewrite.ensures

pub returns-in-Facts : goal.returns-in-Facts
returns-in-Facts c = rewrites_in _ _ _ _ _ _ c.in-Facts.is c.deref.ensures.value c.rewrite-in-Facts.ensures

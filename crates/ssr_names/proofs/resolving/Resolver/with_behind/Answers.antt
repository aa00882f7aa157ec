use Rattle.ssr_names.proofs.Telling.{as_told}
use Rattle.ssr_names.proofs.resolving.Resolver.with_behind.Goals as goal

pub returns-in-Type : goal.returns-in-Type
returns-in-Type c = λ had d is.
    as_told c.args.self.now.space.now c.args.spelled.«module» c.args.spelled.path.now.start c.args.spelled.path.now.names.items c.args.spelled.namespace c.args.answer.meaning c.in-Type.is
    had d (c.as_type.ensures d is)

use Rattle.ssr_names.specs.WholePaths.{whole_path}
use Rattle.ssr_names.specs.Private.Answered.{place_of}
use Rattle.ssr_names.proofs.WholePaths.{whole_of_type}
use Rattle.ssr_names.proofs.space.Space.typed_path.Goals as goal

pub returns-in-Type : goal.returns-in-Type
returns-in-Type c = λ d is.
    let path = c.args.path in
    whole_of_type c.args.self.now (place_of path) path.namespace path.names.now c.in_ok-answer.answer.meaning d c.in-Type.is c.in_ok-answer.ensures (c.as_type.ensures d is)

pub returns-in_default : goal.returns-in_default
returns-in_default c = λ d is. whole_path d (c.in_ok-answer.ensures d is)

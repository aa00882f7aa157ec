use Rattle.ssr_names.specs.Private.Macros.{type_itself}
use Rattle.ssr_names.proofs.WholePaths.{type_of_one}
use Rattle.ssr_names.proofs.space.Space.as_type.Goals as goal

pub returns-in-One : goal.returns-in-One
returns-in-One c = λ d is. type_of_one c.args.meaning c.in-One.definition c.type_for.result d c.in-One.is c.type_for.ensures is

pub returns-in_default : goal.returns-in_default
returns-in_default c = λ d is. type_itself d is

use Rattle.std.proofs.Common.{rules}
use Rattle.ssr_syntax_types.specs.Paths.{name_ref}
use Rattle.ssr_syntax_types.proofs.paths.name_ref.Goals as goal

pub returns : goal.returns
unfolding name_ref
returns g c = search rules steps 3000000

use Rattle.ssr_names.specs.Lookup.{as_crate, as_builtin, as_prelude}
use Rattle.ssr_names.proofs.space.Space.everywhere.Goals as goal

pub returns-then-is_something : goal.returns-then-is_something
returns-then-is_something c = λ d is. let known = c.as_crate-as_crate.ensures d is in as_crate d known.0 known.1

pub returns-then-is_something-2 : goal.returns-then-is_something-2
returns-then-is_something-2 c = λ d is. as_prelude d (c.in_ok-prelude.ensures d is)

pub returns : goal.returns
returns c = λ d is. let known = c.as_builtin.ensures d is in as_builtin d known.0 known.1

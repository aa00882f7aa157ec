use Rattle.std.proofs.lemmas.Option.{IfSome_then}
use Rattle.ssr_names.proofs.macros.lone_macro.Goals as goal

pub returns-in-Plain-Macro : goal.returns-in-Plain-Macro
returns-in-Plain-Macro c = IfSome_then c.only_name.result c.only_name.ensures (λ name is. (c.in-Plain-Macro.is-0, c.in-Plain-Macro.is-1, is))

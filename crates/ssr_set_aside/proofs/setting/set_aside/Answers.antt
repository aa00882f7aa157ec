use Rattle.std.proofs.Common.{ap, ◌∙◌}
use Rattle.ssr_syntax_tree.specs.Syntax.{source_of}
use Rattle.ssr_set_aside.proofs.KeptPlaces.{as_it_stands}
use Rattle.ssr_set_aside.proofs.setting.set_aside.Goals as goal

pub returns-in-Ok-clause-aside : goal.returns-in-Ok-clause-aside
returns-in-Ok-clause-aside c =
    let made = c.as_it_stands in
    as_it_stands c.args.text.now made.result (ap source_of made.ensures.tree ∙ c.in-Ok.ensures.sound.spells) made.ensures.aside made.ensures.reaches made.ensures.unsearched

use Rattle.std.proofs.Common.{ap, ◌∙◌, bytes_eq}
use Rattle.std.specs.Option.{is_some}
use Rattle.ide_ssr_resolved_rule.specs.StandIns.{stand_in_of}
use Rattle.ide_ssr_resolved_rule.proofs.NamePlaces.{is_some-position}
use Rattle.ide_ssr_resolved_rule.proofs.names.Names.has_stand_in.Goals as goal

pub returns : goal.returns
returns c = c.is_some.ensures ∙ ap is_some c.place_of_stand_in.ensures.place ∙ is_some-position (λ name. bytes_eq c.args.text.now (stand_in_of name)) 0 c.args.self.now

use Rattle.std.proofs.Common.{ap, ◌∙◌, bytes_eq}
use Rattle.std.specs.Option.{is_some}
use Rattle.ide_ssr_resolved_rule.proofs.NamePlaces.{is_some-position}
use Rattle.ide_ssr_resolved_rule.proofs.names.Names.has.Goals as goal

pub returns : goal.returns
returns c = c.is_some.ensures ∙ ap is_some c.place.ensures ∙ is_some-position (bytes_eq c.args.name.now) 0 c.args.self.now

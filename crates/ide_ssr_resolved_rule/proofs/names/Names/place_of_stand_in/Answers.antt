use Rattle.std.proofs.Common.{◌<◌, length, ◌∙◌, sym, subst, bytes_eq, false}
use Rattle.std.specs.Option.{IfSome}
use Rattle.ide_ssr_resolved_rule.specs.StandIns.{stand_in_of}
use Rattle.ide_ssr_resolved_rule.proofs.NamePlaces.{position-same, found_within, nowhere}
use Rattle.ide_ssr_resolved_rule.proofs.names.Names.place_of_stand_in.Goals as goal

pub returns-in-Some-clause-within : goal.returns-in-Some-clause-within
returns-in-Some-clause-within c =
    subst (λ place. IfSome place (λ place. place < length c.args.self.now)) (sym c.place.ensures) (found_within (bytes_eq c.in-Some.name.now) c.args.self.now)

pub returns-in-None-clause-place : goal.returns-in-None-clause-place
returns-in-None-clause-place c =
    sym (position-same (λ name. bytes_eq c.args.text.now (stand_in_of name)) (λ _. false) 0 c.args.self.now c.in-None.ensures ∙ nowhere 0 c.args.self.now)

use Rattle.std.proofs.Common.{◌+◌, ap, sym, ◌∙◌}
use Rattle.std.proofs.lemmas.Bool.{not-false}
use Rattle.ssr_syntax_forms.specs.Places.{Place}
use Rattle.ssr_syntax_forms.proofs.PlaceLaws.{alone_next}
use Rattle.ssr_syntax_forms.proofs.places.Place.behind_alone.Goals as goal

pub returns : goal.returns
returns c =
    alone_next c.args.kind c.in_ok-first.first.now c.in_ok-first.others.now c.args.self.now c.counted.result (c.self.inside.next + 1)
    (ap (λ (p : Place). p.kinds) (sym c.self.view_is) ∙ c.in_ok-first.ensures.cases.0)
    (not-false _ (sym c.ne.ensures ∙ c.if-ne.false))
    (sym c.is_trivia.ensures ∙ c.if-is_trivia.false)
    c.counted.ensures
    (ap (λ (p : Place). p.next + 1) c.self.view_is)

use Rattle.ssr_syntax_forms.proofs.Alone.{taken_alone}
use Rattle.ssr_syntax_forms.proofs.parser.Parser.take.Goals as goal

pub returns : goal.returns
returns c =
    rw (← c.self.view_is)
    (taken_alone c.args.kind c.args.size c.args.rest.now
    (record { rows = c.self.inside.out.rows; joined = c.self.inside.out.joined.items; place = c.self.inside.place })
    c.in-Some.place c.if-size-eq1.true c.in-Some.ensures.0 c.in-Some.ensures.1)

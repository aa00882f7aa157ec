use Rattle.ssr_set_aside.proofs.PartLaws.{same_bytes}
use Rattle.ssr_set_aside.proofs.units.are_bytes.Goals as goal

pub returns-then-range-bytes : goal.returns-then-range-bytes
returns-then-range-bytes c = λ yes. same_bytes c.args.tokens.now c.args.from c.args.to c.in-Some.range c.args.bytes c.if-range-bytes.true yes c.in-Some.ensures

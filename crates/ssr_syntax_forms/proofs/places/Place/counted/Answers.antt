use Rattle.std.proofs.Common.{arith, ap, length}
use Rattle.ssr_syntax_forms.proofs.PlaceLaws.{counted_place, leading-behind}
use Rattle.ssr_syntax_forms.proofs.places.Place.counted.Goals as goal

pub overflow_sub-leading : goal.overflow_sub-leading
overflow_sub-leading c = omega (arith, ap length c.behind_trivia-rest.ensures, leading-behind c.args.kinds.now)

pub returns : goal.returns
returns c = counted_place c.args.end c.args.kinds.now c.behind_trivia-rest.result.now c.behind_trivia-rest.ensures

pub invariant_of-result : goal.invariant_of-result
invariant_of-result c = omega (arith, c.requires, ap length c.behind_trivia-rest.ensures, leading-behind c.args.kinds.now)

use Rattle.ide_ssr_rules.proofs.Splitting.{no_split, second_split, one_split}
use Rattle.ide_ssr_refusals.proofs.Shared.{tells_refusal}
use Rattle.ide_ssr_rules.proofs.sides.sides.Goals as goal

pub returns-in_default : goal.returns-in_default
returns-in_default c = tells_refusal _ _ _ (no_split _ c.in_default.ensures.cases) c.told.ensures

pub returns-then-contains : goal.returns-then-contains
returns-then-contains c = tells_refusal _ _ _ (second_split _ _ _ c.in-Some.ensures.cases c.if-contains.ensures.cases) c.told-then-contains.ensures

pub returns : goal.returns
returns c = let is = one_split _ _ _ c.in-Some.ensures.cases c.if-contains.ensures.cases in cc

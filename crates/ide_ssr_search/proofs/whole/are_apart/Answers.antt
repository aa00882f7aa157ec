use Rattle.std.proofs.Common.{◌≡◌, true, false, AllPairs, refl, subst}
use Rattle.std.proofs.lemmas.Bool.{both_ways}
use Rattle.std.proofs.lemmas.List.{take_all}
use Rattle.ide_ssr_search.proofs.Apart.{Disjoint, disjoint_more, not_disjoint}
use Rattle.ide_ssr_search.proofs.whole.are_apart.Goals as goal

pub returns-then-not-is_apart : goal.returns-then-not-is_apart
returns-then-not-is_apart c =
    let ranges = c.args.ranges.now in
    let range = c.index-ranges-place.result in (
      λ h. let e : false ≡ true = h in cc,
      λ pairs. absurd (not_disjoint ranges c.loop-place.place range c.loop-place-test.true c.index-ranges-place.is
          (λ apart. both_ways c.is_apart.result c.if-not-is_apart.true (c.is_apart.ensures.1 apart)) pairs),
    )

pub loop-place-preserved : goal.loop-place-preserved
loop-place-preserved c =
    disjoint_more c.args.ranges.now c.loop-place.place c.index-ranges-place.result c.loop-place-test.true c.index-ranges-place.is
    (c.is_apart.ensures.0 c.if-not-is_apart.false)
    c.loop-place.invariant

pub returns : goal.returns
returns c = (
  λ _. subst (AllPairs Disjoint) (take_all c.loop-place.place c.args.ranges.now c.loop-place-test.false) c.loop-place.invariant,
  λ _. refl,
)

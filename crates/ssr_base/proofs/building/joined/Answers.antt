use Rattle.std.proofs.Common.{◌≡◌, ◌-◌, ◌∙◌, length, string_bytes, ap, rules}
use Rattle.ssr_base_trees.specs.Origins.{plain_cover, join}
use Rattle.ssr_base.proofs.Joining.{cover_next, drop_next}
use Rattle.ssr_base.proofs.building.joined.Goals as goal

pub loop-left-preserved : goal.loop-left-preserved
loop-left-preserved c =
    let token = c.in-Some.token.now in
    let others = c.in-Some.others.now in
    let before = c.loop-left.rest.now in
    let is = c.in-Some.ensures.cases.0 in
    let left = c.loop-left.left in
    let after = c.saturating_sub-left.result in
    let less : after ≡ left - length (string_bytes token.text) = search rules in
    record {
      cover =
          cover_next (plain_cover c.loop-left.cover) (plain_cover c.join-cover.result) left after before token others is c.loop-left-test.true
          (c.join-cover.ensures ∙ ap (join (plain_cover c.loop-left.cover)) c.of_token.ensures) less
          ∙ c.loop-left.invariant.cover;
      rest = drop_next left after before token others is c.loop-left-test.true less ∙ c.loop-left.invariant.rest;
    }

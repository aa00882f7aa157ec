use Rattle.std.proofs.Common.{length, take, drop, arith, ap, ◌∙◌}
use Rattle.ssr_syntax_tree.specs.Places.{HasToken}
use Rattle.ssr_base_trees.specs.Origins.{covered}
use Rattle.ssr_base.specs.Building.{count_in, cover_of_tokens}
use Rattle.ssr_base.proofs.Joining.{so_far_next, so_far_all}
use Rattle.ssr_base.proofs.building.joined_origins.Goals as goal

pub loop-token-preserved : goal.loop-token-preserved
loop-token-preserved c =
    let tree = c.args.tree.now in
    let t = c.loop-token.token in
    let rest = c.loop-token.rest.now in
    let has : HasToken tree t = omega arith in
    let bytes = ap length c.token_text.ensures in
    so_far_next tree c.args.tokens.now c.loop-token.origins.items c.push.new.self.items t rest c.joined-origin.result.1.now c.joined-origin.result.0
    has c.loop-token.invariant
    (c.joined-origin.ensures.origin ∙ ap (λ n. covered (cover_of_tokens (take (count_in n rest) rest))) bytes)
    (c.joined-origin.ensures.rest ∙ ap (λ n. drop (count_in n rest) rest) bytes)
    c.in_ok-push.ensures.items

pub returns : goal.returns
returns c =
    so_far_all c.args.tree.now c.args.tokens.now c.loop-token.origins.items c.loop-token.token c.loop-token.rest.now (omega arith) c.loop-token.invariant

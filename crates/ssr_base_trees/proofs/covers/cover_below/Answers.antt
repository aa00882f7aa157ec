use Rattle.std.proofs.Common.{map, sym, subst, ◌∙◌}
use Rattle.ssr_base_trees.specs.Origins.{no_token, plain_cover, plain_origin}
use Rattle.ssr_base_trees.proofs.CoverLaws.{Covers, covers_none, step_node, step_token}
use Rattle.ssr_base_trees.proofs.covers.cover_below.Goals as goal
use Rattle.ssr_base_trees.proofs.covers.cover_below.Goals.{in-Node, in-Token}

pub loop-part-init : goal.loop-part-init
loop-part-init c =
    subst (Covers c.args.tree.now (map plain_origin c.args.origins.now) c.args.node.0 no_token)
    (sym (c.into_iter-part-iterator.ensures.into_iter_gives ∙ c.children-part-items.ensures.elements))
    (covers_none c.args.tree.now (map plain_origin c.args.origins.now) c.args.node.0 c.requires.has)

pub loop-part-preserved : goal.loop-part-preserved
loop-part-preserved c =
    let tree = c.args.tree.now in
    let origins = c.args.origins.now in
    let n = c.args.node.0 in
    let cover = plain_cover c.loop-part.cover in
    let now = plain_cover c.join-cover.result in
    elim c.match-part.branch [
      | in-Node w ↦
          step_node tree (map plain_origin origins) n cover now c.loop-part.part-iterator c.next.new.self c.in-Some.part w.in-Node.child.0
          c.args.covers.now w.index-covers-child.result c.match-part.join c.requires.has c.loop-part.invariant c.in-Some.ensures.steps w.in-Node.is
          c.requires.known c.requires.counted w.index-covers-child.is w.join-is c.join-cover.ensures
      | in-Token w ↦
          step_token tree origins n cover now c.loop-part.part-iterator c.next.new.self c.in-Some.part w.in-Token.token.0
          w.index-origins-token.result w.of_token.result c.match-part.join c.loop-part.invariant c.in-Some.ensures.steps w.in-Token.is
          c.requires.origins w.index-origins-token.is w.of_token.ensures w.join-is c.join-cover.ensures
    ]

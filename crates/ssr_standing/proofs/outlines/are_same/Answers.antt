use Rattle.std.proofs.Common.{◌≡◌, ◌∙◌, [], sym}
use Rattle.ssr_standing.specs.Private.Outlines.{left_behind, left_of, left_past, places_of}
use Rattle.ssr_standing.proofs.Alike.{ended, further, some_left}
use Rattle.ssr_standing.proofs.outlines.are_same.Goals as goal

pub returns-then-not-find : goal.returns-then-not-find
returns-then-not-find c =
    let there = c.find.ensures.there c.loop-one-test.true in
    let one = c.find.new.self in
    let gone : left_of c.find-in-loop-one.new.self ≡ [] = c.find-in-loop-one.ensures.none (cc) in (
      λ told. absurd (cc),
      λ same. absurd
          (some_left (places_of one) one.tree.now one.node there.has there.kept
          (c.find.ensures.left ∙ c.loop-one.invariant.0 same ∙ sym c.find-in-loop-one.ensures.left ∙ gone)),
    )

pub loop-one-preserved-then-are_same_runs : goal.loop-one-preserved-then-are_same_runs
loop-one-preserved-then-are_same_runs c =
    further (left_of c.args.one ≡ left_of c.args.two) (left_of c.loop-one.one) (left_of c.loop-one.two) (left_of c.find.new.self) (left_of c.find-in-loop-one.new.self)
    (left_past c.find.new.self) (left_past c.find-in-loop-one.new.self) (left_of c.pass_run.new.self) (left_of c.pass_run-then-are_same_runs.new.self)
    c.find.ensures.left c.find-in-loop-one.ensures.left c.loop-one.invariant (c.are_same_runs.ensures c.if-are_same_runs.true)
    c.pass_run.ensures c.pass_run-then-are_same_runs.ensures

pub loop-one-preserved : goal.loop-one-preserved
loop-one-preserved c =
    further (left_of c.args.one ≡ left_of c.args.two) (left_of c.loop-one.one) (left_of c.loop-one.two) (left_of c.find.new.self) (left_of c.find-in-loop-one.new.self)
    (left_behind c.find.new.self) (left_behind c.find-in-loop-one.new.self) (left_of c.pass_node.new.self) (left_of c.pass_node-then-are_same_nodes.new.self)
    c.find.ensures.left c.find-in-loop-one.ensures.left c.loop-one.invariant (c.are_same_nodes.ensures.alike c.if-are_same_nodes.true)
    c.pass_node.ensures c.pass_node-then-are_same_nodes.ensures

pub returns : goal.returns
returns c =
    let two = c.find-2.new.self in
    ended (left_of c.args.one ≡ left_of c.args.two) (left_of c.loop-one.one) (left_of c.loop-one.two) (left_of c.find.new.self) (left_of two) c.find-2.result
    c.find.ensures.left c.find-2.ensures.left c.loop-one.invariant (c.find.ensures.none c.loop-one-test.false) c.find-2.ensures.none
    (λ is. let there = c.find-2.ensures.there is in some_left (places_of two) two.tree.now two.node there.has there.kept)

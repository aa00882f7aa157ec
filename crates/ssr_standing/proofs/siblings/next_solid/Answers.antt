use Rattle.std.proofs.Common.{ap, arith, length, sym}
use Rattle.std.proofs.lemmas.List.Elements.{All-rest}
use Rattle.ssr_syntax_tree.specs.Places.{HasElement}
use Rattle.ssr_standing.proofs.SiblingMarks.{trivia_skipped}
use Rattle.ssr_standing.proofs.siblings.next_solid.Goals as goal

pub returns-then-not-is_trivia-clause-had : goal.returns-then-not-is_trivia-clause-had
returns-then-not-is_trivia-clause-had c =
    All-rest (HasElement c.args.tree.now) c.in-Some.child c.next.new.self c.loop-child.left c.in-Some.ensures.steps c.loop-child.invariant.had

pub loop-child-preserved : goal.loop-child-preserved
loop-child-preserved c = record {
  next = tt;
  finite = tt;
  same =
      trivia_skipped c.args.tree.now c.args.left.now c.loop-child.left c.next.new.self c.in-Some.child c.in-Some.ensures.steps (sym c.if-not-is_trivia.ensures)
      c.loop-child.invariant.same;
  had = All-rest (HasElement c.args.tree.now) c.in-Some.child c.next.new.self c.loop-child.left c.in-Some.ensures.steps c.loop-child.invariant.had;
  fewer = omega (arith, ap length c.in-Some.ensures.steps, c.loop-child.invariant.fewer);
}

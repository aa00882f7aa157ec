use Rattle.std.proofs.Common.{◌≡◌, ◌<◌, ◌+◌, ◌*◌, IfOk, ap, subst, sym, arith}
use Rattle.std.proofs.lemmas.List.Elements.{All-weaker}
use Rattle.std.proofs.lemmas.Result.{IfOk-weaker}
use Rattle.ssr_syntax_tree.specs.Places.{HasElement, node_of, size_of}
use Rattle.ide_ssr_token_trees.specs.Bindings.{placeholder_in, tree_bindings, Answers}
use Rattle.ide_ssr_token_trees.specs.Private.Matching.{ElementSteps}
use Rattle.ide_ssr_token_trees.proofs.Matched.{IsBelow, match_starts, came_below, came_has, match_turns, match_differs, match_ends, element_size, element_smaller, below_has}
use Rattle.ide_ssr_token_trees.proofs.Rests.{rest_first, rest_passed}
use Rattle.ide_ssr_token_trees.proofs.Steps.{none_steps, token_steps, node_steps}
use Rattle.ide_ssr_token_trees.proofs.matching.+matching.Goals as goal

-- ** Trees.

pub match_token_trees-loop-first-init : goal.match_token_trees-loop-first-init
match_token_trees-loop-first-init t c =
    match_starts (placeholder_in c.args.placeholders.now) c.args.pattern.now c.args.code.now c.args.p.0 c.args.c.0 c.of-ps.result c.of-cs.result c.args.out.now
    c.requires.p_in c.requires.c_in c.of-ps.ensures.left c.of-ps.ensures.comma c.of-cs.ensures.left c.of-cs.ensures.comma c.of-cs.ensures.few

pub match_token_trees-next_solid-requires : goal.match_token_trees-next_solid-requires
match_token_trees-next_solid-requires t c =
    All-weaker (IsBelow c.args.pattern.now c.args.p.0) (HasElement c.args.pattern.now) (below_has c.args.pattern.now c.args.p.0) _ c.loop-first.invariant.below

pub match_token_trees-element_matches-requires : goal.match_token_trees-element_matches-requires
match_token_trees-element_matches-requires t c =
    let below = came_below _ _ _ _ _ _ c.next_solid.new.self _ c.in-Some.first _ _ c.loop-first.invariant c.in-Some.ensures.gives c.in-Some.ensures.rest in
    let less : element_size c.args.pattern.now c.in-Some.first < 2 * size_of (node_of c.args.pattern.now c.args.p.0) =
    element_smaller c.args.pattern.now c.args.p.0 c.in-Some.first c.requires.p_in below
    in (
      omega arith,
      (
        below_has c.args.pattern.now c.args.p.0 c.in-Some.first below,
        (
          came_has _ _ _ _ _ _ c.next_solid.new.self _ c.in-Some.first _ _ c.loop-first.invariant c.in-Some.ensures.gives c.in-Some.ensures.rest,
          (c.loop-first.invariant.has, c.loop-first.invariant.few),
        ),
      ),
    )

pub match_token_trees-loop-first-preserved : goal.match_token_trees-loop-first-preserved
match_token_trees-loop-first-preserved t c =
    match_turns _ _ _ _ _ _ c.next_solid.new.self _ c.in-Some.first _ _ c.loop-first.invariant c.in-Some.ensures.gives c.in-Some.ensures.rest
    c.element_matches.new.ps c.element_matches.new.cs c.element_matches.new.out
    (subst
    (ElementSteps (placeholder_in c.args.placeholders.now) c.args.pattern.now c.in-Some.first c.next_solid.new.self c.args.code.now c.loop-first.cs c.element_matches.new.cs c.loop-first.out c.element_matches.new.out)
    c.if-not-branch.false c.in_ok-element_matches.ensures.steps)
    c.in_ok-element_matches.ensures.same c.in_ok-element_matches.ensures.ps_rest c.in_ok-element_matches.ensures.cs_rest

pub match_token_trees-returns-then-not-branch : goal.match_token_trees-returns-then-not-branch
match_token_trees-returns-then-not-branch t c =
    match_differs _ _ _ _ _ _ c.next_solid.new.self _ c.in-Some.first _ _ c.loop-first.invariant c.in-Some.ensures.gives c.in-Some.ensures.rest
    c.element_matches.new.cs c.element_matches.new.out
    (subst
    (ElementSteps (placeholder_in c.args.placeholders.now) c.args.pattern.now c.in-Some.first c.next_solid.new.self c.args.code.now c.loop-first.cs c.element_matches.new.cs c.loop-first.out c.element_matches.new.out)
    c.if-not-branch.true c.in_ok-element_matches.ensures.steps)

pub match_token_trees-returns : goal.match_token_trees-returns
match_token_trees-returns t c =
    match_ends _ _ _ _ _ _ c.next_solid.new.self _ c.next_counted.new.self _ _ c.next_counted.result _ c.loop-first.invariant c.in_default.ensures.gives
    c.in_default.ensures.none c.next_counted.ensures.gives c.next_counted.ensures.none c.is_none.ensures

-- ** Elements.

pub element_matches-returns-in-Token-clause-steps : goal.element_matches-returns-in-Token-clause-steps
element_matches-returns-in-Token-clause-steps t c =
    subst
    (λ p. IfOk c.token_matches.result (ElementSteps (placeholder_in c.args.pattern.now.placeholders.now) c.args.pattern.now.tree.now p c.args.ps.now c.args.code.now c.args.cs.now c.token_matches.new.cs c.args.out.now c.token_matches.new.out))
    (sym c.in-Token.is) c.token_matches.ensures.steps

pub element_matches-match_token_trees-requires : goal.element_matches-match_token_trees-requires
element_matches-match_token_trees-requires t c =
    let size : element_size c.args.pattern.now.tree.now c.args.p ≡ 1 + 2 * size_of (node_of c.args.pattern.now.tree.now c.in-Node.p.0) = ap (element_size c.args.pattern.now.tree.now) c.in-Node.is in (
      omega arith,
      (
        subst (HasElement c.args.pattern.now.tree.now) c.in-Node.is c.requires.p_in,
        subst (HasElement c.args.code.now) c.in-Node-next.is (rest_first (HasElement c.args.code.now) _ _ c.in-Some.next c.in-Some.ensures.rest c.requires.cs_in),
      ),
    )

pub element_matches-returns-in_default-clause-steps : goal.element_matches-returns-in_default-clause-steps
element_matches-returns-in_default-clause-steps t c =
    none_steps (placeholder_in c.args.pattern.now.placeholders.now) c.args.pattern.now.tree.now c.args.p c.in-Node.p c.args.ps.now c.args.code.now c.args.cs.now c.next_counted.new.self _
    c.in-Node.is c.in_default.ensures.gives c.in_default.ensures.none

pub element_matches-returns-in-Token-next-clause-steps : goal.element_matches-returns-in-Token-next-clause-steps
element_matches-returns-in-Token-next-clause-steps t c =
    token_steps (placeholder_in c.args.pattern.now.placeholders.now) c.args.pattern.now.tree.now c.args.p c.in-Node.p c.args.ps.now c.args.code.now c.args.cs.now c.next_counted.new.self _
    c.in-Some.next c.in-Token-next.field-0 c.in-Node.is c.in-Some.ensures.gives c.in-Token-next.is

pub element_matches-returns-in-Node-next-clause-steps : goal.element_matches-returns-in-Node-next-clause-steps
element_matches-returns-in-Node-next-clause-steps t c =
    IfOk-weaker c.match_token_trees.result
    (Answers (tree_bindings (placeholder_in c.args.pattern.now.placeholders.now) (node_of c.args.pattern.now.tree.now c.in-Node.p.0) (node_of c.args.code.now c.in-Node-next.c.0)) c.args.out.now c.match_token_trees.new.out)
    (ElementSteps (placeholder_in c.args.pattern.now.placeholders.now) c.args.pattern.now.tree.now c.args.p c.args.ps.now c.args.code.now c.args.cs.now c.next_counted.new.self c.args.out.now c.match_token_trees.new.out)
    (λ answer answers.
    node_steps (placeholder_in c.args.pattern.now.placeholders.now) c.args.pattern.now.tree.now c.args.p c.in-Node.p c.args.ps.now c.args.code.now c.args.cs.now c.next_counted.new.self _ _ answer
    c.in-Some.next c.in-Node-next.c c.in-Node.is c.in-Some.ensures.gives c.in-Node-next.is answers)
    c.match_token_trees.ensures

pub element_matches-returns-in-Node-next-clause-cs_rest : goal.element_matches-returns-in-Node-next-clause-cs_rest
element_matches-returns-in-Node-next-clause-cs_rest t c = rest_passed _ _ c.in-Some.next c.in-Some.ensures.rest

pub element_matches-returns-in-Token-next-clause-cs_rest : goal.element_matches-returns-in-Token-next-clause-cs_rest
element_matches-returns-in-Token-next-clause-cs_rest t c = rest_passed _ _ c.in-Some.next c.in-Some.ensures.rest

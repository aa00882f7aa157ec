use Rattle.std.proofs.Common.{arith}
use Rattle.ide_ssr_nesting.proofs.Keeping.{kept_starts, rest_behind, rest_turns, rest_ends}
use Rattle.ide_ssr_nesting.proofs.kept.keep_in_order.Goals as goal

pub loop-m-init : goal.loop-m-init
loop-m-init c =
    kept_starts _ _ _ _ _ c.requires.matches c.requires.in_order c.in_ok-matches.ensures.items c.in_ok-holders.ensures.items c.into_iter-m-iterator.ensures.into_iter_gives.0

pub consider-requires-clause-behind : goal.consider-requires-clause-behind
consider-requires-clause-behind c = rest_behind _ c.requires.built.grown _ _ _ _ c.loop-m.invariant _ _ c.in-Some.ensures.steps.0

pub loop-m-preserved : goal.loop-m-preserved
loop-m-preserved c =
    rest_turns _ c.requires.built.grown _ _ _ _ c.loop-m.invariant _ _ c.in-Some.ensures.steps.0 _ c.in_ok-consider.ensures.kept _ c.in_ok-consider.ensures.held

pub returns-clause-kept : goal.returns-clause-kept
returns-clause-kept c =
    rest_ends _ c.requires.built.grown _ _ _ _ c.loop-m.invariant (omega (arith, c.loop-m.m-iterator.rest.ok.0, c.in-None.ensures.steps.0))

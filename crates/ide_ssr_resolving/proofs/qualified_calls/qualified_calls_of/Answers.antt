use Rattle.std.proofs.Common.{Some, None, sym, ◌∙◌, arith, rules}
use Rattle.ide_ssr_resolving.proofs.QualifiedCalls.{calls_next, has_next}
use Rattle.ide_ssr_resolving.proofs.qualified_calls.qualified_calls_of.Goals as goal
use Rattle.ide_ssr_resolving.proofs.qualified_calls.qualified_calls_of.Goals.{in-Some+in_ok-push, in_default}

pub loop-path-preserved : goal.loop-path-preserved
loop-path-preserved g c =
    let tree = c.args.tree.now in
    let next = calls_next (g.S.Semantics.meanings c.args.semantics.now) c.args.scope tree c.args.paths.now c.loop-path.path-index _ _
    c.match-branch-2.calls.items in
    let so_far = c.loop-path.invariant in
    elim c.match-branch-2.branch [
      | in-Some+in_ok-push w ↦
          record {
            calls = next (Some w.in-Some.call) (omega (arith, c.loop-path-test.true)) so_far.calls (sym w.in-Some.is ∙ c.in_ok-call.ensures.call) (search rules);
            has =
                has_next tree c.loop-path.calls.items c.match-branch-2.calls.items (Some w.in-Some.call) so_far.has
                (rw w.in-Some.is at c.in_ok-call.ensures.has) (search rules);
          }
      | in_default w ↦
          record {
            calls = next None (omega (arith, c.loop-path-test.true)) so_far.calls (sym w.in_default.is ∙ c.in_ok-call.ensures.call) (search rules);
            has = has_next tree c.loop-path.calls.items c.match-branch-2.calls.items None so_far.has tt (search rules);
          }
    ]

use Rattle.std.proofs.Common.{◌≡◌, take}
use Rattle.ide_ssr_resolving.specs.QualifiedCalls.{qualified_calls_of}
use Rattle.ide_ssr_resolved_rule.specs.QualifiedCalls.{HasCalls}
use Rattle.ide_ssr_resolving.proofs.qualified_calls.qualified_calls_of.Given as goal

abbrev pub invariant-loop-path : goal.invariant-loop-path
invariant-loop-path g l = record {
  calls : l.calls.items ≡ qualified_calls_of (g.S.Semantics.meanings l.semantics) l.fn.scope l.tree (take l.path-index l.paths);
  has : HasCalls l.tree l.calls.items;
}

use Rattle.std.specs.Vec.Iter.{into_iter_items}
use Rattle.ide_ssr_rules.proofs.KindByKind.{Resolves}
use Rattle.ide_ssr_rules.proofs.resolved.resolve.Given as goal

abbrev pub invariant-loop-kind : goal.invariant-loop-kind
invariant-loop-kind g l = Resolves (g.S.Semantics.meanings l.semantics) l.fn.scope l.fn.parsed.names l.fn.parsed.constraints l.fn.parsed.kinds l.resolved.items (into_iter_items l.kind-iterator)

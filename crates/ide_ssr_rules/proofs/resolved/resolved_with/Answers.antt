use Rattle.std.proofs.Common.{◌∙◌}
use Rattle.ide_ssr_rules.proofs.KindByKind.{kind_made}
use Rattle.ide_ssr_rules.proofs.resolved.resolved_with.Goals as goal

pub returns : goal.returns
returns g c =
    let called = rw c.as_slice-used.ensures.value at c.in_ok-qualified_calls.ensures.calls in
    let leading = rw c.as_slice-used.ensures.value at c.in_ok-qualified_calls.ensures.eligible in
    c.in_ok-rule.ensures
    ∙ kind_made (g.S.Semantics.meanings c.args.semantics.now) c.args.scope _ _ c.args.kind _ _ _ _ _ _ c.in_ok-names.ensures.names c.in_ok-names.ensures.constraints
    called leading

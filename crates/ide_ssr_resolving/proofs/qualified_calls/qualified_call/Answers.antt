use Rattle.std.proofs.Common.{ap, ◌∙◌, None, Some}
use Rattle.ide_ssr_resolving.proofs.QualifiedCalls.{no_function, call_told}
use Rattle.ide_ssr_resolving.proofs.qualified_calls.qualified_call.Goals as goal

pub returns-in_default-clause-call : goal.returns-in_default-clause-call
returns-in_default-clause-call g c = no_function (g.S.Semantics.meanings c.args.semantics.now) c.args.scope c.args.tree.now c.args.path c.in_default.ensures

pub returns-in_default-called_by-clause-call : goal.returns-in_default-called_by-clause-call
returns-in_default-called_by-clause-call g c =
    call_told (g.S.Semantics.meanings c.args.semantics.now) c.args.scope c.args.tree.now c.args.path c.in-Some.function None
    c.in-Some.ensures c.in_default-called_by.ensures.call

pub returns-clause-call : goal.returns-clause-call
returns-clause-call g c =
    ap (λ ty. Some (record { node = c.in-Some-called_by.node; function = c.in-Some.function; qualifier_type = ty })) c.in_ok-qualifier_type.ensures
    ∙ call_told (g.S.Semantics.meanings c.args.semantics.now) c.args.scope c.args.tree.now c.args.path c.in-Some.function (Some c.in-Some-called_by.node.0)
    c.in-Some.ensures c.in-Some-called_by.ensures.call

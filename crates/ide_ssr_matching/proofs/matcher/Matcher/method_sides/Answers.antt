use Rattle.std.proofs.Common.{◌≡◌, Some, None, sym, ap, ◌∙◌, subst}
use Rattle.std.specs.Option.{option_and_then}
use Rattle.ssr_syntax_tree.specs.Places.{HasNode, node_of}
use Rattle.ide_ssr_matching.specs.Calls.{called, alike_pairs}
use Rattle.ide_ssr_matching.specs.Private.Calls.{called_at, AreCalledBelow, method_at}
use Rattle.ide_ssr_matching.proofs.CallsTold.{uncalled, calls_other, no_method, received}
use Rattle.ide_ssr_matching.proofs.Pairs.{none_there}
use Rattle.ide_ssr_matching.proofs.matcher.Matcher.method_sides.Goals as goal

pub returns-in_default-clause-sides : goal.returns-in_default-clause-sides
returns-in_default-clause-sides g c =
    uncalled (g.S.Semantics.meanings c.args.self.now.semantics.now) c.args.self.now.number c.args.self.now.rule.now c.args.self.now.rule.now.pattern c.args.self.now.code.now c.args.call c.args.p.0
    c.args.c.0 (subst (λ s. None ≡ called (node_of s c.args.p.0)) c.pattern.ensures c.in_default.ensures.called)

pub returns-then-not-branch-clause-sides : goal.returns-then-not-branch-clause-sides
returns-then-not-branch-clause-sides g c =
    let found = c.in-Some.called in
    calls_other (g.S.Semantics.meanings c.args.self.now.semantics.now) c.args.self.now.number c.args.self.now.rule.now c.args.self.now.rule.now.pattern c.args.self.now.code.now c.args.call c.args.p.0
    c.args.c.0 found c.pattern_res-used.result c.in_ok-calls_same.field-0
    (subst (λ s. HasNode s found.path.0) c.pattern.ensures c.in-Some.ensures.below.path.0) c.requires.c_in
    (subst (λ s. Some (called_at s found) ≡ called (node_of s c.args.p.0)) c.pattern.ensures c.in-Some.ensures.called)
    c.pattern_res-used.ensures c.in_ok-calls_same.ensures c.if-not-branch.true

pub returns-in_default-method_call-clause-sides : goal.returns-in_default-method_call-clause-sides
returns-in_default-method_call-clause-sides g c =
    let found = c.in-Some.called in
    no_method (g.S.Semantics.meanings c.args.self.now.semantics.now) c.args.self.now.number c.args.self.now.rule.now c.args.self.now.rule.now.pattern c.args.self.now.code.now c.args.call c.args.p.0
    c.args.c.0 found c.pattern_res-used.result c.in_ok-calls_same.field-0
    (subst (λ s. HasNode s found.path.0) c.pattern.ensures c.in-Some.ensures.below.path.0) c.requires.c_in
    (subst (λ s. Some (called_at s found) ≡ called (node_of s c.args.p.0)) c.pattern.ensures c.in-Some.ensures.called)
    c.pattern_res-used.ensures c.in_ok-calls_same.ensures c.in_default-method_call.ensures.method

pub returns-in_default-2-clause-sides : goal.returns-in_default-2-clause-sides
returns-in_default-2-clause-sides g c =
    let found = c.in-Some.called in
    let method = c.in-Some-method_call.method in
    let pairs = alike_pairs (called_at c.args.self.now.rule.now.pattern found) (method_at c.args.self.now.code.now method) in
    sym (ap (option_and_then pairs) (none_there c.in_ok-receiver.field-0 c.in_default-2.not-Some))
    ∙ received (g.S.Semantics.meanings c.args.self.now.semantics.now) c.args.self.now.number c.args.self.now.rule.now c.args.self.now.rule.now.pattern c.args.self.now.code.now c.args.call c.args.p.0
    c.args.c.0 found c.pattern_res-used.result c.in_ok-calls_same.field-0
    (subst (λ s. HasNode s found.path.0) c.pattern.ensures c.in-Some.ensures.below.path.0) c.requires.c_in
    (subst (λ s. Some (called_at s found) ≡ called (node_of s c.args.p.0)) c.pattern.ensures c.in-Some.ensures.called)
    c.pattern_res-used.ensures c.in_ok-calls_same.ensures method c.in_ok-receiver.field-0 c.if-not-branch.false c.in-Some-method_call.ensures.has.receiver
    c.in-Some-method_call.ensures.method c.in_ok-receiver.ensures

pub returns-clause-sides : goal.returns-clause-sides
returns-clause-sides g c =
    let found = c.in-Some.called in
    received (g.S.Semantics.meanings c.args.self.now.semantics.now) c.args.self.now.number c.args.self.now.rule.now c.args.self.now.rule.now.pattern c.args.self.now.code.now c.args.call c.args.p.0
    c.args.c.0 found c.pattern_res-used.result c.in_ok-calls_same.field-0
    (subst (λ s. HasNode s found.path.0) c.pattern.ensures c.in-Some.ensures.below.path.0) c.requires.c_in
    (subst (λ s. Some (called_at s found) ≡ called (node_of s c.args.p.0)) c.pattern.ensures c.in-Some.ensures.called)
    c.pattern_res-used.ensures c.in_ok-calls_same.ensures c.in-Some-method_call.method (Some c.in-Some-2.receiver) c.if-not-branch.false
    c.in-Some-method_call.ensures.has.receiver c.in-Some-method_call.ensures.method (sym c.in-Some-2.is ∙ c.in_ok-receiver.ensures)

pub returns-clause-below : goal.returns-clause-below
returns-clause-below g c = record {
  called = subst (λ s. AreCalledBelow s c.args.p.0 c.in-Some.called) c.pattern.ensures c.in-Some.ensures.below;
  method = c.in-Some-method_call.ensures.has;
}

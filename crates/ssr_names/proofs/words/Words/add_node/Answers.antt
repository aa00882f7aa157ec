use Rattle.std.proofs.Common.{sym, ap, ◌∙◌}
use Rattle.ssr_syntax_kinds.specs.Kinds.{same_kind}
use Rattle.ssr_syntax_kinds.specs.declared.kinds.SyntaxKind.TheVariants as k
use Rattle.ssr_names.specs.Private.Locals.{Collects, CollectsCall, CollectsPattern}
use Rattle.ssr_names.proofs.Binding.{on_ok, on_ok_too}
use Rattle.ssr_names.proofs.Collecting.{collects_of_call, collects_of_pattern, collects_other}
use Rattle.ssr_names.proofs.words.Words.add_node.Goals as goal

pub returns-then-is_name-clause-collected : goal.returns-then-is_name-clause-collected
returns-then-is_name-clause-collected c =
    let new = c.add_pattern.new.self in
    on_ok_too c.add_pattern.result (CollectsPattern c.args.tree.now new c.args.node) (Collects c.args.tree.now new c.args.node)
    (collects_of_pattern c.args.tree.now c.args.node new (ap (λ kind. same_kind kind k.IDENT_PAT) (sym c.kind-own.ensures) ∙ sym c.is-is_name.ensures.same ∙ c.if-is_name.true))
    c.add_pattern.ensures.collected

pub returns-then-is_call-clause-collected : goal.returns-then-is_call-clause-collected
returns-then-is_call-clause-collected c =
    let new = c.add_called.new.self in
    on_ok_too c.add_called.result (CollectsCall c.args.tree.now new c.args.node) (Collects c.args.tree.now new c.args.node)
    (collects_of_call c.args.tree.now c.args.node new (ap (λ kind. same_kind kind k.IDENT_PAT) (sym c.kind-own.ensures) ∙ sym c.is-is_name.ensures.same ∙ c.if-is_name.false))
    c.add_called.ensures.collected

pub returns-else-is_call-clause-collected : goal.returns-else-is_call-clause-collected
returns-else-is_call-clause-collected c =
    let new = c.add_other.new.self in
    on_ok c.add_other.result (Collects c.args.tree.now new c.args.node)
    (collects_other c.args.tree.now c.args.node new
    (ap (λ kind. same_kind kind k.IDENT_PAT) (sym c.kind-own.ensures) ∙ sym c.is-is_name.ensures.same ∙ c.if-is_name.false)
    (ap (λ kind. same_kind kind k.MACRO_PAT) (sym c.kind-own.ensures) ∙ sym c.is-is_call.ensures.same ∙ c.if-is_call.false))

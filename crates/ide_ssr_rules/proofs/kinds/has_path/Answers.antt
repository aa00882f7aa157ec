use Rattle.std.proofs.Common.{arith, ap, sym, ◌∙◌}
use Rattle.ssr_syntax_kinds.specs.Kinds.{same_kind}
use Rattle.ssr_syntax_kinds.specs.declared.kinds.SyntaxKind.TheVariants.{PATH}
use Rattle.ide_ssr_rules.specs.Kinds.{has_path}
use Rattle.ssr_syntax_tree.proofs.Shared.{node_found, node_passed, none_found}
use Rattle.ide_ssr_rules.proofs.kinds.has_path.Goals as goal

pub returns-then-is : goal.returns-then-is
unfolding has_path
returns-then-is c =
    sym (node_found (λ node. same_kind node.kind PATH) c.args.tree.now c.loop-number.number (omega arith)
    (sym (c.is.ensures.same ∙ ap (λ kind. same_kind kind PATH) c.kind.ensures) ∙ c.if-is.true) c.loop-number.invariant)

pub loop-number-preserved : goal.loop-number-preserved
loop-number-preserved c =
    node_passed (λ node. same_kind node.kind PATH) c.args.tree.now c.loop-number.number (omega arith)
    (sym (c.is.ensures.same ∙ ap (λ kind. same_kind kind PATH) c.kind.ensures) ∙ c.if-is.false) c.loop-number.invariant

pub returns : goal.returns
unfolding has_path
returns c = sym (none_found (λ node. same_kind node.kind PATH) c.args.tree.now c.loop-number.number (omega arith) c.loop-number.invariant)

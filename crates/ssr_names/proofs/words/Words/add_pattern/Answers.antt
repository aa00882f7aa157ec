use Rattle.std.proofs.Common.{sym, ap, ◌∙◌}
use Rattle.std.proofs.lemmas.Result.{IfOk-weaker}
use Rattle.ssr_syntax_tree.specs.Places.{node_of}
use Rattle.ssr_names.specs.Locals.{may_be_constant}
use Rattle.ssr_names.proofs.Collecting.{collects_argument, collects_unnamed, collects_unasked, collects_pushed}
use Rattle.ssr_names.proofs.words.Words.add_pattern.Goals as goal

pub returns-then-names_argument-clause-collected : goal.returns-then-names_argument-clause-collected
returns-then-names_argument-clause-collected c =
    collects_argument c.args.tree.now c.args.node c.args.self.now (sym c.names_argument.ensures ∙ c.if-names_argument.true)

pub returns-in_default-clause-collected : goal.returns-in_default-clause-collected
returns-in_default-clause-collected c = collects_unnamed c.args.tree.now c.args.node c.args.self.now c.in_default.ensures

pub returns-in_default-asked-clause-collected : goal.returns-in_default-asked-clause-collected
returns-in_default-asked-clause-collected c =
    collects_unasked c.args.tree.now c.args.node c.in-Some.text.now c.in-Some.ensures c.args.self.now c.in_default-asked.ensures

pub returns-clause-collected : goal.returns-clause-collected
returns-clause-collected c =
    let tree = c.args.tree.now in
    IfOk-weaker c.push_binder.result _ _
    (λ _ pushed. collects_pushed tree c.args.node c.in-Some.text.now c.in-Some.ensures c.args.self.now c.push_binder.new.self c.in-Some-asked.name c.may_be_constant.result
    c.in-Some-asked.ensures (c.may_be_constant.ensures ∙ ap (may_be_constant (node_of tree c.args.node.node.0).children) c.bare.ensures) c.push_binder.ensures.asked pushed)
    c.push_binder.ensures.pushed

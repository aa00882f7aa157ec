use Rattle.std.proofs.Common.{sym, ap, ◌∙◌}
use Rattle.std.proofs.lemmas.Result.{IfOk-weaker}
use Rattle.ssr_syntax_kinds.specs.Kinds.{same_kind}
use Rattle.ssr_syntax_kinds.specs.declared.kinds.SyntaxKind.TheVariants as k
use Rattle.ssr_names.specs.Locals.{is_capital}
use Rattle.ssr_names.proofs.Collecting.{word_other, word_unasked, word_pushed}
use Rattle.ssr_names.proofs.words.Words.add_word.Goals as goal

pub returns-then-not-is-clause-collected : goal.returns-then-not-is-clause-collected
returns-then-not-is-clause-collected c =
    word_other c.args.tree.now c.args.node c.args.token.0 c.args.self.now
    (ap (λ kind. same_kind kind k.IDENT) (sym c.token_kind.ensures) ∙ sym c.is.ensures.same ∙ c.if-not-is.true)

pub returns-in_default-clause-collected : goal.returns-in_default-clause-collected
returns-in_default-clause-collected c =
    word_unasked c.args.tree.now c.args.node c.args.token.0 c.token_text-text.result.now c.token_text-text.ensures c.args.self.now c.in_default.ensures

pub returns-clause-collected : goal.returns-clause-collected
returns-clause-collected c =
    IfOk-weaker c.push_binder.result _ _
    (λ _ pushed. word_pushed c.args.tree.now c.args.node c.args.token.0 c.token_text-text.result.now c.token_text-text.ensures c.args.self.now c.push_binder.new.self
    c.in-Some.name c.is_capital.result c.in-Some.ensures (c.is_capital.ensures ∙ ap is_capital c.bare.ensures) c.push_binder.ensures.asked pushed)
    c.push_binder.ensures.pushed

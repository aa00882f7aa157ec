use Rattle.std.proofs.Common.{sym, ◌∙◌}
use Rattle.std.proofs.lemmas.Result.{err_from_is_err_and}
use Rattle.ide_ssr_rules.proofs.ReadingConstraints.{no_word, at_kind, at_unknown, at_deep, past_tells, past_reads, not_unopened, not_refused, not_unclosed, not_read}
use Rattle.ide_ssr_refusals.proofs.Shared.{tells_refusal}
use Rattle.ide_ssr_rules.proofs.constraints.+read_constraint.Goals as goal

pub returns-in_default : goal.returns-in_default
returns-in_default t c = tells_refusal _ _ _ (no_word c.args.left c.args.tokens.now c.in_default.ensures) c.told.ensures

pub returns-then-is_word : goal.returns-then-is_word
returns-then-is_word t c =
    rw (at_kind c.args.left c.args.tokens.now _ _ _ c.in-Some.ensures c.text-word.ensures (sym c.is_word.ensures ∙ c.if-is_word.true)) c.on_kind.ensures

pub returns-then-not-is_word : goal.returns-then-not-is_word
returns-then-not-is_word t c =
    tells_refusal _ _ _ (at_unknown c.args.left c.args.tokens.now _ _ _ c.in-Some.ensures c.text-word.ensures
    (sym c.is_word.ensures ∙ c.if-is_word.false) (sym c.is_word-2.ensures ∙ c.if-not-is_word.true)) c.told-then-not-is_word.ensures

pub returns-then-left-eq0 : goal.returns-then-left-eq0
returns-then-left-eq0 t c =
    tells_refusal _ _ _ (at_deep c.args.left c.args.tokens.now _ _ _ c.in-Some.ensures c.text-word.ensures c.if-left-eq0.true
    (sym c.is_word.ensures ∙ c.if-is_word.false) (sym c.is_word-2.ensures ∙ c.if-not-is_word.false)) c.told-then-left-eq0.ensures

pub returns-in_err-bracket : goal.returns-in_err-bracket
returns-in_err-bracket t c =
    let p = err_from_is_err_and c.from_residual.result c.from_residual.ensures.1 in
    rw (p.1, p.2) (past_tells c.args.left c.args.tokens.now _ _ _ c.in-Some.ensures c.text-word.ensures _ c.if-left-eq0.false
    (sym c.is_word.ensures ∙ c.if-is_word.false) (sym c.is_word-2.ensures ∙ c.if-not-is_word.false) (not_unopened _ _ _ c.in_err-bracket.ensures))

pub returns-in_err-negated : goal.returns-in_err-negated
returns-in_err-negated t c =
    let p = err_from_is_err_and c.from_residual-in_err-negated.result c.from_residual-in_err-negated.ensures.1 in
    rw (p.1, p.2) (past_tells c.args.left c.args.tokens.now _ _ _ c.in-Some.ensures c.text-word.ensures _ c.if-left-eq0.false
    (sym c.is_word.ensures ∙ c.if-is_word.false) (sym c.is_word-2.ensures ∙ c.if-not-is_word.false) (not_refused _ _ _ _ c.in_ok-bracket.ensures c.in_err-negated.ensures))

pub returns-in_err-bracket-2 : goal.returns-in_err-bracket-2
returns-in_err-bracket-2 t c =
    let p = err_from_is_err_and c.from_residual-in_err-bracket-2.result c.from_residual-in_err-bracket-2.ensures.1 in
    rw (p.1, p.2) (past_tells c.args.left c.args.tokens.now _ _ _ c.in-Some.ensures c.text-word.ensures _ c.if-left-eq0.false
    (sym c.is_word.ensures ∙ c.if-is_word.false) (sym c.is_word-2.ensures ∙ c.if-not-is_word.false)
    (not_unclosed _ _ _ _ _ c.in_ok-bracket.ensures c.in_ok-negated.ensures c.in_err-bracket-2.ensures))

pub returns : goal.returns
returns t c =
    past_reads c.args.left c.args.tokens.now _ _ _ c.in-Some.ensures c.text-word.ensures _ c.if-left-eq0.false
    (sym c.is_word.ensures ∙ c.if-is_word.false) (sym c.is_word-2.ensures ∙ c.if-not-is_word.false)
    (not_read _ _ _ _ _ _ c.in_ok-bracket.ensures c.in_ok-negated.ensures c.in_ok-bracket-2.ensures c.contrary.ensures.value)

use Rattle.std.proofs.Common.{sym, ◌∙◌}
use Rattle.std.proofs.lemmas.Result.{err_from_is_err_and}
use Rattle.ide_ssr_rules.proofs.ReadingConstraints.{kind_unopened, kind_unnamed, kind_unclosed, kind_known, kind_unknown}
use Rattle.ide_ssr_refusals.proofs.Shared.{tells_refusal}
use Rattle.ide_ssr_rules.proofs.constraints.on_kind.Goals as goal

pub returns-in_err-bracket : goal.returns-in_err-bracket
returns-in_err-bracket c =
    let p = err_from_is_err_and c.from_residual.result c.from_residual.ensures.1 in
    rw (p.1, p.2) (kind_unopened c.args.tokens.now _ c.in_err-bracket.ensures)

pub returns-in_err-name : goal.returns-in_err-name
returns-in_err-name c =
    let p = err_from_is_err_and c.from_residual-in_err-name.result c.from_residual-in_err-name.ensures.1 in
    rw (p.1, p.2) (kind_unnamed c.args.tokens.now _ _ c.in_ok-bracket.ensures c.in_err-name.ensures)

pub returns-in_err-bracket-2 : goal.returns-in_err-bracket-2
returns-in_err-bracket-2 c =
    let p = err_from_is_err_and c.from_residual-in_err-bracket-2.result c.from_residual-in_err-bracket-2.ensures.1 in
    rw (p.1, p.2) (kind_unclosed c.args.tokens.now _ _ _ c.in_ok-bracket.ensures c.in_ok-name.ensures c.in_err-bracket-2.ensures)

pub returns-then-not-is_word : goal.returns-then-not-is_word
returns-then-not-is_word c =
    tells_refusal _ _ _ (kind_unknown c.args.tokens.now _ _ _ c.in_ok-bracket.ensures c.in_ok-name.ensures c.in_ok-bracket-2.ensures
    (sym c.is_word.ensures ∙ c.if-not-is_word.true)) c.told.ensures

pub returns : goal.returns
returns c =
    kind_known c.args.tokens.now _ _ _ c.in_ok-bracket.ensures c.in_ok-name.ensures c.in_ok-bracket-2.ensures
    (sym c.is_word.ensures ∙ c.if-not-is_word.false)

use Rattle.std.proofs.Common.{subst}
use Rattle.std.proofs.lemmas.Result.{err_from_is_err_and}
use Rattle.ssr_syntax_kinds.specs.declared.reach.Reach.{Reach}
use Rattle.ide_ssr_refusals.specs.Refusals.{TellsOf}
use Rattle.ide_ssr_rules.specs.Rules.{once_reading_of, rule_reading, rule_reading_of}
use Rattle.ssr_searching.proofs.Telling.{tells_rule, adds_rule, each_read, once_read}
use Rattle.ssr_searching.proofs.searching.add_rule.Goals as goal

pub returns-in_err-rule : goal.returns-in_err-rule
returns-in_err-rule g c =
    let p = err_from_is_err_and c.from_residual.result c.from_residual.ensures.1 in
    let told = subst (λ (reach : Reach). TellsOf c.in_err-rule.field-0.0 (rule_reading_of reach c.args.text.now)) c.reach.ensures c.in_err-rule.ensures.reads in
    rw (p.1, p.2) (tells_rule _ _ c.in_err-rule.field-0.0 c.args.kinds c.args.text.now told)

pub returns-in-Each : goal.returns-in-Each
returns-in-Each g c =
    let read = each_read c.args.text.now c.in_ok-rule.rule c.args.kinds c.reach.result c.reach.ensures c.in-Each.is c.in_ok-rule.ensures.reads in
    rw c.in-Each.is (adds_rule _ _ rule_reading _ _ _ _ _ read c.add_rule.ensures.answer)

pub returns-in-Once : goal.returns-in-Once
returns-in-Once g c =
    let read = once_read c.args.text.now c.in_ok-rule.rule c.args.kinds c.reach.result c.in-Once.field-0 c.reach.ensures c.in-Once.is c.in_ok-rule.ensures.reads in
    rw c.in-Once.is (adds_rule _ _ (once_reading_of c.in-Once.field-0) _ _ _ _ _ read c.add_rule_once.ensures.answer)

use Rattle.std.proofs.Common.{◌<◌, [], length, map, string_bytes, sym, ap, ◌∙◌}
use Rattle.std.proofs.lemmas.Result.{err_from_is_err_and}
use Rattle.std.proofs.lemmas.List.{get_or-map, length-map}
use Rattle.ssr_searching.specs.Private.Searching.{reading_of}
use Rattle.ssr_searching.proofs.Telling.{adds_more, refuses_more}
use Rattle.ssr_searching.proofs.searching.add_rules.Goals as goal

pub returns-in_err-add_rule : goal.returns-in_err-add_rule
returns-in_err-add_rule g c =
    let p = err_from_is_err_and c.from_residual.result c.from_residual.ensures.1 in
    let less : c.loop-rule.rule-index < length (map string_bytes c.args.rules.now) = rw length-map c.loop-rule-test.true in
    rw (p.1, p.2) (refuses_more g.S.Semantics.meanings (reading_of c.args.kinds) _ _ _ _ less _ c.loop-rule.invariant.1 c.loop-rule.invariant.2 c.as_str.result.now
    (c.as_str.ensures.value ∙ ap string_bytes c.rule-item.is ∙ sym (get_or-map string_bytes c.args.rules.now c.loop-rule.rule-index c.rule-item.result [] c.loop-rule-test.true))
    c.in_err-add_rule.field-0.0 c.in_err-add_rule.ensures)

pub loop-rule-preserved : goal.loop-rule-preserved
loop-rule-preserved g c =
    let less : c.loop-rule.rule-index < length (map string_bytes c.args.rules.now) = rw length-map c.loop-rule-test.true in
    adds_more g.S.Semantics.meanings (reading_of c.args.kinds) _ _ _ _ less _ c.loop-rule.invariant.1 c.loop-rule.invariant.2 c.as_str.result.now
    (c.as_str.ensures.value ∙ ap string_bytes c.rule-item.is ∙ sym (get_or-map string_bytes c.args.rules.now c.loop-rule.rule-index c.rule-item.result [] c.loop-rule-test.true))
    _ c.in_ok-add_rule.ensures

use Rattle.std.proofs.Common.{◌<◌, [], length, map, string_bytes, sym, ap, ◌∙◌}
use Rattle.std.proofs.lemmas.List.{get_or-map, length-map}
use Rattle.ssr_changes.proofs.Texts.{adds_more}
use Rattle.ssr_changes.proofs.finding.add_all.Goals as goal

pub loop-number-preserved : goal.loop-number-preserved
loop-number-preserved g c =
    let texts = map string_bytes c.args.texts.now in
    let less : c.loop-number.number < length texts = rw length-map c.loop-number-test.true in
    adds_more g.S.Semantics.meanings c.args.form texts c.loop-number.number less c.as_str-text.result.now
    (c.as_str-text.ensures.value ∙ ap string_bytes c.index-texts-number.is
    ∙ sym (get_or-map string_bytes c.args.texts.now c.loop-number.number c.index-texts-number.result [] c.loop-number-test.true))
    c.args.finder.now c.loop-number.finder c.add.new.finder c.loop-number.owners.items c.push_times.new.numbers.items c.in_ok-times.times
    c.loop-number.invariant c.in_ok-times.ensures c.in_ok-push_times.ensures c.in_ok-add.ensures

use Rattle.std.proofs.Common.{◌≡◌, ◌<◌, ◌∙◌, get_or, length, refl, sym, None, arith}
use Rattle.std.proofs.lemmas.List.{get_or_default, length-set}
use Rattle.ide_ssr_rewriting.proofs.Taken.{list-more, others-more}
use Rattle.ide_ssr_rewriting.proofs.editing.take_list.Goals as goal

pub loop-place-preserved : goal.loop-place-preserved
loop-place-preserved c =
    let places = c.args.places.now in
    let i = c.loop-place.place-index in
    let cur = c.loop-place.texts.items in
    let p = get_or places i 0 in
    let lt : i < length places = c.loop-place-test.true in
    let within : p < length cur = let h = c.requires.within i 0 lt in let k = c.loop-place.invariant.counted in let n = c.requires.counted in omega arith in
    let at : c.index_mut.result.now ≡ get_or cur p c.index_mut.result.now = c.index_mut.ensures.value in
    let taken : c.take-text.result ≡ c.index_mut.result.now = c.take-text.ensures.value in
    record {
      list = list-more c.args.kept.now places i p c.args.texts.now.items cur c.loop-place.list.items c.push.new.self.items c.new.result c.take-text.result
          lt refl c.requires.once c.loop-place.invariant.list c.loop-place.invariant.others
          (get_or_default cur p None c.index_mut.result.now within ∙ (sym at ∙ sym taken))
          (c.new.ensures.range ∙ c.range_at.ensures) c.new.ensures.text c.in_ok-push.ensures.items;
      others = others-more places i p c.args.texts.now.items cur c.take-text.new.self lt refl c.loop-place.invariant.others;
      counted = length-set cur p c.take-text.new.self ∙ c.loop-place.invariant.counted;
    }

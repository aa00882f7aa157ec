use Rattle.std.proofs.Common.{◌≡◌, ℕ, ◌+◌, ◌<◌, Vec, String, List, [], ◌∷◌, ◌++◌, length, map, get_or, drop, sym, ◌∙◌, ap, subst, arith}
use Rattle.std.specs.Prelude.{not, take}
use Rattle.std.specs.Global.{Global}
use Rattle.std.specs.List.{All}
use Rattle.std.proofs.lemmas.List.{length-map, map-append, take_all}
use Rattle.ssr_syntax_kinds.specs.declared.range.TextRange.{TextRange}
use Rattle.ssr_base_trees.specs.Changes.{Change, ChangesInOrder, FitsText}
use Rattle.ssr_base_trees.specs.Applied.{change_of, changes_of}
use Rattle.ssr_base_trees.specs.Origins.{Span, span_of}
use Rattle.ssr_base_trees.proofs.Changes.{change_at, changes_from, shown}
use Rattle.ssr_set_aside.specs.Sparing.{touches_aside, spared, bounds}
use Rattle.ssr_set_aside.specs.Private.Sparing.{begins_before}
use Rattle.ssr_set_aside.proofs.Left.{left_behind, touches_first, spared_same, spared_more, told_same, told_more, changes_more, order-filter}
use Rattle.ssr_set_aside.proofs.Places.{fit-spared}
use Rattle.ssr_set_aside.proofs.sparing.spare.Goals as goal
use Rattle.ssr_set_aside.proofs.sparing.spare.Goals.{then-begins_before+in_ok-push, else-begins_before+in_ok-from_str+in_ok-push-2}

pub loop-range-preserved : goal.loop-range-preserved
loop-range-preserved c =
    let aside : List Span = c.args.reaches.now in
    let pairs = c.as_slice-range-items.result.now in
    let cs : List Change = changes_of pairs in
    let i : ℕ = c.loop-range.range-index in
    let d : Change = change_of c.loop-range-item.result in
    let from : drop i cs ≡ d ∷ drop (i + 1) cs = changes_from pairs i c.loop-range-item.result c.loop-range-test.true c.loop-range-item.is in
    let here : get_or cs i d ≡ d = change_at pairs i c.loop-range-item.result d c.loop-range-test.true c.loop-range-item.is in
    let less : i < length cs = omega (arith, length-map pairs change_of) in
    let place = c.loop-range.invariant.place in
    let order : ChangesInOrder place.0 (d ∷ drop (i + 1) cs) = subst (ChangesInOrder place.0) from place.1 in
    let touched : touches_aside aside d ≡ c.begins_before.result =
    touches_first aside (map span_of c.loop-range.left.now) place.0 d (drop (i + 1) cs) order place.2
    ∙ ap (begins_before d.end) (sym c.behind-left.ensures) ∙ sym c.begins_before.ensures in
    record {
      made =
          elim c.if-begins_before.branch [
            | then-begins_before+in_ok-push w ↦
                ap (λ (v : Vec (TextRange × String Global) Global). changes_of v.items) w.made-is ∙ c.loop-range.invariant.made
                ∙ sym (spared_same aside cs i d less here (touched ∙ w.if-begins_before.true))
            | else-begins_before+in_ok-from_str+in_ok-push-2 w ↦
                ap (λ (v : Vec (TextRange × String Global) Global). changes_of v.items) w.made-is
                ∙ changes_more c.loop-range.made.items _ c.loop-range-item.result.0 _ c.loop-range-item.result.1 _ w.in_ok-push-2.ensures.items w.in_ok-from_str.ensures.ok w.as_str.ensures.value
                ∙ ap (λ (xs : List Change). xs ++ d ∷ []) c.loop-range.invariant.made
                ∙ sym (spared_more aside cs i d less here (touched ∙ w.if-begins_before.false))
          ];
      told =
          elim c.if-begins_before.branch [
            | then-begins_before+in_ok-push w ↦
                ap (λ (v : Vec TextRange Global). map bounds v.items) w.told-is
                ∙ ap (map bounds) w.in_ok-push.ensures.items ∙ map-append bounds c.loop-range.told.items (c.loop-range-item.result.0 ∷ [])
                ∙ ap (λ (xs : List (ℕ × ℕ)). xs ++ bounds c.loop-range-item.result.0 ∷ []) c.loop-range.invariant.told
                ∙ sym (told_more aside cs i d less here (touched ∙ w.if-begins_before.true))
            | else-begins_before+in_ok-from_str+in_ok-push-2 w ↦
                ap (λ (v : Vec TextRange Global). map bounds v.items) w.told-is ∙ c.loop-range.invariant.told
                ∙ sym (told_same aside cs i d less here (touched ∙ w.if-begins_before.false))
          ];
      place = (
        d.end,
        order.2,
        rw c.behind-left.ensures (left_behind aside (map span_of c.loop-range.left.now) place.0 d (drop (i + 1) cs) order place.2),
      );
    }

pub new-requires : goal.new-requires
new-requires c =
    let pairs = c.as_slice-range-items.result.now in
    let cs : List Change = changes_of pairs in
    let order : ChangesInOrder 0 cs =
    subst (ChangesInOrder 0) (sym (shown c.as_slice-range-items.ensures.value c.iter.ensures.items)) c.iter.ensures.order in
    let all : take c.loop-range.range-index cs ≡ cs = take_all c.loop-range.range-index cs (omega (arith, length-map pairs change_of)) in
    subst (ChangesInOrder 0) (sym (c.loop-range.invariant.made ∙ ap (spared c.args.reaches.now) all))
    (order-filter (λ d. not (touches_aside c.args.reaches.now d)) 0 cs order)

pub returns-clause-fits : goal.returns-clause-fits
returns-clause-fits c = λ text made same is fit.
    let pairs = c.as_slice-range-items.result.now in
    let cs : List Change = changes_of pairs in
    let all : take c.loop-range.range-index cs ≡ cs = take_all c.loop-range.range-index cs (omega (arith, length-map pairs change_of)) in
    subst (All (FitsText text))
    (sym (c.new.ensures ∙ c.loop-range.invariant.made
    ∙ ap (spared c.args.reaches.now) (all ∙ shown c.as_slice-range-items.ensures.value c.iter.ensures.items)))
    (subst (λ (reaches : List Span). All (FitsText text) (spared reaches c.args.edit)) same
    (fit-spared text made is 0 c.args.edit c.iter.ensures.order fit))

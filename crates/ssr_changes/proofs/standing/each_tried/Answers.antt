use Rattle.std.proofs.Common.{◌≡◌, ℕ, Vec, Option, String, List, map, string_bytes, sym, ◌∙◌, ap, subst, arith}
use Rattle.std.specs.Prelude.{take}
use Rattle.std.specs.Option.{option_map}
use Rattle.std.specs.Global.{Global}
use Rattle.std.specs.List.{filter_map}
use Rattle.std.proofs.lemmas.List.{length-map, take_all}
use Rattle.ssr_syntax_kinds.specs.declared.range.TextRange.{TextRange}
use Rattle.ssr_syntax_tree.specs.Syntax.{source_of}
use Rattle.ssr_base_trees.specs.Changes.{Change, ChangesInOrder}
use Rattle.ssr_base_trees.specs.Applied.{change_of, changes_of}
use Rattle.ssr_base_trees.proofs.Changes.{fits_here, shown}
use Rattle.ssr_set_aside.specs.Sparing.{bounds}
use Rattle.ssr_standing.specs.Fitted.{change_with}
use Rattle.ssr_standing.specs.Near.{stands_by}
use Rattle.ssr_changes.specs.Private.Standing.{tell}
use Rattle.ssr_changes.proofs.Standings.{made_more, made_stays, order_tried, unread_more, unread_stays}
use Rattle.ssr_changes.proofs.standing.each_tried.Goals as goal
use Rattle.ssr_changes.proofs.standing.each_tried.Goals.{in-Some+in_ok-push-in-Some, in-None+in_ok-push-in-None}

pub text_tried-requires : goal.text_tried-requires
text_tried-requires c =
    let pairs = c.as_slice-range-items.result.now in
    let item = c.loop-range-item.result in
    let source = source_of c.args.file.now.tree.now in
    fits_here source pairs c.args.edit.now c.loop-range.range-index item c.loop-range-test.true c.loop-range-item.is
    (shown c.as_slice-range-items.ensures.value c.iter.ensures.items) c.requires

pub loop-range-preserved : goal.loop-range-preserved
loop-range-preserved c =
    let pairs = c.as_slice-range-items.result.now in
    let i : ℕ = c.loop-range.range-index in
    let item = c.loop-range-item.result in
    let h = c.loop-range-test.true in
    let e = c.loop-range-item.is in
    let told : Option (String Global) = c.in_ok-text.field-0 in
    let told_by : Change → Option Change = tell c.args.trial (stands_by c.args.file.now.trees.now c.args.file.now.number) in
    let is : option_map (change_with item.0) (option_map string_bytes told) ≡ told_by (change_of item) =
    c.in_ok-text.ensures ∙ ap (λ (text : List ℕ). told_by (change_with item.0 text)) c.as_str.ensures.value in
    elim c.match-branch-2.branch [
      | in-Some+in_ok-push-in-Some w ↦ record {
        made =
            ap (λ (v : Vec (TextRange × String Global) Global). changes_of v.items) w.made-is
            ∙ made_more told_by pairs i item h e told is w.in-Some.text w.in-Some.is c.loop-range.made.items _ w.in_ok-push-in-Some.ensures.items
            c.loop-range.invariant.made;
        unread =
            ap (λ (v : Vec TextRange Global). map bounds v.items) w.unread-is
            ∙ unread_stays told_by pairs i item h e told is w.in-Some.text w.in-Some.is c.loop-range.unread.items c.loop-range.invariant.unread;
      }
      | in-None+in_ok-push-in-None w ↦ record {
        made =
            ap (λ (v : Vec (TextRange × String Global) Global). changes_of v.items) w.made-is
            ∙ made_stays told_by pairs i item h e told is w.in-None.is c.loop-range.made.items c.loop-range.invariant.made;
        unread =
            ap (λ (v : Vec TextRange Global). map bounds v.items) w.unread-is
            ∙ unread_more told_by pairs i item h e told is w.in-None.is c.loop-range.unread.items _ w.in_ok-push-in-None.ensures.items
            c.loop-range.invariant.unread;
      }
    ]

pub new-requires : goal.new-requires
new-requires c =
    let pairs = c.as_slice-range-items.result.now in
    let cs : List Change = changes_of pairs in
    let told_by : Change → Option Change = tell c.args.trial (stands_by c.args.file.now.trees.now c.args.file.now.number) in
    let order : ChangesInOrder 0 cs =
    subst (ChangesInOrder 0) (sym (shown c.as_slice-range-items.ensures.value c.iter.ensures.items)) c.iter.ensures.order in
    let all : take c.loop-range.range-index cs ≡ cs = take_all c.loop-range.range-index cs (omega (arith, length-map pairs change_of)) in
    subst (ChangesInOrder 0) (sym (c.loop-range.invariant.made ∙ ap (filter_map told_by) all))
    (order_tried c.args.trial (stands_by c.args.file.now.trees.now c.args.file.now.number) 0 cs order)

use Rattle.std.proofs.Common.{◌≡◌, ◌∙◌, ◌<◌, ◌∷◌, ◌++◌, [], Bool, List, ℕ, Option, String, Vec, Some, None, ap, arith, get_or, length, map, string_bytes, subst, sym, take}
use Rattle.std.specs.Global.{Global}
use Rattle.std.specs.List.{filter_map}
use Rattle.std.specs.Option.{option_map, unwrap_or}
use Rattle.std.proofs.lemmas.List.{length-map, take_all}
use Rattle.ssr_syntax_kinds.specs.declared.range.TextRange.{TextRange}
use Rattle.ssr_syntax_tree.specs.Syntax.{source_of}
use Rattle.ssr_base_trees.specs.Applied.{change_of, changes_of}
use Rattle.ssr_base_trees.specs.Changes.{Change, ChangesInOrder}
use Rattle.ssr_base_trees.proofs.Changes.{change_at, fits_here, shown}
use Rattle.ssr_standing.specs.Fitted.{change_with}
use Rattle.ssr_standing.specs.Near.{settled, stands_by}
use Rattle.ssr_standing.specs.declared.fitted.Judge.{Judge}
use Rattle.ssr_standing.proofs.Shared.{order_all, order_told, settled_in_place, text_behind, told_more, untold_more}
use Rattle.ide_ssr_rewriting.specs.Fitting.{as_told}
use Rattle.ide_ssr_rewriting.proofs.Fittings.{one_fitted}
use Rattle.ide_ssr_rewriting.proofs.files.each_settled.Goals as goal
use Rattle.ide_ssr_rewriting.proofs.files.each_settled.Goals.{in-Some+in_ok-from_str-in-Some+in_ok-push-in-Some+in_ok-push-in-Some-2, in-None+in_ok-from_str-in-None+in_ok-push-in-None}

pub settled-requires : goal.settled-requires
settled-requires c =
    fits_here (source_of c.args.file.now.tree.now) c.as_slice-range-items.result.now c.args.edit.now c.loop-range.range-index c.loop-range-item.result
    c.loop-range-test.true c.loop-range-item.is (shown c.as_slice-range-items.ensures.value c.iter.ensures.items) c.requires

pub loop-range-preserved : goal.loop-range-preserved
loop-range-preserved c =
    let pairs = c.as_slice-range-items.result.now in
    let cs : List Change = changes_of pairs in
    let i : ℕ = c.loop-range.range-index in
    let item = c.loop-range-item.result in
    let d : Change = change_of item in
    let its : get_or cs i d ≡ d = change_at pairs i item d c.loop-range-test.true c.loop-range-item.is in
    let less : i < length cs = omega (arith, length-map pairs change_of) in
    let tell : Change → Option Change = settled (stands_by c.args.file.now.trees.now c.args.file.now.number) in
    let is : option_map (change_with item.0) (option_map string_bytes c.in_ok-new.field-0) ≡ tell d =
    c.in_ok-new.ensures ∙ ap (λ (text : List ℕ). tell (change_with item.0 text)) c.as_str.ensures.value in
    elim c.match-branch-2.branch [
      | in-Some+in_ok-from_str-in-Some+in_ok-push-in-Some+in_ok-push-in-Some-2 w ↦
          let new : String Global = w.in-Some.new in
          let copy : String Global = w.in_ok-from_str-in-Some.field-0 in
          let told : Some (change_of (item.0, new)) ≡ tell d =
          subst (λ (o : Option (String Global)). option_map (change_with item.0) (option_map string_bytes o) ≡ tell d) w.in-Some.is is in
          let copied : change_of (item.0, copy) ≡ change_of (item.0, new) =
          ap (change_with item.0) (w.in_ok-from_str-in-Some.ensures.ok ∙ w.as_str-in-Some.ensures.value) in
          record {
            all =
                ap (λ (v : Vec (TextRange × String Global) Global). changes_of v.items) w.all-is
                ∙ one_fitted (as_told tell) pairs i item new c.loop-range.all.items _ c.loop-range-test.true c.loop-range-item.is
                w.in_ok-push-in-Some-2.ensures.items (ap (λ (o : Option Change). unwrap_or o d) told) c.loop-range.invariant.all;
            standing =
                ap (λ (v : Vec (TextRange × String Global) Global). changes_of v.items) w.standing-is
                ∙ text_behind c.loop-range.standing.items _ item.0 copy w.in_ok-push-in-Some.ensures.items
                ∙ ap (λ (xs : List Change). xs ++ change_of (item.0, copy) ∷ []) c.loop-range.invariant.standing
                ∙ ap (λ (x : Change). filter_map tell (take i cs) ++ x ∷ []) copied
                ∙ told_more tell cs i d less its (change_of (item.0, new)) told;
          }
      | in-None+in_ok-from_str-in-None+in_ok-push-in-None w ↦
          let copy : String Global = w.in_ok-from_str-in-None.field-0 in
          let told : None ≡ tell d =
          subst (λ (o : Option (String Global)). option_map (change_with item.0) (option_map string_bytes o) ≡ tell d) w.in-None.is is in
          let copied : change_of (item.0, copy) ≡ d = ap (change_with item.0) (w.in_ok-from_str-in-None.ensures.ok ∙ w.as_str-in-None.ensures.value) in
          record {
            all =
                ap (λ (v : Vec (TextRange × String Global) Global). changes_of v.items) w.all-is
                ∙ one_fitted (as_told tell) pairs i item copy c.loop-range.all.items _ c.loop-range-test.true c.loop-range-item.is
                w.in_ok-push-in-None.ensures.items (copied ∙ ap (λ (o : Option Change). unwrap_or o d) told) c.loop-range.invariant.all;
            standing =
                ap (λ (v : Vec (TextRange × String Global) Global). changes_of v.items) w.standing-is ∙ c.loop-range.invariant.standing
                ∙ untold_more tell cs i d less its told;
          }
    ]

-- all of them, as they are settled
pub new-requires : goal.new-requires
new-requires c =
    let pairs = c.as_slice-range-items.result.now in
    let cs : List Change = changes_of pairs in
    let by : Judge → Change → Bool = stands_by c.args.file.now.trees.now c.args.file.now.number in
    let order : ChangesInOrder 0 cs =
    subst (ChangesInOrder 0) (sym (shown c.as_slice-range-items.ensures.value c.iter.ensures.items)) c.iter.ensures.order in
    let all : take c.loop-range.range-index cs ≡ cs = take_all c.loop-range.range-index cs (omega (arith, length-map pairs change_of)) in
    subst (ChangesInOrder 0) (sym (c.loop-range.invariant.all ∙ ap (map (as_told (settled by))) all))
    (order_all (settled by) (settled_in_place by) 0 cs order)

-- and those that are
pub new-requires-2 : goal.new-requires-2
new-requires-2 c =
    let pairs = c.as_slice-range-items.result.now in
    let cs : List Change = changes_of pairs in
    let by : Judge → Change → Bool = stands_by c.args.file.now.trees.now c.args.file.now.number in
    let order : ChangesInOrder 0 cs =
    subst (ChangesInOrder 0) (sym (shown c.as_slice-range-items.ensures.value c.iter.ensures.items)) c.iter.ensures.order in
    let all : take c.loop-range.range-index cs ≡ cs = take_all c.loop-range.range-index cs (omega (arith, length-map pairs change_of)) in
    subst (ChangesInOrder 0) (sym (c.loop-range.invariant.standing ∙ ap (filter_map (settled by)) all))
    (order_told (settled by) (settled_in_place by) 0 cs order)

use Rattle.std.proofs.Common.{◌∙◌, List, ℕ, ap, arith, map, subst, sym}
use Rattle.std.proofs.lemmas.List.{length-map, take_all}
use Rattle.ssr_syntax_tree.specs.Syntax.{source_of}
use Rattle.ssr_base_trees.specs.Applied.{change_of, changes_of}
use Rattle.ssr_base_trees.specs.Changes.{Change, ChangesInOrder}
use Rattle.ssr_base_trees.proofs.Changes.{fits_here, shown}
use Rattle.ssr_standing.specs.Near.{stands_by}
use Rattle.ssr_standing.specs.declared.fitted.Judge.TheVariants as judges
use Rattle.ssr_standing.proofs.Shared.{fitted_in_place, order_all}
use Rattle.ssr_standing.specs.Fitted.{change_with, if_fitted}
use Rattle.ide_ssr_rewriting.specs.Fitting.{fitted_alone}
use Rattle.ide_ssr_rewriting.proofs.Fittings.{one_fitted}
use Rattle.ide_ssr_rewriting.proofs.files.each_fitted.Goals as goal

pub fitted-requires : goal.fitted-requires
fitted-requires c =
    fits_here (source_of c.args.file.now.tree.now) c.as_slice-range-items.result.now c.args.edit.now c.loop-range.range-index c.loop-range-item.result
    c.loop-range-test.true c.loop-range-item.is (shown c.as_slice-range-items.ensures.value c.iter.ensures.items) c.requires

pub loop-range-preserved : goal.loop-range-preserved
loop-range-preserved c =
    let item = c.loop-range-item.result in
    let fit : Change → Change = fitted_alone (stands_by c.args.file.now.trees.now c.args.file.now.number judges.File) in
    one_fitted fit c.as_slice-range-items.result.now c.loop-range.range-index item c.in_ok-fit.fit c.loop-range.changes.items c.push.new.self.items
    c.loop-range-test.true c.loop-range-item.is c.in_ok-push.ensures.items
    (c.in_ok-fit.ensures ∙ ap (λ (text : List ℕ). fit (change_with item.0 text)) c.as_str.ensures.value) c.loop-range.invariant

-- all of them
made : goal.new-requires
made c =
    let pairs = c.as_slice-range-items.result.now in
    let stands = stands_by c.args.file.now.trees.now c.args.file.now.number judges.File in
    subst (ChangesInOrder 0) (sym (c.loop-range.invariant ∙ ap (map (fitted_alone stands)) (take_all c.loop-range.range-index (changes_of pairs) (omega (arith, length-map pairs change_of)))))
    (order_all (if_fitted stands) (fitted_in_place stands) 0 (changes_of pairs) (subst (ChangesInOrder 0) (sym (shown c.as_slice-range-items.ensures.value c.iter.ensures.items)) c.iter.ensures.order))

pub new-requires : goal.new-requires
new-requires c = made c

pub returns : goal.returns
returns c =
    let pairs = c.as_slice-range-items.result.now in
    let stands = stands_by c.args.file.now.trees.now c.args.file.now.number judges.File in
    c.new.ensures ∙ c.loop-range.invariant
    ∙ ap (map (fitted_alone stands)) (take_all c.loop-range.range-index (changes_of pairs) (omega (arith, length-map pairs change_of))
    ∙ shown c.as_slice-range-items.ensures.value c.iter.ensures.items)

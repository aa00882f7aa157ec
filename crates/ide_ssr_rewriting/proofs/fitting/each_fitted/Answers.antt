use Rattle.std.proofs.Common.{◌∙◌, ap, arith, List, ℕ, map, subst, sym}
use Rattle.std.proofs.lemmas.List.{length-map, take_all}
use Rattle.ssr_base_trees.specs.Applied.{change_of, changes_of}
use Rattle.ssr_base_trees.specs.Changes.{Change}
use Rattle.ssr_standing.specs.Fitted.{change_with}
use Rattle.ssr_standing.specs.Parts.{FitsPart}
use Rattle.ide_ssr_rewriting.specs.Fitting.{fitted_alone}
use Rattle.ide_ssr_rewriting.specs.Private.Fitting.{stands_alone}
use Rattle.ide_ssr_rewriting.proofs.Fittings.{fits_here, one_fitted}
use Rattle.ide_ssr_rewriting.proofs.fitting.each_fitted.Goals as goal

pub fitted_alone-requires : goal.fitted_alone-requires
fitted_alone-requires c =
    let part = c.args.part.now in
    let item = c.loop-range-item.result in
    subst (λ (text : List ℕ). FitsPart part.text.now part.range (change_with item.0 text)) (sym c.as_str.ensures.value)
    (fits_here part.text.now part.range c.args.changes.now c.loop-range.range-index item c.loop-range-test.true c.loop-range-item.is c.requires)

pub loop-range-preserved : goal.loop-range-preserved
loop-range-preserved c =
    let item = c.loop-range-item.result in
    let fit : Change → Change = fitted_alone (stands_alone c.args.part.now) in
    one_fitted fit c.args.changes.now c.loop-range.range-index item c.in_ok-fit.fit c.loop-range.fitted.items c.push.new.self.items
    c.loop-range-test.true c.loop-range-item.is c.in_ok-push.ensures.items
    (c.in_ok-fit.ensures ∙ ap (λ (text : List ℕ). fit (change_with item.0 text)) c.as_str.ensures.value) c.loop-range.invariant

pub returns : goal.returns
returns c =
    c.loop-range.invariant
    ∙ ap (map (fitted_alone (stands_alone c.args.part.now)))
    (take_all c.loop-range.range-index (changes_of c.args.changes.now) (omega (arith, length-map c.args.changes.now change_of)))

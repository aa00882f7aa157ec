use Rattle.std.proofs.Common.{◌≡◌, ◌∙◌, ◌<◌, ◌≤◌, List, ℕ, String, ap, get_or, length, map, subst, sym, take, arith}
use Rattle.std.specs.Prelude.{All, slice_range}
use Rattle.std.specs.Global.{Global}
use Rattle.std.proofs.lemmas.List.{length-map, take_all}
use Rattle.ssr_syntax_kinds.specs.declared.range.TextRange.{TextRange}
use Rattle.ssr_syntax_tree.specs.Syntax.{source_of}
use Rattle.ssr_base_trees.specs.Applied.{change_of, changes_of}
use Rattle.ssr_base_trees.specs.Changes.{Change, ChangesInOrder, FitsText}
use Rattle.ssr_base_trees.proofs.Changes.{fits_here, shown}
use Rattle.ssr_standing.specs.Expansions.{as_it_is}
use Rattle.ssr_standing.proofs.Spelled.{one_same, same_order}
use Rattle.ssr_standing.proofs.expansions.as_they_are.Goals as goal

-- a change fits a text that is the tree's
fits_same : (text source : List ℕ) (pairs : List (TextRange × String Global)) (cs : List Change) (i : ℕ) (pair : TextRange × String Global)
    → text ≡ source → i < length pairs → pair ≡ get_or pairs i pair → changes_of pairs ≡ cs → All (FitsText source) cs → FitsText text (change_of pair)
fits_same text source pairs cs i pair same within at is fit =
    subst (λ (t : List ℕ). FitsText t (change_of pair)) (sym same) (fits_here source pairs cs i pair within at is fit)

-- behind the last one all are there
all_same : (source : List ℕ) (pairs : List (TextRange × String Global)) (made cs : List Change) (n : ℕ)
    → made ≡ map (as_it_is source) (take n (changes_of pairs)) → length pairs ≤ n → changes_of pairs ≡ cs → made ≡ map (as_it_is source) cs
all_same source pairs made cs n so all is =
    so ∙ ap (map (as_it_is source)) (take_all n (changes_of pairs) (omega (arith, length-map pairs change_of)) ∙ is)

pub range-text-requires-clause-start_boundary : goal.range-text-requires-clause-start_boundary
range-text-requires-clause-start_boundary c = λ _.
    (fits_same c.source.result.now (source_of c.args.file.now) c.as_slice-range-items.result.now c.args.edit.now c.loop-range.range-index c.loop-range-item.result
    c.source.ensures c.loop-range-test.true c.loop-range-item.is (shown c.as_slice-range-items.ensures.value c.iter.ensures.items) c.requires).0

pub range-text-requires-clause-end_boundary : goal.range-text-requires-clause-end_boundary
range-text-requires-clause-end_boundary c =
    (fits_same c.source.result.now (source_of c.args.file.now) c.as_slice-range-items.result.now c.args.edit.now c.loop-range.range-index c.loop-range-item.result
    c.source.ensures c.loop-range-test.true c.loop-range-item.is (shown c.as_slice-range-items.ensures.value c.iter.ensures.items) c.requires).1

pub loop-range-preserved : goal.loop-range-preserved
loop-range-preserved c =
    one_same (source_of c.args.file.now) c.as_slice-range-items.result.now c.loop-range.range-index c.loop-range-item.result c.loop-range.changes.items
    c.push.new.self.items c.in_ok-from_str.field-0 c.loop-range-test.true c.loop-range-item.is c.in_ok-push.ensures.items
    (c.in_ok-from_str.ensures.ok ∙ c.range-text.ensures.value
    ∙ ap (λ (text : List ℕ). slice_range text c.loop-range-item.result.0.start c.loop-range-item.result.0.end) c.source.ensures)
    c.loop-range.invariant

pub new-requires : goal.new-requires
new-requires c =
    subst (ChangesInOrder 0)
    (sym (all_same (source_of c.args.file.now) c.as_slice-range-items.result.now (changes_of c.loop-range.changes.items) c.args.edit.now c.loop-range.range-index
    c.loop-range.invariant (omega arith) (shown c.as_slice-range-items.ensures.value c.iter.ensures.items)))
    (same_order (source_of c.args.file.now) 0 c.args.edit.now c.iter.ensures.order)

pub returns : goal.returns
returns c =
    c.new.ensures
    ∙ all_same (source_of c.args.file.now) c.as_slice-range-items.result.now (changes_of c.loop-range.changes.items) c.args.edit.now c.loop-range.range-index
    c.loop-range.invariant (omega arith) (shown c.as_slice-range-items.ensures.value c.iter.ensures.items)

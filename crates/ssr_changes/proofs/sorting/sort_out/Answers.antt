use Rattle.std.proofs.Common.{◌≡◌, [], Global, arith}
use Rattle.std.specs.Vec.Iter.{into_iter_items}
use Rattle.std.proofs.lemmas.Grind.{common_steps}
use Rattle.std.proofs.lemmas.List.{nil_from_length}
use Rattle.ssr_package.specs.declared.source_file.SourceFile.{SourceFile}
use Rattle.ssr_changes.proofs.FileLists.{searched_length}
use Rattle.ssr_changes.proofs.Sorted.{all_sorted, are_few, are_read, are_searched, sorted_more}
use Rattle.ssr_changes.proofs.sorting.sort_out.Goals as goal

pub loop-file-preserved : goal.loop-file-preserved
loop-file-preserved c =
    let adds = c.in_ok-add.ensures in record {
      sorted = sorted_more _ _ _ _ _ _ c.in-Some.ensures.steps.0 adds c.loop-file.invariant.sorted;
      made = are_searched _ _ _ adds c.loop-file.invariant.made;
      read = are_read _ _ _ adds c.loop-file.invariant.read;
      few = are_few _ _ _ adds c.loop-file.invariant.few;
    }

pub returns-clause-sorted : goal.returns-clause-sorted
returns-clause-sorted c =
    let none : into_iter_items {X = SourceFile} {Z = Global} c.loop-file.file-iterator ≡ [] = grind (arith, common_steps, nil_from_length {X = SourceFile}) in
    all_sorted c.args.files.items (into_iter_items {X = SourceFile} {Z = Global} c.loop-file.file-iterator) c.loop-file.sorted none c.loop-file.invariant.sorted

pub returns-clause-few : goal.returns-clause-few
returns-clause-few c =
    omega (arith, searched_length _ _ c.loop-file.invariant.made, c.loop-file.invariant.few)

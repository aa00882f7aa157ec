use Rattle.std.proofs.Common.{◌∷◌, [], ◌∙◌, All, Global, subst, arith, length-append}
use Rattle.std.specs.Vec.Iter.{into_iter_items}
use Rattle.std.proofs.lemmas.List.Elements.{All-tail}
use Rattle.ssr_macro_arguments.specs.Arguments.{HasItsTree}
use Rattle.ssr_macro_arguments.specs.declared.expanding.ReadExpansion.{ReadExpansion}
use Rattle.ssr_changes.proofs.Built.{few_missing}
use Rattle.ssr_changes.proofs.building.add_all.Goals as goal

pub loop-one-preserved : goal.loop-one-preserved
loop-one-preserved c =
    let one = c.in-Some.one in
    let more = c.in_ok-added.ensures in
    let longer = length-append c.loop-one.yielded (one ∷ []) in
    let known = c.loop-one.invariant in record {
      reach = more.reach ∙ known.reach;
      files = more.files ∙ known.files;
      counted = omega (arith, more.counted, c.missing-refused.ensures, known.counted, longer);
      few = omega (arith, c.missing-refused.ensures, few_missing c.in_ok-added.added, known.few, longer);
      left = All-tail HasItsTree one (into_iter_items {X = ReadExpansion} {Z = Global} c.next.new.self) (subst (All HasItsTree) c.in-Some.ensures.steps.0 known.left);
    }

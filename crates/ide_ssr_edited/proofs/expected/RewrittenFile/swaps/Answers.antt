use Rattle.std.proofs.Common.{◌∙◌, ℕ, ◌<◌, List, String, ap, arith, length, refl, sym}
use Rattle.std.specs.Global.{Global}
use Rattle.std.proofs.lemmas.List.{length-map}
use Rattle.ssr_base_trees.specs.Applied.{change_of, changes_of}
use Rattle.ssr_syntax_kinds.specs.declared.range.TextRange.{TextRange}
use Rattle.ssr_standing.specs.Fitted.{change_with}
use Rattle.ide_ssr_resolved_rule.specs.Resolved.{ResolvedRule}
use Rattle.ide_ssr_nesting.specs.Holding.{Kept}
use Rattle.ide_ssr_edited.proofs.Swaps.{all_told, change_at, found_at, lengths_differ, none_here, one_more}
use Rattle.ide_ssr_edited.proofs.expected.RewrittenFile.swaps.Goals as goal

pub returns-then-places-changes : goal.returns-then-places-changes
returns-then-places-changes c =
    lengths_differ c.args.kept.now c.args.self.now.rules.now c.args.self.now.file.0 c.args.places.now (changes_of c.args.changes.now)
    (λ same. omega (arith, same, length-map c.args.changes.now change_of, c.if-places-changes.true))

pub returns-in-None : goal.returns-in-None
returns-in-None c =
    let kept : Kept = c.args.kept.now in
    let rules : List ResolvedRule = c.args.self.now.rules.now in
    let pairs : List (TextRange × String Global) = c.args.changes.now in
    let pair : TextRange × String Global = c.index-changes-number.result in
    let i : ℕ = c.loop-number.number in
    let low : i < length pairs = omega arith in
    none_here kept rules c.args.self.now.file.0 c.args.places.now (changes_of pairs) i _ (change_of pair) c.loop-number.swaps.items (omega arith)
    (omega (arith, length-map pairs change_of)) refl (change_at pairs i pair low c.index-changes-number.is)
    (sym c.in-None.is
    ∙ found_at kept rules c.args.self.now.file.0 _ c.args.self.now.workspace.now c.get.result.now (change_of pair) (change_with pair.0 c.as_str.result.now) _
    c.requires.workspace c.get.ensures (ap (change_with pair.0) c.as_str.ensures.value) c.in_ok-swap.ensures)
    c.loop-number.invariant

pub loop-number-preserved : goal.loop-number-preserved
loop-number-preserved c =
    let kept : Kept = c.args.kept.now in
    let rules : List ResolvedRule = c.args.self.now.rules.now in
    let pairs : List (TextRange × String Global) = c.args.changes.now in
    let pair : TextRange × String Global = c.index-changes-number.result in
    let i : ℕ = c.loop-number.number in
    let low : i < length pairs = omega arith in
    one_more kept rules c.args.self.now.file.0 c.args.places.now (changes_of pairs) i _ (change_of pair) c.in-Some.swap c.loop-number.swaps.items c.push.new.self.items (omega arith)
    (omega (arith, length-map pairs change_of)) refl (change_at pairs i pair low c.index-changes-number.is)
    (sym c.in-Some.is
    ∙ found_at kept rules c.args.self.now.file.0 _ c.args.self.now.workspace.now c.get.result.now (change_of pair) (change_with pair.0 c.as_str.result.now) _
    c.requires.workspace c.get.ensures (ap (change_with pair.0) c.as_str.ensures.value) c.in_ok-swap.ensures)
    c.in_ok-push-in-Some.ensures.items c.loop-number.invariant

pub returns : goal.returns
returns c =
    let pairs : List (TextRange × String Global) = c.args.changes.now in
    all_told c.args.kept.now c.args.self.now.rules.now c.args.self.now.file.0 c.args.places.now (changes_of pairs) c.loop-number.number c.loop-number.swaps.items
    (omega arith) (omega (arith, length-map pairs change_of)) c.loop-number.invariant

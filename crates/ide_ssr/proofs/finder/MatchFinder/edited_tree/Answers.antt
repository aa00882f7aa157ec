use Rattle.std.proofs.Common.{◌≡◌, ◌∙◌, List, Option, [], ap, sym}
use Rattle.std.specs.Prelude.{unwrap_or}
use Rattle.ssr_base_trees.specs.Applied.{changes_of}
use Rattle.ssr_base_trees.specs.Changes.{Change}
use Rattle.ide_ssr.specs.Finder.{finder_of}
use Rattle.ide_ssr.proofs.Edited.{rules_are}
use Rattle.ide_ssr.proofs.EditedTrees.{fits_file, tree_told}
use Rattle.ide_ssr.proofs.finder.MatchFinder.edited_tree.Goals as goal

pub edited_tree-requires-clause-fits : goal.edited_tree-requires-clause-fits
edited_tree-requires-clause-fits g c =
    fits_file c.args.self.now.workspace c.in_ok-kept.field-0.kept.workspace c.in_ok-kept.field-0.edits c.args.file c.in-Some.edit.now
    c.in_ok-kept.ensures.answer.1.workspace c.in_ok-kept.ensures.fits (sym c.in-Some.ensures.value)

pub returns-in-Some : goal.returns-in-Some
returns-in-Some g c =
    let finder = finder_of g.S.Semantics.meanings c.args.self.now in
    let same : c.deref.result.now ≡ finder.rules = c.deref.ensures.value ∙ rules_are _ _ c.self.view_is in
    let answer = c.in_ok-kept.ensures.answer in
    tree_told finder c.args.file c.in_ok-kept.field-0.kept c.in_ok-kept.field-0.lists c.in_ok-kept.field-0.edits c.deref.result.now c.in-Some.edit.now c.edited_tree.result same
    (ap (λ (found : Option (List Change)). unwrap_or found []) c.in-Some.ensures.value) answer.0 answer.1 answer.2 c.edited_tree.ensures

pub returns : goal.returns
returns g c =
    let finder = finder_of g.S.Semantics.meanings c.args.self.now in
    let same : c.deref-in-None.result.now ≡ finder.rules = c.deref-in-None.ensures.value ∙ rules_are _ _ c.self.view_is in
    let answer = c.in_ok-kept.ensures.answer in
    tree_told finder c.args.file c.in_ok-kept.field-0.kept c.in_ok-kept.field-0.lists c.in_ok-kept.field-0.edits c.deref-in-None.result.now _ c.edited_tree-in-None.result same
    (c.new-none.ensures ∙ ap changes_of c.new.ensures.items ∙ ap (λ (found : Option (List Change)). unwrap_or found []) c.in-None.ensures.value)
    answer.0 answer.1 answer.2 c.edited_tree-in-None.ensures

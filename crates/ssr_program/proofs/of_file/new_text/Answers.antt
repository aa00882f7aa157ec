use Rattle.std.proofs.Common.{◌≡◌, All, sym, ap, subst, ◌∙◌}
use Rattle.std.proofs.lemmas.Option.{none-some, same_Some}
use Rattle.ssr_syntax_tree.specs.Syntax.{Syntax, source_of}
use Rattle.ssr_base_trees.specs.Changes.{FitsText}
use Rattle.ssr_base.specs.Editing.{new_text}
use Rattle.ssr_program.specs.OfFile.{text_with}
use Rattle.ssr_searching.specs.Searching.{changes_in}
use Rattle.ssr_program.proofs.OneText.{tree_is, fit_one, new_if}
use Rattle.ssr_program.proofs.of_file.new_text.Goals as goal

pub unreachable-requires : goal.unreachable-requires
unreachable-requires c = none-some _ (c.in_default.ensures ∙ tree_is _ _ c.requires.one.1)

pub edited-requires : goal.edited-requires
edited-requires c =
    let tree : c.in-Some.tree.now ≡ c.requires.one.0 = same_Some _ _ (c.in-Some.ensures ∙ tree_is _ _ c.requires.one.1) in
    subst (λ (code : Syntax). All (FitsText (source_of code)) c.in-Some-get.edit.now) (sym tree)
    (fit_one _ _ c.args.edits.now _ c.requires.one.1 c.requires.fits (sym c.in-Some-get.ensures.value))

pub returns-in-Some-get : goal.returns-in-Some-get
returns-in-Some-get c =
    let code = c.requires.one.0 in
    let tree : c.in-Some.tree.now ≡ code = same_Some _ _ (c.in-Some.ensures ∙ tree_is _ _ c.requires.one.1) in
    new_if _ code (changes_in c.args.edits.now) _ c.requires.one.1
    (ap (λ (code : Syntax). new_text code c.in-Some-get.edit.now) tree ∙ ap (text_with code) c.in-Some-get.ensures.value) c.edited.result c.edited.ensures

pub returns-in-None : goal.returns-in-None
returns-in-None c =
    let code = c.requires.one.0 in
    let tree : c.in-Some.tree.now ≡ code = same_Some _ _ (c.in-Some.ensures ∙ tree_is _ _ c.requires.one.1) in
    new_if _ code (changes_in c.args.edits.now) _ c.requires.one.1
    (c.source.ensures ∙ ap source_of tree ∙ ap (text_with code) c.in-None.ensures.value) c.from_str.result c.from_str.ensures.ok

use Rattle.std.proofs.Common.{◌≡◌, ◌∙◌, Err, true, false, ap, sym, subst}
use Rattle.std.proofs.lemmas.Result.{err_from_is_err_and}
use Rattle.ide_ssr.specs.Edits.{Edits, HaveTemplates}
use Rattle.ide_ssr.specs.Finder.{finder_of}
use Rattle.ide_ssr.specs.Private.Rewriting.{Rewrites}
use Rattle.ide_ssr.proofs.Edited.{edits_told, meanings_are, rules_are}
use Rattle.ide_ssr.proofs.finder.MatchFinder.rewritten.Goals as goal

pub returns-in_err-edits-clause-answer : goal.returns-in_err-edits-clause-answer
returns-in_err-edits-clause-answer g c =
    let finder = finder_of g.S.Semantics.meanings c.args.self.now in
    let same : c.deref-2.result.now ≡ finder.rules = c.deref-2.ensures.value ∙ rules_are _ _ c.self.view_is in
    let told : Edits finder c.edits.result =
    edits_told finder c.in_ok-kept.kept c.in_ok-kept.lists _ c.deref-2.result.now c.edits.result (meanings_are g.S.Semantics.meanings _ _ c.self.view_is) same
    (subst HaveTemplates (c.deref.ensures.value ∙ sym c.deref-2.ensures.value) (c.have_templates.ensures.0 c.if-not-have_templates.false))
    c.in_ok-kept.ensures.comes c.edits.ensures.answer in
    let p = err_from_is_err_and c.from_residual-in_err-edits.result c.from_residual-in_err-edits.ensures.1 in
    subst (Rewrites finder) (sym (p.1 ∙ ap Err p.2)) (subst (Edits finder) c.in_err-edits.was told)

pub returns-then-not-have_templates-clause-answer : goal.returns-then-not-have_templates-clause-answer
returns-then-not-have_templates-clause-answer g c = λ have.
    let finder = finder_of g.S.Semantics.meanings c.args.self.now in
    let same : c.deref.result.now ≡ finder.rules = c.deref.ensures.value ∙ rules_are _ _ c.self.view_is in
    let e : true ≡ false = sym (c.have_templates.ensures.1 (subst HaveTemplates (sym same) have)) ∙ c.if-not-have_templates.true in cc

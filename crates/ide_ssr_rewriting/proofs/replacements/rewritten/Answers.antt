use Rattle.std.proofs.Common.{◌∙◌, List, ℕ, ap, subst, sym}
use Rattle.std.specs.Prelude.{All}
use Rattle.ssr_syntax_kinds.specs.declared.reach.Reach.{Reach}
use Rattle.ssr_base_trees.specs.Applied.{changes_of}
use Rattle.ssr_base_trees.specs.Changes.{Change, FitsText, replaced}
use Rattle.ssr_standing.proofs.Shared.{in_text}
use Rattle.ide_ssr_rewriting.specs.Clashes.{Rewrite, changes_made}
use Rattle.ide_ssr_rewriting.specs.Fitting.{fitted_between}
use Rattle.ide_ssr_rewriting.proofs.Fittings.{fits_between}
use Rattle.ide_ssr_rewriting.proofs.Written.{begins_between, changes_fit, ends_between}
use Rattle.ide_ssr_rewriting.proofs.replacements.rewritten.Goals as goal

pub fitted-requires : goal.fitted-requires
fitted-requires c = record {
  begins = begins_between c.args.workspace.now c.args.range c.args.list.items c.requires c.file_text-text.result.now c.file_text-text.ensures;
  ends = ends_between c.args.workspace.now c.args.range c.args.list.items c.requires c.file_text-text.result.now c.file_text-text.ensures;
  changes = changes_fit c.args.workspace.now c.args.range c.args.list.items c.requires c.file_text-text.result.now c.file_text-text.ensures
      (changes_of c.in_ok-made.made.items) c.in_ok-made.ensures;
}

pub replaced-requires : goal.replaced-requires
replaced-requires c =
    let w = c.args.workspace.now in
    let range = c.args.range in
    let text : List ℕ = c.file_text-text.result.now in
    let made : List Change = changes_of c.in_ok-made.made.items in
    record {
      start = begins_between w range c.args.list.items c.requires text c.file_text-text.ensures;
      end = ends_between w range c.args.list.items c.requires text c.file_text-text.ensures;
      changes =
          subst (All (FitsText text)) (sym (ap changes_of c.deref.ensures.value ∙ c.in_ok-changes.ensures))
          (fits_between c.reach.result c.args.front.now text range.range.start range.range.end made
          (in_text text range.range made (changes_fit w range c.args.list.items c.requires text c.file_text-text.ensures made c.in_ok-made.ensures)));
    }

pub returns : goal.returns
returns c =
    let w = c.args.workspace.now in
    let front : List ℕ = c.args.front.now in
    let text : List ℕ = c.file_text-text.result.now in
    let list : List Rewrite = c.args.list.items in
    let from : ℕ = c.args.range.range.start in
    let to : ℕ = c.args.range.range.end in
    c.new.ensures
    ∙ c.in_ok-new.ensures
    ∙ ap (replaced text from to)
    (ap changes_of c.deref.ensures.value ∙ c.in_ok-changes.ensures ∙ ap (fitted_between c.reach.result front text from to) c.in_ok-made.ensures
    ∙ ap (λ (r : Reach). fitted_between r front text from to (changes_made list)) c.reach.ensures)
    ∙ ap (λ (text : List ℕ). replaced text from to (fitted_between w.reach front text from to (changes_made list))) c.file_text-text.ensures

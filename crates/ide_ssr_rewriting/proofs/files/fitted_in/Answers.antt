use Rattle.std.proofs.Common.{◌≡◌, All, Some, slice_get, sym, ◌∙◌, subst}
use Rattle.std.proofs.lemmas.Option.{slice_get_within}
use Rattle.ssr_syntax_tree.specs.Syntax.{Syntax, source_of}
use Rattle.ssr_base_trees.specs.Changes.{FitsText}
use Rattle.ssr_base_trees.proofs.Shared.{file_there, none_there}
use Rattle.ide_ssr_rewriting.specs.Fitting.{fitted_in}
use Rattle.ide_ssr_rewriting.proofs.files.fitted_in.Goals as goal

pub unreachable-requires : goal.unreachable-requires
unreachable-requires c =
    let w = c.args.workspace.now in
    none_there w c.args.file.0 (slice_get_within w.files c.args.file.0 c.requires.0 c.requires.1) c.in_default.ensures

-- the file's tree is there
pub invariant_of-searched : goal.invariant_of-searched
invariant_of-searched c =
    let w = c.args.workspace.now in
    record { there = file_there w c.args.file.0 c.in-Some.tree.now (slice_get_within w.files c.args.file.0 c.requires.0 c.requires.1) c.in-Some.ensures }

pub all_fitted-requires : goal.all_fitted-requires
all_fitted-requires c =
    let w = c.args.workspace.now in
    let tree = c.in-Some.tree.now in
    let here : slice_get w.files c.args.file.0 ≡ Some tree = file_there w c.args.file.0 tree (slice_get_within w.files c.args.file.0 c.requires.0 c.requires.1) c.in-Some.ensures in
    let same : c.requires.0 ≡ tree = cc (sym c.requires.1 ∙ here) in
    subst (λ (t : Syntax). All (FitsText (source_of t)) c.args.edit) same c.requires.2

pub returns : goal.returns
unfolding fitted_in
returns c = c.all_fitted.ensures

use Rattle.std.proofs.Common.{sym, subst}
use Rattle.ssr_base_trees.specs.Workspace.{trees}
use Rattle.ide_ssr_bindings.specs.Found.{FoundMatch}
use Rattle.ide_ssr_nesting.specs.Kept.{LiesUnder}
use Rattle.ide_ssr_nesting.proofs.Nearest.{read_nearest, fits_held, fits_not}
use Rattle.ide_ssr_nesting.proofs.kept.Nest.listed.Goals as goal

pub returns-in-None : goal.returns-in-None
returns-in-None c = ((λ k at over. absurd (c.in-None.ensures k at over)), c.in-None.ensures)

pub returns-in-Some-binding_over : goal.returns-in-Some-binding_over
returns-in-Some-binding_over c =
    let ts = trees c.args.workspace.now in
    let kept = c.args.self.now.matches.items in
    let m = c.args.m.now in
    let same = read_nearest ts kept m c.in-Some.place c.index.result.now c.in-Some.ensures c.index.ensures in
    fits_held ts c.requires.built.grown kept c.args.self.now.holders.items c.requires.held m c.requires.match_in c.requires.behind
    c.in-Some.place c.in-Some-binding_over.binding c.in-Some.ensures
    (subst (λ (k : FoundMatch). LiesUnder ts k m c.in-Some-binding_over.binding) same c.in-Some-binding_over.ensures)

pub returns-in-None-binding_over : goal.returns-in-None-binding_over
returns-in-None-binding_over c =
    let ts = trees c.args.workspace.now in
    let kept = c.args.self.now.matches.items in
    let m = c.args.m.now in
    let same = read_nearest ts kept m c.in-Some.place c.index.result.now c.in-Some.ensures c.index.ensures in
    fits_not ts c.requires.built.grown kept c.args.self.now.holders.items c.requires.held m c.requires.match_in c.requires.behind
    c.in-Some.place c.in-Some.ensures
    (λ i under. c.in-None-binding_over.ensures i (subst (λ (k : FoundMatch). LiesUnder ts k m i) (sym same) under))

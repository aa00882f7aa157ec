use Rattle.std.proofs.Common.{refl, sym, subst, length}
use Rattle.std.proofs.lemmas.Bool.{iff_false}
use Rattle.std.proofs.lemmas.Option.{slice_get_read}
use Rattle.ssr_base_trees.specs.Workspace.{trees}
use Rattle.ide_ssr_nesting.proofs.Nearest.{IsPast, nearest_here, past_next, next_smaller}
use Rattle.ide_ssr_nesting.proofs.kept.Nest.nearest.Goals as goal

pub returns-then-is_over : goal.returns-then-is_over
returns-then-is_over c =
    let ts = trees c.args.workspace.now in
    let kept = c.args.self.now.matches.items in
    let past = subst (IsPast ts kept c.args.m.now) c.in-Some.is c.loop-candidate.invariant in
    nearest_here ts c.requires.built.grown kept c.args.self.now.holders.items c.requires.held c.args.m.now c.requires.match_in c.requires.behind
    c.in-Some.place c.index.result.now (slice_get_read kept (length kept) c.in-Some.place c.index.result.now refl past.0 c.index.ensures) past.1
    (c.is_over.ensures.0 c.if-is_over.true)

pub loop-candidate-smaller : goal.loop-candidate-smaller
loop-candidate-smaller c =
    let ts = trees c.args.workspace.now in
    let kept = c.args.self.now.matches.items in
    let holders = c.args.self.now.holders.items in
    let past = subst (IsPast ts kept c.args.m.now) c.in-Some.is c.loop-candidate.invariant in
    let k_is = slice_get_read kept (length kept) c.in-Some.place c.index.result.now refl past.0 c.index.ensures in
    let holder_is = slice_get_read holders (length kept) c.in-Some.place c.index-in-Some.result.now (sym c.requires.held.counted) past.0 c.index-in-Some.ensures in
    rw c.in-Some.is
    (next_smaller ts c.requires.built.grown kept holders c.requires.held c.args.m.now c.requires.match_in c.requires.behind
    c.in-Some.place c.index.result.now k_is past.1 c.index-in-Some.result.now
    (c.requires.held.held c.in-Some.place c.index.result.now c.index-in-Some.result.now k_is holder_is)
    c.place_of-candidate.result c.place_of-candidate.ensures)

pub loop-candidate-preserved : goal.loop-candidate-preserved
loop-candidate-preserved c =
    let ts = trees c.args.workspace.now in
    let kept = c.args.self.now.matches.items in
    let holders = c.args.self.now.holders.items in
    let past = subst (IsPast ts kept c.args.m.now) c.in-Some.is c.loop-candidate.invariant in
    let k_is = slice_get_read kept (length kept) c.in-Some.place c.index.result.now refl past.0 c.index.ensures in
    let holder_is = slice_get_read holders (length kept) c.in-Some.place c.index-in-Some.result.now (sym c.requires.held.counted) past.0 c.index-in-Some.ensures in
    past_next ts c.requires.built.grown kept holders c.requires.held c.args.m.now c.requires.match_in c.requires.behind
    c.in-Some.place c.index.result.now k_is past.1 (iff_false c.is_over.ensures c.if-is_over.false) c.index-in-Some.result.now
    (c.requires.held.held c.in-Some.place c.index.result.now c.index-in-Some.result.now k_is holder_is)
    c.place_of-candidate.result c.place_of-candidate.ensures

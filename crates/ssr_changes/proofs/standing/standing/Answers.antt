use Rattle.std.proofs.Common.{All, subst, sym}
use Rattle.ssr_syntax_tree.specs.Syntax.{source_of}
use Rattle.ssr_base_trees.specs.Changes.{FitsText}
use Rattle.ssr_standing.specs.Fitted.{if_fitted}
use Rattle.ssr_standing.specs.Near.{settled, stands_by}
use Rattle.ssr_standing.specs.declared.fitted.Judge.TheVariants as judges
use Rattle.ssr_standing.proofs.Shared.{fit_told, fitted_in_place, settled_in_place}
use Rattle.ssr_changes.proofs.standing.standing.Goals as goal

pub stands-requires-2 : goal.stands-requires-2
stands-requires-2 c =
    let source = source_of c.args.file.now.tree.now in
    let by = stands_by c.args.file.now.trees.now c.args.file.now.number in
    subst (All (FitsText source)) (sym c.in_ok-near.ensures.made) (fit_told (settled by) (settled_in_place by) source c.args.edit c.requires)

pub stands-requires-3 : goal.stands-requires-3
stands-requires-3 c =
    let source = source_of c.args.file.now.tree.now in
    let alone = stands_by c.args.file.now.trees.now c.args.file.now.number judges.File in
    subst (All (FitsText source)) (sym c.in_ok-alone.ensures.made) (fit_told (if_fitted alone) (fitted_in_place alone) source c.args.edit c.requires)

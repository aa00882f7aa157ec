use Rattle.std.proofs.Common.{All, sym, ◌∙◌, ap, subst}
use Rattle.ssr_syntax_tree.specs.Syntax.{source_of}
use Rattle.ssr_base_trees.specs.Changes.{FitsText}
use Rattle.ssr_standing.specs.Expansions.{stands_in}
use Rattle.ssr_standing.specs.Near.{settled, stands_by}
use Rattle.ssr_standing.proofs.Shared.{fit_told, settled_in_place}
use Rattle.ide_ssr_rewriting.proofs.Fittings.{all_stay, as_settled, each_alone}
use Rattle.ide_ssr_rewriting.proofs.files.all_fitted.Goals as goal

pub stands-requires-2 : goal.stands-requires-2
stands-requires-2 c =
    let source = source_of c.args.file.now.tree.now in
    let by = stands_by c.args.file.now.trees.now c.args.file.now.number in
    subst (All (FitsText source)) (sym c.in_ok-near.ensures.standing)
    (fit_told (settled by) (settled_in_place by) source c.args.edit c.requires)

pub returns-then-branch : goal.returns-then-branch
returns-then-branch c =
    let w = c.args.file.now.trees.now in
    let n = c.args.file.now.number in
    all_stay (stands_in w n) (stands_by w n) c.args.edit (sym c.in_ok-stands.ensures ∙ c.if-branch.true)

pub returns-then-branch-2 : goal.returns-then-branch-2
returns-then-branch-2 c =
    let w = c.args.file.now.trees.now in
    let n = c.args.file.now.number in
    c.in_ok-near.ensures.all
    ∙ as_settled (stands_in w n) (stands_by w n) c.args.edit (sym c.in_ok-stands.ensures ∙ c.if-branch.false)
    (ap (stands_in w n) (sym c.in_ok-near.ensures.standing) ∙ sym c.in_ok-stands-2.ensures ∙ c.if-branch-2.true)

pub returns : goal.returns
returns c =
    let w = c.args.file.now.trees.now in
    let n = c.args.file.now.number in
    c.in_ok-alone.ensures
    ∙ each_alone (stands_in w n) (stands_by w n) c.args.edit (sym c.in_ok-stands.ensures ∙ c.if-branch.false)
    (ap (stands_in w n) (sym c.in_ok-near.ensures.standing) ∙ sym c.in_ok-stands-2.ensures ∙ c.if-branch-2.false)

use Rattle.std.proofs.Common.{sym, ◌∙◌, subst}
use Rattle.std.specs.Prelude.{IfNone}
use Rattle.ssr_base_trees.specs.Workspace.{Workspace}
use Rattle.ide_ssr.specs.FromComment.{IsCommentOf, RefusesRule, start_of, no_rule, refused}
use Rattle.ide_ssr.proofs.from_comment.ssr_from_comment.Goals as goal

pub returns-in_default-2-clause-none : goal.returns-in_default-2-clause-none
returns-in_default-2-clause-none g c =
    no_rule c.in-Some.comment.now c.in-Some.place
    (subst (λ (w : Workspace). IsCommentOf w (start_of c.args.range) c.in-Some.comment.now c.in-Some.place) c.trees.ensures.same c.in-Some.ensures.some) (sym c.in_ok-rule.ensures ∙ c.in_default-2.is)

pub returns-in-None-clause-none : goal.returns-in-None-clause-none
returns-in-None-clause-none g c =
    refused c.in-Some.comment.now c.in-Some.place c.in-Some-2.rule
    (subst (λ (w : Workspace). IsCommentOf w (start_of c.args.range) c.in-Some.comment.now c.in-Some.place) c.trees.ensures.same c.in-Some.ensures.some) (sym c.in_ok-rule.ensures ∙ c.in-Some-2.is)
    (subst (λ found. IfNone found (RefusesRule c.args.workspace.now (g.S.Semantics.meanings c.args.semantics.now) (start_of c.args.range) c.in-Some-2.rule))
    c.in-None.is c.in_ok-finder.ensures.none)

use Rattle.std.proofs.Common.{arith, sym, ◌∙◌}
use Rattle.ssr_syntax_tree.proofs.RowLaws.{offset-is, offset_past-is, at_boundary}
use Rattle.ssr_syntax_tree.proofs.tree.Tree.offset.Goals as goal

pub returns-in-Some-clause-value : goal.returns-in-Some-clause-value
returns-in-Some-clause-value c = offset-is c.self.inside c.args.self.now c.self.invariant c.self.view_is c.args.token c.in-Some.row (sym c.get.ensures ∙ c.in-Some.is)

pub returns-in-Some-clause-boundary : goal.returns-in-Some-clause-boundary
returns-in-Some-clause-boundary c = at_boundary c.self.inside c.args.self.now c.self.invariant c.self.view_is c.args.token _ (returns-in-Some-clause-value c)

pub returns-in-None-clause-value : goal.returns-in-None-clause-value
returns-in-None-clause-value c =
    omega (arith, c.len.ensures, offset_past-is c.self.inside c.args.self.now c.self.invariant c.self.view_is c.args.token (sym c.get.ensures ∙ c.in-None.is))

pub returns-in-None-clause-boundary : goal.returns-in-None-clause-boundary
returns-in-None-clause-boundary c = at_boundary c.self.inside c.args.self.now c.self.invariant c.self.view_is c.args.token _ (returns-in-None-clause-value c)

use Rattle.std.proofs.Common.{sym, ◌∙◌}
use Rattle.ssr_syntax_tree.specs.Places.{node_of}
use Rattle.ide_ssr_resolving.proofs.Names.{resolves, resolves_member}
use Rattle.ide_ssr_resolving.proofs.resolving.resolution.Goals as goal

pub returns-in-Some : goal.returns-in-Some
returns-in-Some g c =
    resolves (g.S.Semantics.meanings c.args.semantics.now) c.args.scope (node_of c.args.tree.now c.args.path.0).children c.in-Some.res
    (sym c.in-Some.is ∙ c.in_ok-res.ensures)

pub returns : goal.returns
returns g c =
    resolves_member (g.S.Semantics.meanings c.args.semantics.now) c.args.scope (node_of c.args.tree.now c.args.path.0).children c.in_ok-member.member
    (sym c.in_default.is ∙ c.in_ok-res.ensures) c.in_ok-member.ensures

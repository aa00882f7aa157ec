use Rattle.std.proofs.Common.{sym, ◌∙◌}
use Rattle.ssr_syntax_tree.specs.Places.{node_of}
use Rattle.ide_ssr_resolving.specs.Private.Parts.{below}
use Rattle.ide_ssr_resolving.proofs.Names.{qualifier_told}
use Rattle.ide_ssr_resolving.proofs.resolving.told_type.Goals as goal

pub returns : goal.returns
returns g c =
    qualifier_told (g.S.Semantics.meanings c.args.semantics.now) c.args.scope (node_of c.args.tree.now c.args.path.0).children
    (below c.args.tree.now c.in-Some.front) c.in-Some-2.res c.adt_of.result c.in-Some.ensures.below (sym c.in-Some-2.is ∙ c.in_ok-res.ensures) c.adt_of.ensures

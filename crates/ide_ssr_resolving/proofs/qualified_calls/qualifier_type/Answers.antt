use Rattle.std.proofs.Common.{sym, ◌∙◌, ap, refl, Some, None}
use Rattle.ssr_syntax_tree.specs.Places.{node_of}
use Rattle.ide_ssr_resolving.specs.Private.Parts.{below}
use Rattle.ide_ssr_resolving.proofs.QualifiedCalls.{type_told}
use Rattle.ide_ssr_resolving.proofs.qualified_calls.qualifier_type.Goals as goal

pub returns-in_default : goal.returns-in_default
returns-in_default g c =
    type_told (g.S.Semantics.meanings c.args.semantics.now) c.args.scope (node_of c.args.tree.now c.args.path.0).children
    None None None c.in_default.ensures.below refl refl

pub returns-in_default-2 : goal.returns-in_default-2
returns-in_default-2 g c =
    type_told (g.S.Semantics.meanings c.args.semantics.now) c.args.scope (node_of c.args.tree.now c.args.path.0).children
    (Some (below c.args.tree.now c.in-Some.front)) None None c.in-Some.ensures.below (sym c.in_default-2.is ∙ c.in_ok-res.ensures) refl

pub returns-in-Some-adt_of : goal.returns-in-Some-adt_of
returns-in-Some-adt_of g c =
    ap Some c.adt_type.ensures
    ∙ type_told (g.S.Semantics.meanings c.args.semantics.now) c.args.scope (node_of c.args.tree.now c.args.path.0).children
    (Some (below c.args.tree.now c.in-Some.front)) (Some c.in-Some-2.res) (Some c.in-Some-adt_of.adt) c.in-Some.ensures.below
    (sym c.in-Some-2.is ∙ c.in_ok-res.ensures) c.in-Some-adt_of.ensures

pub returns-in-None : goal.returns-in-None
returns-in-None g c =
    type_told (g.S.Semantics.meanings c.args.semantics.now) c.args.scope (node_of c.args.tree.now c.args.path.0).children
    (Some (below c.args.tree.now c.in-Some.front)) (Some c.in-Some-2.res) None c.in-Some.ensures.below
    (sym c.in-Some-2.is ∙ c.in_ok-res.ensures) c.in-None.ensures

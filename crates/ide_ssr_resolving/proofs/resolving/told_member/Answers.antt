use Rattle.std.proofs.Common.{sym, ◌∙◌, Some, None}
use Rattle.ssr_syntax_tree.specs.Places.{node_of}
use Rattle.ide_ssr_resolving.proofs.Names.{no_type, no_member_name, member_is}
use Rattle.ide_ssr_resolving.proofs.resolving.told_member.Goals as goal

pub returns-in_default : goal.returns-in_default
returns-in_default g c =
    no_type (g.S.Semantics.meanings c.args.semantics.now) c.args.scope (node_of c.args.tree.now c.args.path.0).children
    (sym c.in_default.is ∙ c.in_ok-adt.ensures)

pub returns-in_default-last_name : goal.returns-in_default-last_name
returns-in_default-last_name g c =
    no_member_name (g.S.Semantics.meanings c.args.semantics.now) c.args.scope (node_of c.args.tree.now c.args.path.0).children
    c.in-Some.adt (sym c.in-Some.is ∙ c.in_ok-adt.ensures) c.in_default-last_name.ensures

pub returns-in_default-2 : goal.returns-in_default-2
returns-in_default-2 g c =
    member_is (g.S.Semantics.meanings c.args.semantics.now) c.args.scope (node_of c.args.tree.now c.args.path.0).children
    c.in-Some.adt c.in-Some-last_name.name.now None (sym c.in-Some.is ∙ c.in_ok-adt.ensures) c.in-Some-last_name.ensures
    (sym c.in_default-2.is ∙ c.in_ok-member.ensures)

pub returns : goal.returns
returns g c =
    member_is (g.S.Semantics.meanings c.args.semantics.now) c.args.scope (node_of c.args.tree.now c.args.path.0).children
    c.in-Some.adt c.in-Some-last_name.name.now (Some c.in-Some-2.member) (sym c.in-Some.is ∙ c.in_ok-adt.ensures) c.in-Some-last_name.ensures
    (sym c.in-Some-2.is ∙ c.in_ok-member.ensures)

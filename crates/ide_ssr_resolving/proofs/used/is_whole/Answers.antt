use Rattle.std.proofs.Common.{sym, ◌∙◌}
use Rattle.ssr_syntax_tree.specs.Places.{node_of}
use Rattle.ide_ssr_resolving.proofs.Steps.{whole_by}
use Rattle.ide_ssr_resolving.proofs.used.is_whole.Goals as goal

pub returns : goal.returns
returns c =
    whole_by c.args.names.now (node_of c.args.tree.now c.args.path.0).children c.holds_stand_in.result
    (sym c.if-branch.false ∙ c.in_ok-has_generic_qualifier.ensures) c.holds_stand_in.ensures

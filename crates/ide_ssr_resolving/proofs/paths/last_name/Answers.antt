use Rattle.std.proofs.Common.{ap, ◌∙◌}
use Rattle.std.specs.Option.{option_map}
use Rattle.ssr_syntax_tree.specs.Places.{node_of}
use Rattle.ide_ssr_resolving.specs.Private.Parts.{below}
use Rattle.ide_ssr_resolving.proofs.Names.{no_segment, no_name, name_is}
use Rattle.ide_ssr_resolving.proofs.paths.last_name.Goals as goal

pub returns-in_err-segment : goal.returns-in_err-segment
returns-in_err-segment c =
    ap (option_map (λ name. name.now)) c.from_residual.ensures
    ∙ no_segment (node_of c.args.tree.now c.args.path.0).children c.in_err-segment.ensures.below

pub returns-in_err-name : goal.returns-in_err-name
returns-in_err-name c =
    ap (option_map (λ name. name.now)) c.from_residual-in_err-name.ensures
    ∙ no_name (node_of c.args.tree.now c.args.path.0).children (below c.args.tree.now c.in_ok-segment.segment) c.in_ok-segment.ensures.below
    c.in_err-name.ensures.below

pub returns : goal.returns
returns c =
    name_is (node_of c.args.tree.now c.args.path.0).children (below c.args.tree.now c.in_ok-segment.segment) (below c.args.tree.now c.in_ok-name.name) _
    c.in_ok-segment.ensures.below c.in_ok-name.ensures.below c.text.ensures

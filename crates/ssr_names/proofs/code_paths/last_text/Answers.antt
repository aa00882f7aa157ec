use Rattle.std.proofs.Common.{ap, ◌∙◌}
use Rattle.std.specs.Option.{option_map}
use Rattle.ssr_syntax_tree.specs.Places.{node_of}
use Rattle.ssr_names.proofs.Naming.{no_segment, in_segment}
use Rattle.ssr_names.proofs.code_paths.last_text.Goals as goal

pub returns-in_err-segment : goal.returns-in_err-segment
returns-in_err-segment c =
    ap (option_map (λ name. name.now)) c.from_residual.ensures
    ∙ no_segment (node_of c.args.tree.now c.args.path.0).children c.in_err-segment.ensures.below

pub returns : goal.returns
returns c =
    c.text_of_first.ensures
    ∙ in_segment (node_of c.args.tree.now c.args.path.0).children (node_of c.args.tree.now c.in_ok-segment.segment.0).children c.in_ok-segment.ensures.below

use Rattle.std.proofs.Common.{◌∙◌, Bool, List, ap, map}
use Rattle.std.specs.Prelude.{None}
use Rattle.ssr_syntax_tree.specs.declared.number.Element.{Element}
use Rattle.ssr_syntax_tree.specs.Places.{Part, node_of, part_of, parts_of}
use Rattle.ssr_syntax_tree.proofs.Shared.{parts_of-elements_of}
use Rattle.ssr_base_trees.specs.Origins.{Span, span_of}
use Rattle.ssr_standing.specs.Around.{holds_tokens, marks_behind}
use Rattle.ssr_standing.proofs.siblings.Siblings.new.Goals as goal

pub returns-clause-marks : goal.returns-clause-marks
returns-clause-marks c =
    let tree = c.args.tree.now in
    let n = c.args.node.0 in
    let places : List Span = map span_of c.args.passing.places.now in
    ap (λ (es : List Element). marks_behind places tree c.is.result None (map (part_of tree) es)) c.children.ensures.elements
    ∙ ap (λ (parts : List Part). marks_behind places tree c.is.result None parts) (parts_of-elements_of tree n c.requires)
    ∙ ap (λ (joined : Bool). marks_behind places tree joined None (parts_of (node_of tree n))) (c.is.ensures.same ∙ ap holds_tokens c.kind.ensures)

use Rattle.std.proofs.Common.{◌∙◌, sym}
use Rattle.ssr_standing.specs.Private.Outlines.{places_of}
use Rattle.ssr_standing.proofs.Alike.{nodes_alike, nodes_same}
use Rattle.ssr_standing.proofs.outlines.are_same_nodes.Goals as goal

pub returns-then-is-clause-alike : goal.returns-then-is-clause-alike
returns-then-is-clause-alike c = λ told.
    let one = c.args.one.now in
    let two = c.args.two.now in
    nodes_alike (places_of one) (places_of two) one.tree.now two.tree.now one.node two.node c.requires.one.has c.requires.two.has c.requires.one.kept c.requires.two.kept
    (sym c.kind.ensures ∙ c.is.ensures.decides.0 c.if-is.true ∙ c.kind-2.ensures)
    (sym c.siblings.ensures.marks ∙ c.are_same.ensures.0 told ∙ c.siblings-then-is.ensures.marks)

pub returns-then-is-clause-same : goal.returns-then-is-clause-same
returns-then-is-clause-same c = λ same.
    let one = c.args.one.now in
    let two = c.args.two.now in
    let both =
    nodes_same (places_of one) (places_of two) one.tree.now two.tree.now one.node two.node c.requires.one.has c.requires.two.has c.requires.one.kept c.requires.two.kept same in
    c.are_same.ensures.1 (c.siblings.ensures.marks ∙ both.1 ∙ sym c.siblings-then-is.ensures.marks)

pub returns-else-is-clause-same : goal.returns-else-is-clause-same
returns-else-is-clause-same c = λ same.
    let one = c.args.one.now in
    let two = c.args.two.now in
    let both =
    nodes_same (places_of one) (places_of two) one.tree.now two.tree.now one.node two.node c.requires.one.has c.requires.two.has c.requires.one.kept c.requires.two.kept same in
    c.is.ensures.decides.1 (c.kind.ensures ∙ both.0 ∙ sym c.kind-2.ensures)

use Rattle.std.proofs.Common.{◌≡◌, ◌∙◌, sym}
use Rattle.std.proofs.lemmas.Bool.{not-false}
use Rattle.std.proofs.lemmas.Slice.Eq.{bytes_eq-Decides}
use Rattle.ssr_syntax_tree.specs.Places.{node_of}
use Rattle.ssr_syntax_tree.specs.Syntax.{spelled, tokens_in}
use Rattle.ssr_standing.proofs.SameForests.{same_below, same_tokens}
use Rattle.ssr_standing.proofs.runs.are_same.Goals as goal

pub returns-clause-children : goal.returns-clause-children
returns-clause-children c = λ told.
    let one = node_of c.args.one.tree.now c.args.one.node.0 in
    let two = node_of c.args.two.tree.now c.args.two.node.0 in
    let same = (bytes_eq-Decides c.text.result.now c.text-2.result.now).0 (not-false _ (sym c.ne.ensures ∙ c.if-ne.false)) in
    let texts : spelled (tokens_in one.children) ≡ spelled (tokens_in two.children) = sym c.text.ensures ∙ same ∙ c.text-2.ensures in
    same_below one two (c.have_same_nodes.ensures told)
    (same_tokens (tokens_in one.children) (tokens_in two.children) texts (c.have_same_tokens.ensures (cc)))

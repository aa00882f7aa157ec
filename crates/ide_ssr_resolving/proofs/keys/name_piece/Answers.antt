use Rattle.std.proofs.Common.{arith, ap, ◌∙◌}
use Rattle.ssr_syntax_tree.specs.Places.{node_of}
use Rattle.ide_ssr_resolving.specs.Private.Pieces.{tokens_between}
use Rattle.ide_ssr_resolving.proofs.Children.{before_fewer}
use Rattle.ide_ssr_resolving.proofs.Tokens.{name_tokens}
use Rattle.ide_ssr_resolving.proofs.keys.name_piece.Goals as goal

pub returns-clause-tokens : goal.returns-clause-tokens
returns-clause-tokens c =
    ap (λ first. tokens_between c.args.tree.now first c.name_end-past.result) c.tokens_below-tokens.ensures.start
    ∙ name_tokens c.args.tree.now c.args.segment.0 c.name_end-past.result c.requires c.name_end-past.ensures

pub returns-clause-has : goal.returns-clause-has
returns-clause-has c =
    let fewer = before_fewer (node_of c.args.tree.now c.args.segment.0).children in
    let start = c.tokens_below-tokens.ensures.start in
    let end = c.tokens_below-tokens.ensures.end in
    let within = c.tokens_below-tokens.ensures.has in
    let past = c.name_end-past.ensures in
    (omega arith, omega arith)

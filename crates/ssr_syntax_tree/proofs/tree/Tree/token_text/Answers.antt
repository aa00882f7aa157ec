use Rattle.std.proofs.Common.{◌∙◌}
use Rattle.ssr_syntax_tree.proofs.Ranges.{token_text_read}
use Rattle.ssr_syntax_tree.proofs.RowLaws.{are_parts}
use Rattle.ssr_syntax_tree.proofs.tree.Tree.token_text.Goals as goal

pub returns : goal.returns
returns c =
    let parts = are_parts c.self.inside c.args.self.now c.self.invariant c.self.view_is in
    c.range.ensures.value
    ∙ token_text_read c.args.self.now c.args.token.0 c.requires c.deref.result.now c.token_range-range.result.start c.token_range-range.result.end (c.deref.ensures ∙ parts.spells) c.token_range-range.ensures.start c.token_range-range.ensures.end

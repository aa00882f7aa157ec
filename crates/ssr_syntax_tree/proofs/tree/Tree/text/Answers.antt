use Rattle.std.proofs.Common.{◌∙◌}
use Rattle.ssr_syntax_tree.proofs.Ranges.{text_read}
use Rattle.ssr_syntax_tree.proofs.RowLaws.{are_parts}
use Rattle.ssr_syntax_tree.proofs.tree.Tree.text.Goals as goal

pub returns : goal.returns
returns c =
    let parts = are_parts c.self.inside c.args.self.now c.self.invariant c.self.view_is in
    c.range.ensures.value
    ∙ text_read c.args.self.now c.args.node.0 c.requires c.deref.result.now c.range-range.result.start c.range-range.result.end (c.deref.ensures ∙ parts.spells) c.range-range.ensures.start c.range-range.ensures.end

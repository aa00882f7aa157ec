use Rattle.std.proofs.Common.{◌∙◌, ap, sym}
use Rattle.std.specs.Cmp.Lexicographic.{same_text, other_text}
use Rattle.ssr_syntax_tree.specs.Syntax.{source_of}
use Rattle.ssr_syntax_tree.proofs.Agreeing.{same_syntax, same_tokens, same_nodes}
use Rattle.ssr_syntax_tree.proofs.tree.Tree.is_same.Goals.{then-eq, else-eq}
use Rattle.ssr_syntax_tree.proofs.tree.Tree.is_same.Goals as goal

pub returns-then-are_same_tokens : goal.returns-then-are_same_tokens
returns-then-are_same_tokens c =
    elim c.if-eq.branch [
      | then-eq w ↦ (
        λ nodes.
            let texts = same_text c.source.result.now c.source-2.result.now w.if-eq.ensures in
            same_syntax c.self.inside c.other.inside c.args.self.now c.args.other.now c.self.invariant c.self.view_is c.other.invariant c.other.view_is
            (sym c.source.ensures ∙ texts ∙ c.source-2.ensures)
            (w.are_same_tokens.ensures.0 (sym w.value-is ∙ c.if-are_same_tokens.true))
            (c.are_same_nodes.ensures.0 nodes),
        λ same.
            c.are_same_nodes.ensures.1
            (same_nodes c.self.inside c.other.inside c.args.self.now c.args.other.now c.self.invariant c.self.view_is c.other.invariant c.other.view_is same),
      )
      | else-eq w ↦ absurd (cc (w.value-is, w.if-eq.false, c.if-are_same_tokens.true))
    ]

pub returns-else-are_same_tokens : goal.returns-else-are_same_tokens
returns-else-are_same_tokens c =
    elim c.if-eq.branch [
      | then-eq w ↦ (
        λ is. absurd (cc (is, c.if-are_same_tokens.false)),
        λ same.
            w.value-is
            ∙ w.are_same_tokens.ensures.1
            (same_tokens c.self.inside c.other.inside c.args.self.now c.args.other.now c.self.invariant c.self.view_is c.other.invariant c.other.view_is same),
      )
      | else-eq w ↦ (
        λ is. absurd (cc (is, c.if-are_same_tokens.false)),
        λ same.
            let other = other_text c.source.result.now c.source-2.result.now w.if-eq.ensures in
            absurd (other (c.source.ensures ∙ ap source_of same ∙ sym c.source-2.ensures)),
      )
    ]

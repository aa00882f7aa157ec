use Rattle.std.proofs.Common.{◌&&◌, ◌||◌, sym, ap, ◌∙◌, arith}
use Rattle.ssr_syntax_kinds.specs.declared.kinds.SyntaxKind.TheVariants as k
use Rattle.ssr_syntax_kinds.specs.Kinds.{same_kind, is_trivia}
use Rattle.ssr_syntax_tree.specs.Places.{HasToken}
use Rattle.ide_ssr_search.proofs.Selves.{self_turn, self_found, self_end}
use Rattle.ide_ssr_search.proofs.permitted.names_self.Goals as goal

pub returns-then-ends_self : goal.returns-then-ends_self
returns-then-ends_self c =
    let tree = c.args.tree.now in
    let has : HasToken tree c.loop-number.number = omega arith in
    self_found tree c.loop-number.number c.loop-number.begun has (sym c.ends_self.ensures ∙ c.if-ends_self.true) c.loop-number.invariant

pub loop-number-preserved : goal.loop-number-preserved
loop-number-preserved c =
    let tree = c.args.tree.now in
    let begun = c.loop-number.begun in
    let has : HasToken tree c.loop-number.number = omega arith in
    self_turn tree c.loop-number.number begun c.stays_begun-begun.result has (sym c.ends_self.ensures ∙ c.if-ends_self.false)
    (c.stays_begun-begun.ensures ∙ ap (λ kind. same_kind kind k.SELF_KW || (begun && is_trivia kind)) c.token_kind.ensures)
    c.loop-number.invariant

pub returns : goal.returns
returns c = self_end c.args.tree.now c.loop-number.number c.loop-number.begun (omega arith) c.loop-number.invariant

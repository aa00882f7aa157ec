use Rattle.std.proofs.Common.{arith, sym, ◌∙◌}
use Rattle.ide_ssr_resolving.specs.Used.{names_placeholder}
use Rattle.ide_ssr_resolving.proofs.StandIns.{token_passed, token_found, no_token}
use Rattle.ide_ssr_resolving.proofs.stand_ins.has_stand_in.Goals as goal

pub loop-number-preserved : goal.loop-number-preserved
loop-number-preserved c =
    token_passed (names_placeholder c.args.names.now) c.args.tree.now c.loop-number.number c.args.piece.past _ (omega arith) (omega arith)
    (sym c.names_placeholder.ensures ∙ c.if-names_placeholder.false) c.loop-number.invariant

pub returns-then-names_placeholder : goal.returns-then-names_placeholder
returns-then-names_placeholder c =
    token_found (names_placeholder c.args.names.now) c.args.tree.now c.loop-number.number c.args.piece.past _ (omega arith) (omega arith)
    (sym c.names_placeholder.ensures ∙ c.if-names_placeholder.true) c.loop-number.invariant

pub returns : goal.returns
returns c = no_token (names_placeholder c.args.names.now) c.args.tree.now c.loop-number.number c.args.piece.past _ (omega arith) c.loop-number.invariant

use Rattle.std.proofs.Common.{◌+◌, sym, subst, inl, inr, arith}
use Rattle.std.proofs.lemmas.Bool.{both_ways, cases_lt}
use Rattle.ide_ssr_search.proofs.PositionNodes.{IsLastSpanning, root_spans, is_parent, last_here, last_before, none_behind}
use Rattle.ide_ssr_search.proofs.positions.parent_of.Goals as goal
use Rattle.ide_ssr_search.proofs.positions.parent_of.Goals.{then-has_token, else-has_token}

pub loop-number-init : goal.loop-number-init
loop-number-init c = record { has = omega arith; spans = root_spans c.args.tree.now c.args.token.0 c.requires; last = λ m behind before. absurd (omega arith) }

pub loop-number-preserved : goal.loop-number-preserved
loop-number-preserved c =
    let tree = c.args.tree.now in
    let t = c.args.token.0 in
    let n = c.loop-number.number in
    elim c.if-has_token.branch [
      | then-has_token w ↦
          subst (IsLastSpanning tree t (n + 1)) (sym w.found-is)
          (last_here tree t n c.loop-number.found (omega arith) (c.has_token.ensures.0 w.if-has_token.true) c.loop-number.invariant)
      | else-has_token w ↦
          subst (IsLastSpanning tree t (n + 1)) (sym w.found-is)
          (last_before tree t n c.loop-number.found (λ spans. both_ways c.has_token.result w.if-has_token.false (c.has_token.ensures.1 spans)) c.loop-number.invariant)
    ]

pub returns-clause-parent : goal.returns-clause-parent
returns-clause-parent c =
    let so_far = c.loop-number.invariant in
    is_parent c.args.tree.now c.loop-number.found c.args.token.0 so_far.has so_far.spans (λ m has behind. so_far.last m behind (omega arith))

pub returns-then-begins_behind-clause-parent : goal.returns-then-begins_behind-clause-parent
returns-then-begins_behind-clause-parent c =
    let tree = c.args.tree.now in
    let t = c.args.token.0 in
    let n = c.loop-number.number in
    let so_far = c.loop-number.invariant in
    is_parent tree c.loop-number.found t so_far.has so_far.spans
    (λ m has behind.
    elim (cases_lt m n) [
      | inl earlier ↦ so_far.last m behind earlier
      | inr late ↦ none_behind tree t n (omega arith) (c.begins_behind.ensures.0 c.if-begins_behind.true) m has late
    ])

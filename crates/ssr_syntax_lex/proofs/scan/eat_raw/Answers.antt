use Rattle.std.proofs.Common.{◌<◌, sym, ap, subst, ◌∙◌, length}
use Rattle.ssr_syntax_lex.specs.Cursor.{Chars}
use Rattle.ssr_syntax_lex.specs.Scan.{past_raw}
use Rattle.ssr_syntax_lex.specs.Characters.{is_hash}
use Rattle.ssr_syntax_lex.proofs.ScanSteps.{raw_stays, raw_goes, past_shorter, next_shorter}
use Rattle.ssr_syntax_lex.proofs.scan.eat_raw.Goals as goal
use Rattle.ssr_syntax_lex.proofs.scan.eat_raw.Goals.{else-c-eq34-via-then-c-eq34+else-eat_hashes, else-c-eq34-via-else-c-eq34}

pub loop-c-smaller : goal.loop-c-smaller
loop-c-smaller c = elim c.else-c-eq34.branch [
  | else-c-eq34-via-then-c-eq34+else-eat_hashes w ↦ subst (λ (cs : Chars). length cs < length c.loop-c.cursor) (sym (w.cursor-is ∙ w.eat_hashes.ensures.some w.if-eat_hashes.false)) (past_shorter is_hash c.in-Some.c _ _ c.in-Some.ensures)
  | else-c-eq34-via-else-c-eq34 w ↦ subst (λ (cs : Chars). length cs < length c.loop-c.cursor) (sym w.cursor-is) (next_shorter c.in-Some.c _ _ c.in-Some.ensures)
]

pub loop-c-preserved : goal.loop-c-preserved
loop-c-preserved c = elim c.else-c-eq34.branch [
  | else-c-eq34-via-then-c-eq34+else-eat_hashes w ↦
      ap (past_raw c.args.hashes) (w.cursor-is ∙ w.eat_hashes.ensures.some w.if-eat_hashes.false)
      ∙ (sym (raw_stays c.args.hashes c.in-Some.c _ _ c.in-Some.ensures (sym w.eat_hashes.ensures.told ∙ w.if-eat_hashes.false)) ∙ c.loop-c.invariant)
  | else-c-eq34-via-else-c-eq34 w ↦
      ap (past_raw c.args.hashes) w.cursor-is
      ∙ (sym (raw_goes c.args.hashes c.in-Some.c _ _ c.in-Some.ensures w.if-c-eq34.false) ∙ c.loop-c.invariant)
]

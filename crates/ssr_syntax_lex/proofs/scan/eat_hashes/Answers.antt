use Rattle.std.proofs.Common.{◌≡◌, sym, ap, ◌∙◌, arith, drop, length}
use Rattle.std.proofs.lemmas.List.{drop-drop}
use Rattle.ssr_syntax_lex.specs.Characters.{is_hash}
use Rattle.ssr_syntax_lex.specs.Cursor.{run, past}
use Rattle.ssr_syntax_lex.proofs.ScanSteps.{hash_next, no_hash_next, none_in_run}
use Rattle.ssr_syntax_lex.proofs.scan.eat_hashes.Goals as goal

pub returns-then-not-is_at-clause-told : goal.returns-then-not-is_at-clause-told
returns-then-not-is_at-clause-told c =
    none_in_run _ _ _ c.loop.cursor (sym c.is_at.ensures ∙ c.if-not-is_at.true) c.loop-test.true c.loop.invariant.counted

pub returns-then-not-is_at-clause-some : goal.returns-then-not-is_at-clause-some
returns-then-not-is_at-clause-some c =
    λ _. sym (no_hash_next c.loop.cursor (sym c.is_at.ensures ∙ c.if-not-is_at.true)).0 ∙ c.loop.invariant.passed

pub loop-preserved : goal.loop-preserved
loop-preserved c =
    let next = hash_next c.loop.cursor (sym c.is_at.ensures ∙ c.if-not-is_at.false) in
    let count : length (run is_hash c.bump.new.self) ≡ length (run is_hash (drop 1 c.loop.cursor)) = ap (λ cs. length (run is_hash cs)) c.bump.ensures.rest in
    record {
      there = c.bump.ensures.rest ∙ (ap (drop 1) c.loop.invariant.there ∙ drop-drop 1 c.loop.counter c.args.cursor.now);
      passed = ap (past is_hash) c.bump.ensures.rest ∙ (sym next.0 ∙ c.loop.invariant.passed);
      counted = omega (arith, next.1, count, c.loop.invariant.counted);
    }

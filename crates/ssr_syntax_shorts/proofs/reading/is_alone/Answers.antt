use Rattle.std.proofs.Common.{◌≡◌, length, nat_eq, true, sym, ◌∙◌}
use Rattle.std.proofs.lemmas.Bool.{eqb-true}
use Rattle.ssr_syntax_shorts.proofs.Steps.{alone_same}
use Rattle.ssr_syntax_shorts.proofs.reading.is_alone.Goals as goal

pub returns-then-trim_start-text-clause-alone : goal.returns-then-trim_start-text-clause-alone
returns-then-trim_start-text-clause-alone c = λ (is : nat_eq (length c.trim.result.now) (length c.args.text.now) ≡ true).
    let value = c.trim.ensures.value in
    sym c.trim.ensures.trim
    ∙ alone_same c.args.text.now c.trim.result.now value.0 value.1 value.2 (eqb-true (length c.trim.result.now) (length c.args.text.now) is)

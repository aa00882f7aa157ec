use Rattle.std.proofs.Common.{◌<◌, ◌∙◌, length, refl, arith}
use Rattle.std.proofs.lemmas.List.{length-set}
use Rattle.ide_ssr_resolved_rule.proofs.TemplateTables.{none_marked, marked_next, marked_all}
use Rattle.ide_ssr_resolved_rule.proofs.templates.mark.Goals as goal

pub loop-token-init : goal.loop-token-init
loop-token-init c = record {
  long = refl;
  marked = λ n. none_marked c.args.table.now.items c.args.first c.args.place n;
  none = λ h. refl;
}

pub loop-token-preserved : goal.loop-token-preserved
loop-token-preserved c =
    let cur = c.loop-token.table.items in
    let within : c.loop-token.token < length cur = let long = c.loop-token.invariant.long in omega arith in
    record {
      long = length-set cur c.loop-token.token c.printed_token.result ∙ c.loop-token.invariant.long;
      marked = λ n. marked_next c.args.table.now.items cur _ c.args.first c.loop-token.token c.args.place c.printed_token.result (omega arith) within
          c.loop-token.invariant.marked c.printed_token.ensures refl n;
      none = λ h. absurd (omega arith);
    }

pub returns-clause-marked : goal.returns-clause-marked
returns-clause-marked c = λ n.
    c.loop-token.invariant.marked n
    ∙ marked_all c.args.table.now.items c.args.first c.loop-token.token c.args.past c.args.place n (omega arith) (λ h. omega arith) c.loop-token.invariant.none

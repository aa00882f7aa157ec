use Rattle.std.proofs.Common.{◌≡◌, ◌+◌, ◌∷◌, [], length, Some, ap, ◌∙◌, subst, inl, inr, arith, length-append}
use Rattle.std.specs.Prelude.{slice_get}
use Rattle.std.proofs.lemmas.Option.{get_or_from_slice_get}
use Rattle.ssr_syntax_tree.proofs.Lists.{pushed_at}
use Rattle.ide_ssr_resolved_rule.specs.Resolved.{ResolvedRule}
use Rattle.ide_ssr_search.specs.Private.Roots.{IsAskedBy}
use Rattle.ide_ssr_search.proofs.roots.Rules.new.Goals as goal

pub loop-rule-preserved : goal.loop-rule-preserved
loop-rule-preserved c =
    let rules = c.args.rules.now in
    let i = c.loop-rule.rule-index in
    let known = c.loop-rule.invariant in
    let old = c.loop-rule.asked.items in
    let asked = c.by.result in
    let pushed = c.in_ok-push.ensures.items in
    let here : (rule : ResolvedRule) → slice_get rules i ≡ Some rule → IsAskedBy rule asked =
    λ rule is. subst (λ r. IsAskedBy r asked) (c.rule-item.is ∙ get_or_from_slice_get rules i rule c.rule-item.result is) c.by.ensures in
    record {
      counted = ap length pushed ∙ length-append old (asked ∷ []) ∙ ap (λ n. n + 1) known.counted;
      each = λ n rule other rule_is asked_is.
          elim (pushed_at old asked n other (subst (λ all. slice_get all n ≡ Some other) pushed asked_is)) [
            | inl there ↦ known.each n rule other rule_is there
            | inr last ↦ subst (IsAskedBy rule) last.1 (here rule (subst (λ n. slice_get rules n ≡ Some rule) (last.0 ∙ known.counted) rule_is))
          ];
    }

pub returns-clause-are : goal.returns-clause-are
returns-clause-are c =
    let known = c.loop-rule.invariant in
    record {
      counted = let e = known.counted in omega arith;
      each = known.each;
    }

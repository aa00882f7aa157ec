use Rattle.std.proofs.Common.{◌≡◌, ◌∙◌, List, None, All, subst}
use Rattle.std.proofs.lemmas.Result.{IfOk-weaker}
use Rattle.ide_ssr_resolved_rule.specs.Patterns.{HasEachOnce, AreInArguments}
use Rattle.ide_ssr_resolved_rule.specs.Resolved.{ResolvedRule}
use Rattle.ide_ssr_nesting.specs.Lists.{listed}
use Rattle.ide_ssr.specs.BindsOnce.{BindOnce}
use Rattle.ide_ssr.specs.Finder.{finder_of}
use Rattle.ide_ssr.specs.Nesting.{Show, ShowKept}
use Rattle.ide_ssr.proofs.BindsOnce.{answer_once}
use Rattle.ide_ssr.proofs.Few.{few_shown}
use Rattle.ide_ssr.proofs.Edited.{rules_are}
use Rattle.ide_ssr.proofs.Outcome.{kept_of_rules}
use Rattle.ide_ssr.proofs.finder.MatchFinder.nested.Goals as goal

pub returns-clause-binds : goal.returns-clause-binds
returns-clause-binds g c =
    let finder = finder_of g.S.Semantics.meanings c.args.self.now in
    let kept = c.in_ok-kept.kept in
    let lists = c.in_ok-kept.lists in
    let outcome = c.in_ok-kept.ensures.comes in
    let rules = rules_are _ _ c.self.view_is in
    let each = subst (λ (rules : List ResolvedRule). All (λ rule. HasEachOnce rule.names rule.pattern) rules) rules c.self.invariant.0 in
    let in_arguments = subst (λ (rules : List ResolvedRule). All (λ rule. AreInArguments rule.names rule.pattern rule.pattern_paths) rules) rules c.self.invariant.1 in
    let same : c.deref.result.now ≡ finder.rules = c.deref.ensures.value ∙ rules in
    IfOk-weaker c.nested_matches.result (λ answer. Show c.deref.result.now kept lists (listed lists None) answer.items) (λ answer. BindOnce finder.rules answer.items)
    (λ answer shown.
    answer_once finder.rules kept lists (listed lists None) answer.items (kept_of_rules finder kept lists each in_arguments outcome) outcome.is_kept
    (subst (λ (rules : List ResolvedRule). Show rules kept lists (listed lists None) answer.items) same shown))
    c.nested_matches.ensures

pub returns-clause-shows : goal.returns-clause-shows
returns-clause-shows g c =
    let finder = finder_of g.S.Semantics.meanings c.args.self.now in
    let kept = c.in_ok-kept.kept in
    let lists = c.in_ok-kept.lists in
    let same : c.deref.result.now ≡ finder.rules = c.deref.ensures.value ∙ rules_are _ _ c.self.view_is in
    IfOk-weaker c.nested_matches.result (λ answer. Show c.deref.result.now kept lists (listed lists None) answer.items) (λ answer. ShowKept finder answer.items)
    (λ answer shown. (kept, lists, c.in_ok-kept.ensures.comes, subst (λ (rules : List ResolvedRule). Show rules kept lists (listed lists None) answer.items) same shown))
    c.nested_matches.ensures

pub returns-clause-few : goal.returns-clause-few
returns-clause-few g c =
    few_shown (λ answer. answer.items) c.deref.result.now c.args.found.items c.in_ok-kept.kept c.in_ok-kept.lists c.in_ok-kept.ensures.comes.is_kept
    c.in_ok-kept.ensures.comes.are_lists c.in_ok-kept.ensures.few c.nested_matches.result c.nested_matches.ensures

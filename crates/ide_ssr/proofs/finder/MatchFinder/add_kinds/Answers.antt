use Rattle.std.proofs.Common.{All, subst, sym}
use Rattle.ssr_base_trees.specs.Meanings.{Meanings}
use Rattle.ide_ssr_resolved_rule.specs.Patterns.{HasEachOnce, AreInArguments}
use Rattle.ide_ssr_resolved_rule.specs.Resolved.{ResolvedRule}
use Rattle.ide_ssr_resolving.specs.Resolved.{IsResolvedBy}
use Rattle.ide_ssr.proofs.Appending.{all_appended}
use Rattle.ide_ssr.proofs.Edited.{meanings_are}
use Rattle.ide_ssr.proofs.finder.MatchFinder.add_kinds.Goals as goal

pub invariant_of-self : goal.invariant_of-self
invariant_of-self g c =
    let meanings : Meanings = g.S.Semantics.meanings c.self.inside.semantics.now in
    let known : All (IsResolvedBy meanings) c.args.kinds.items =
    subst (λ (m : Meanings). All (IsResolvedBy m) c.args.kinds.items) (sym (meanings_are g.S.Semantics.meanings _ _ c.self.view_is)) c.requires.known in (
      all_appended (λ (rule : ResolvedRule). HasEachOnce rule.names rule.pattern) _ _ _ _ c.append.ensures.items c.self.invariant.0 c.requires.each,
      all_appended (λ (rule : ResolvedRule). AreInArguments rule.names rule.pattern rule.pattern_paths) _ _ _ _ c.append.ensures.items c.self.invariant.1 c.requires.in_arguments,
      all_appended (IsResolvedBy meanings) _ _ _ _ c.append.ensures.items c.self.invariant.2 known,
    )

use Rattle.std.proofs.Common.{ap, sym, ◌∙◌, subst}
use Rattle.std.specs.Option.{option_map}
use Rattle.std.proofs.lemmas.Bool.{both_ways}
use Rattle.ssr_base_trees.specs.Workspace.{trees}
use Rattle.ide_ssr_search.specs.Private.Whole.{IsPlacedMatch}
use Rattle.ide_ssr_search.proofs.Placed.{whole, not_matched, not_placed, not_written}
use Rattle.ide_ssr_search.proofs.whole.match_in.Goals as goal

pub returns-in_default-clause-found : goal.returns-in_default-clause-found
returns-in_default-clause-found g c =
    not_matched c.args.ground.workspace.now (g.S.Semantics.meanings c.args.semantics.now) c.args.ground.tree.now c.args.rule.now c.args.node c.requires.tree
    (sym (ap (option_map (λ v. v.items)) c.in_default.is) ∙ c.in_ok-bindings.ensures.bindings)

pub returns-then-not-branch-clause-found : goal.returns-then-not-branch-clause-found
returns-then-not-branch-clause-found g c =
    not_placed c.args.ground.workspace.now (g.S.Semantics.meanings c.args.semantics.now) c.args.ground.tree.now c.args.rule.now c.args.node c.in-Some.bindings.items c.requires.tree
    (sym (ap (option_map (λ v. v.items)) c.in-Some.is) ∙ c.in_ok-bindings.ensures.bindings)
    (λ placed. both_ways c.in_ok-is_placed_match.field-0 c.if-not-branch.true
    (c.in_ok-is_placed_match.ensures.1 (subst (IsPlacedMatch (trees c.args.ground.workspace.now) c.args.node) (sym c.deref.ensures.value) placed)))

pub returns-then-branch-clause-found : goal.returns-then-branch-clause-found
returns-then-branch-clause-found g c =
    whole c.args.ground.workspace.now (g.S.Semantics.meanings c.args.semantics.now) c.args.ground.tree.now c.args.rule.now c.args.node c.in-Some.bindings.items c.requires.tree
    (sym (ap (option_map (λ v. v.items)) c.in-Some.is) ∙ c.in_ok-bindings.ensures.bindings)
    (subst (IsPlacedMatch (trees c.args.ground.workspace.now) c.args.node) c.deref.ensures.value (c.in_ok-is_placed_match.ensures.0 c.if-not-branch.false))
    (c.in_ok-can_be_written.ensures.0 c.if-branch.true)

pub returns-else-branch-clause-found : goal.returns-else-branch-clause-found
returns-else-branch-clause-found g c =
    not_written (trees c.args.ground.workspace.now) (g.S.Semantics.meanings c.args.semantics.now) c.args.rule.now c.args.node
    (λ written. both_ways c.in_ok-can_be_written.field-0 c.if-branch.false (c.in_ok-can_be_written.ensures.1 written))

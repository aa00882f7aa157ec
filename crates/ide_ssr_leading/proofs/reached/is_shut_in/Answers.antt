use Rattle.std.proofs.Common.{◌≡◌, false, true, refl, sym, arith, inl, inr}
use Rattle.std.proofs.lemmas.Bool.{both_ways}
use Rattle.ssr_base_trees.specs.Workspace.{trees}
use Rattle.ssr_base_trees.proofs.Shared.{is_up}
use Rattle.ide_ssr_leading.proofs.Climbing.{shut_here, shut_above, shut_nowhere}
use Rattle.ide_ssr_leading.proofs.reached.is_shut_in.Goals as goal

pub loop-above-init : goal.loop-above-init
loop-above-init c = (λ shut. shut, λ shut. shut)

pub shuts_below-requires : goal.shuts_below-requires
shuts_below-requires c =
    (is_up (trees c.args.workspace.now) c.loop-above.at c.in-Some.above c.requires.grown (sym c.in-Some.ensures)).node

pub returns-then-shuts_below : goal.returns-then-shuts_below
returns-then-shuts_below c = (
  λ _. c.loop-above.invariant.0
      (shut_here (trees c.args.workspace.now) c.loop-above.at c.in-Some.above (sym c.in-Some.ensures) (c.shuts_below.ensures.shuts.0 c.if-shuts_below.true)),
  λ _. refl,
)

pub loop-above-smaller : goal.loop-above-smaller
loop-above-smaller c =
    let fits = c.shuts_below.ensures.fits in
    elim (is_up (trees c.args.workspace.now) c.loop-above.at c.in-Some.above c.requires.grown (sym c.in-Some.ensures)).earlier [
      | inl tree ↦ omega (arith, fits, tree)
      | inr same ↦ omega (arith, same.0, same.1)
    ]

pub loop-above-preserved : goal.loop-above-preserved
loop-above-preserved c =
    let step = shut_above (trees c.args.workspace.now) c.loop-above.at c.in-Some.above (sym c.in-Some.ensures)
    (λ shuts. both_ways c.shuts_below.result c.if-shuts_below.false (c.shuts_below.ensures.shuts.1 shuts)) in
    (λ shut. c.loop-above.invariant.0 (step.0 shut), λ shut. step.1 (c.loop-above.invariant.1 shut))

pub returns : goal.returns
returns c = (
  λ e. let no : false ≡ true = e in cc,
  λ shut. absurd (shut_nowhere (trees c.args.workspace.now) c.loop-above.at (sym c.in_default.ensures) (c.loop-above.invariant.1 shut)),
)

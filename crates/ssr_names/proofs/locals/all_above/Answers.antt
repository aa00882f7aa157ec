use Rattle.std.proofs.Common.{inl, inr, sym, arith}
use Rattle.ssr_base_trees.specs.Workspace.{trees}
use Rattle.ssr_base_trees.proofs.Shared.{is_up}
use Rattle.ssr_names.proofs.Climbing.{above_so_far, above_all}
use Rattle.ssr_names.proofs.locals.all_above.Goals as goal

pub loop-above-init : goal.loop-above-init
loop-above-init c = λ above below. inr below

pub loop-above-smaller : goal.loop-above-smaller
loop-above-smaller c =
    elim (is_up (trees c.args.trees.now) c.loop-above.at c.in-Some.above c.requires.grown (sym c.in-Some.ensures)).earlier [
      | inl tree ↦ omega (arith, tree)
      | inr same ↦ omega (arith, same.0, same.1)
    ]

pub loop-above-preserved : goal.loop-above-preserved
loop-above-preserved c =
    above_so_far (trees c.args.trees.now) c.loop-above.found.items c.push.new.self.items c.args.node c.loop-above.at c.in-Some.above c.in_ok-push.ensures.items
    (sym c.in-Some.ensures) c.loop-above.invariant

pub returns : goal.returns
returns c =
    above_all (trees c.args.trees.now) c.loop-above.found.items c.args.node c.loop-above.at (sym c.in_default.ensures) c.loop-above.invariant

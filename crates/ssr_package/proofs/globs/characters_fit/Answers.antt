use Rattle.std.proofs.Common.{Bool, List, ℕ, ◌<◌, drop, sym, subst, arith}
use Rattle.ssr_package.specs.Private.Globs.{IsRow}
use Rattle.ssr_package.proofs.GlobLaws.{behind_first}
use Rattle.ssr_package.proofs.globs.characters_fit.Goals as goal

pub row_of-requires-clause-below : goal.row_of-requires-clause-below
row_of-requires-clause-below c =
    let some : 0 < c.loop-start.start = omega arith in
    subst (λ (end : List ℕ). IsRow c.args.pattern.now end c.deref.result.now) (sym (behind_first c.args.name.now c.loop-start.start some))
    (subst (λ (row : List Bool). IsRow c.args.pattern.now (drop c.loop-start.start c.args.name.now) row) (sym c.deref.ensures.value) c.loop-start.invariant.row)

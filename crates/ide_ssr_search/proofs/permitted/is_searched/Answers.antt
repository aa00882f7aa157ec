use Rattle.std.proofs.Common.{false, true, ◌≡◌, sym, ◌∙◌, arith, length, rules}
use Rattle.std.proofs.lemmas.Grind.{common_steps}
use Rattle.std.proofs.lemmas.Bool.{eqb-false}
use Rattle.ssr_base_trees.specs.Workspace.{file_span_of}
use Rattle.ide_ssr_search.proofs.Searched.{searched_nowhere}
use Rattle.ide_ssr_search.proofs.permitted.is_searched.Goals as goal

pub returns : goal.returns
returns c =
    let none : length c.args.restrictions.now ≡ 0 → ⊥ = eqb-false (length c.args.restrictions.now) 0 (sym c.is_empty.ensures ∙ c.if-is_empty.false) in (
      λ is. let e : false ≡ true = is in cc,
      λ is. absurd (searched_nowhere c.args.restrictions.now (file_span_of c.args.range) c.loop-restriction.restriction-index (omega arith) (omega (arith, none)) c.loop-restriction.invariant is),
    )

pub returns-then-lies_in : goal.returns-then-lies_in
returns-then-lies_in c = first_of (search rules steps 1000000, grind (arith, common_steps) steps 1000000)

pub loop-restriction-preserved : goal.loop-restriction-preserved
loop-restriction-preserved c = first_of (search rules steps 1000000, grind (arith, common_steps) steps 1000000)

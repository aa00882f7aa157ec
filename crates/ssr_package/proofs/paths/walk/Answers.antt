use Rattle.std.proofs.Common.{◌≡◌, true, false, Some, length, ap, sym, ◌∙◌, rules, arith}
use Rattle.ssr_package.specs.Paths as spec
use Rattle.ssr_package.proofs.PathLaws.{parts_once, walked_none, same_place}
use Rattle.ssr_package.proofs.paths.walk.Goals as goal

-- The path goes on by its first part, and then by the others.
pub returns-then-not-is_inside : goal.returns-then-not-is_inside
returns-then-not-is_inside c =
    let l = c.loop-part in
    let cut = rw c.in-Some.is at (parts_once l.rest.now c.split_once.result c.split_once.ensures.cases) in
    let outside : c.in_ok-is_inside.is_inside ≡ false = search rules in
    let out = rw outside at c.in_ok-is_inside.ensures in
    sym l.invariant.1 ∙ (ap (spec.walked (Some (spec.texts l.parts))) cut ∙ (ap (λ place. spec.walked place (spec.parts c.in-Some.after.now)) out ∙ walked_none (spec.parts c.in-Some.after.now)))

pub loop-part-smaller : goal.loop-part-smaller
loop-part-smaller c =
    let cut = rw c.in-Some.is at (parts_once c.loop-part.rest.now c.split_once.result c.split_once.ensures.cases) in
    omega (arith, ap length cut)

pub loop-part-preserved : goal.loop-part-preserved
loop-part-preserved c =
    let l = c.loop-part in
    let cut = rw c.in-Some.is at (parts_once l.rest.now c.split_once.result c.split_once.ensures.cases) in
    let inside : c.in_ok-is_inside.is_inside ≡ true = search rules in
    let on = rw inside at c.in_ok-is_inside.ensures in
    (search rules, sym (ap (λ place. spec.walked place (spec.parts c.in-Some.after.now)) on) ∙ (sym (ap (spec.walked (Some (spec.texts l.parts))) cut) ∙ l.invariant.1))

pub returns : goal.returns
returns c =
    let l = c.loop-part in
    let last = rw c.in_default.is at (parts_once l.rest.now c.split_once.result c.split_once.ensures.cases) in
    let same = sym l.invariant.1 ∙ ap (spec.walked (Some (spec.texts l.parts))) last in
    same_place _ _ _ _ same c.step-2.ensures

use Rattle.std.proofs.Common.{◌≡◌, true, false, length, ap, sym, ◌∙◌, codes, rules, arith}
use Rattle.std.specs.Str.{bytes_eq}
use Rattle.ssr_package.specs.Paths.{parts}
use Rattle.ssr_changes.proofs.Names.{alone_up, others_up, part_up, parts_once}
use Rattle.ssr_changes.proofs.naming.leads_up.Goals as goal

pub returns-then-eq : goal.returns-then-eq
returns-then-eq c =
    let l = c.loop-part in
    let cut = rw c.in-Some.is at (parts_once l.rest.now c.split_once.result c.split_once.ensures.cases) in
    let yes : bytes_eq c.in-Some.part.now (codes "..") ≡ true = sym c.eq.ensures ∙ c.if-eq.true in
    sym (sym l.invariant.1 ∙ part_up l.rest.now c.in-Some.part.now (parts c.in-Some.after.now) cut yes)

pub loop-part-smaller : goal.loop-part-smaller
loop-part-smaller c =
    let cut = rw c.in-Some.is at (parts_once c.loop-part.rest.now c.split_once.result c.split_once.ensures.cases) in
    omega (arith, ap length cut)

pub loop-part-preserved : goal.loop-part-preserved
loop-part-preserved c =
    let l = c.loop-part in
    let cut = rw c.in-Some.is at (parts_once l.rest.now c.split_once.result c.split_once.ensures.cases) in
    let no : bytes_eq c.in-Some.part.now (codes "..") ≡ false = sym c.eq.ensures ∙ c.if-eq.false in
    (search rules, others_up l.rest.now c.in-Some.part.now (parts c.in-Some.after.now) cut no ∙ l.invariant.1)

pub returns : goal.returns
returns c =
    let l = c.loop-part in
    let last = rw c.in_default.is at (parts_once l.rest.now c.split_once.result c.split_once.ensures.cases) in
    c.eq-2.ensures ∙ sym (sym l.invariant.1 ∙ alone_up l.rest.now last)

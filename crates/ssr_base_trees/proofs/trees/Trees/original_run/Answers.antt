use Rattle.std.proofs.Common.{rules, ◌≡◌, ◌+◌, length, map, slice_get, Some, None, sym, ap, ◌∙◌, subst, arith}
use Rattle.std.specs.List.{slice_range}
use Rattle.ssr_base_trees.specs.Built.{IsBuilt}
use Rattle.ssr_base_trees.specs.Origins.{cover_of, covered, plain_origin}
use Rattle.ssr_base_trees.proofs.StoredLaws.{stored_counted, run_covered, run_lacking, run_of_file, run_absent}
use Rattle.ssr_base_trees.proofs.Numbers.{got}
use Rattle.ssr_base_trees.proofs.trees.Trees.original_run.Goals as goal

pub returns-in_err-last-in-Some : goal.returns-in_err-last-in-Some
returns-in_err-last-in-Some c =
    let e = c.in-Some.expansion.now in
    rw (run_lacking c.args.self.now c.args.tree e c.args.run c.in-Some.ensures.found (sym c.in_err-last-in-Some.ensures.there)) (search rules)

pub returns-in_err-get-in-None : goal.returns-in_err-get-in-None
returns-in_err-get-in-None c =
    let files = c.args.self.now.files in
    let t = c.args.tree in
    let none : slice_get files t ≡ None =
    sym (got files c.deref.result.now t None (c.deref.ensures.value ∙ ap (λ w. w.files) c.self.view_is) c.in_err-get-in-None.ensures.lookup) in
    rw (run_absent c.args.self.now t c.args.run c.in-None.ensures.none none) (search rules)

pub returns-in_ok-get-in-None : goal.returns-in_ok-get-in-None
returns-in_ok-get-in-None c =
    let files = c.args.self.now.files in
    let t = c.args.tree in
    let tree = c.in_ok-get-in-None.field-0 in
    let some : slice_get files t ≡ Some tree.now =
    sym (got files c.deref.result.now t (Some tree) (c.deref.ensures.value ∙ ap (λ w. w.files) c.self.view_is) c.in_ok-get-in-None.ensures.lookup) in
    c.own_run_range.ensures ∙ sym (run_of_file c.args.self.now t c.args.run tree.now some)

pub slice_bounds-cover_all-end : goal.slice_bounds-cover_all-end
slice_bounds-cover_all-end c =
    let e = c.in-Some.expansion.now in
    let counted = stored_counted c.args.self.now c.args.tree e (subst IsBuilt c.self.view_is c.self.invariant.built) c.in-Some.ensures.found in
    omega (arith, c.in_ok-last-in-Some.ensures.has, counted, ap length c.as_slice-origins.ensures.value)

pub returns-in_ok-last-in-Some : goal.returns-in_ok-last-in-Some
returns-in_ok-last-in-Some c =
    let e = c.in-Some.expansion.now in
    let first = c.args.run.first in
    let told = c.in_ok-last-in-Some.ensures in
    c.range.ensures
    ∙ ap covered c.cover_all.ensures
    ∙ ap (λ origins. covered (cover_of (map plain_origin (slice_range origins first (c.in_ok-last-in-Some.last.0 + 1))))) c.as_slice-origins.ensures.value
    ∙ ap (λ past. covered (cover_of (map plain_origin (slice_range e.origins.items first past)))) (let past : c.in_ok-last-in-Some.last.0 + 1 ≡ first + c.args.run.count = omega (arith, told.last) in past)
    ∙ sym (run_covered c.args.self.now c.args.tree e c.args.run c.in-Some.ensures.found (sym told.there))

use Rattle.std.proofs.Common.{ℕ, ◌+◌, ap, arith}
use Rattle.ssr_diff.specs.declared.places.Place.{Place}
use Rattle.ssr_diff.proofs.HunkLaws.{closed_more}
use Rattle.ssr_diff.proofs.hunks.OpenHunk.close.Goals as goal

pub write-requires-clause-old : goal.write-requires-clause-old
write-requires-clause-old c =
    let start = ap (λ (p : Place). p.old) c.in_ok-hunk.ensures.start in
    let end = ap (λ (p : Place). p.old) c.in_ok-hunk.ensures.end in
    omega (arith, start, end, c.requires.shown.shows.order.old_order)

pub write-requires-clause-new : goal.write-requires-clause-new
write-requires-clause-new c =
    let start = ap (λ (p : Place). p.new) c.in_ok-hunk.ensures.start in
    let end = ap (λ (p : Place). p.new) c.in_ok-hunk.ensures.end in
    omega (arith, start, end, c.requires.shown.shows.order.new_order)

pub returns : goal.returns
returns c =
    let place : ℕ → Place = λ n. record { old = c.args.self.end.old + n; new = c.args.self.end.new + n } in
    closed_more _ _ _ _ _ c.in_ok-hunk.hunk _ _ c.requires.shown c.requires.same c.requires.context (ap place c.min-context.ensures) c.in_ok-hunk.ensures c.in_ok-write.ensures

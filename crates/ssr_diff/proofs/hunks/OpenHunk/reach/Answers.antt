use Rattle.std.proofs.Common.{◌+◌, ◌<◌, ◌≤◌, arith}
use Rattle.ssr_diff.proofs.HunkLaws.{ready_near, ready_next}
use Rattle.ssr_diff.proofs.hunks.OpenHunk.reach.Goals as goal

pub returns-then-is_near : goal.returns-then-is_near
returns-then-is_near c = ready_near _ _ _ _ c.in_ok-hunk.hunk _ c.requires.shown c.requires.same c.in_ok-hunk.ensures

pub returns : goal.returns
returns c =
    let far : c.args.place.old ≤ c.args.self.end.old + 6 → ⊥ = λ near. let is = c.if-is_near.ensures.1 near in cc in
    let apart : c.args.self.end.old + 6 < c.args.place.old = omega (arith, far) in
    ready_next _ _ _ _ _ c.in_ok-hunk-2.hunk c.in_ok-text.ensures c.requires.same apart c.in_ok-hunk-2.ensures.start c.in_ok-hunk-2.ensures.end
    c.in_ok-hunk-2.ensures.text

use Rattle.std.proofs.Common.{◌+◌, ap, length-append}
use Rattle.ssr_syntax_kinds.proofs.Zips.{zip2-push, popped}
use Rattle.ssr_syntax_kinds.specs.TokenRows.{row_with}
use Rattle.ssr_syntax_kinds.proofs.token_rows.TokenRows.push.Goals as goal

pub invariant_of-self : goal.invariant_of-self
invariant_of-self c = rw c.in_err-push.ensures.items c.self.invariant

pub invariant_of-self-in-Ok : goal.invariant_of-self-in-Ok
invariant_of-self-in-Ok c = rw (c.in_ok-push.ensures.items, c.in-Ok.ensures.items) (simp length-append (ap (λ n. n + 1) c.self.invariant))

pub invariant_of-self-in-Err : goal.invariant_of-self-in-Err
invariant_of-self-in-Err c =
    rw (popped c.self.inside.kinds c.push.new.self c.pop.new.self c.args.row.kind c.in_ok-push.ensures.items c.pop.ensures.rest, c.in-Err.ensures.items) c.self.invariant

pub returns-in-Ok : goal.returns-in-Ok
returns-in-Ok c =
    rw (c.in_ok-push.ensures.items, c.in-Ok.ensures.items, ← c.self.view_is)
    (zip2-push row_with c.self.inside.kinds.items c.self.inside.starts.items c.args.row.kind c.args.row.start c.self.invariant)

pub returns-in-Err : goal.returns-in-Err
returns-in-Err c =
    rw (popped c.self.inside.kinds c.push.new.self c.pop.new.self c.args.row.kind c.in_ok-push.ensures.items c.pop.ensures.rest, c.in-Err.ensures.items) c.self.view_is

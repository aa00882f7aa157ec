use Rattle.std.proofs.Common.{◌≡◌, drop}
use Rattle.ide_ssr_rewriting.specs.Private.Comments.{bound_from}
use Rattle.ide_ssr_rewriting.proofs.comments.bound_from.Given as goal

abbrev pub invariant-loop-binding : goal.invariant-loop-binding
invariant-loop-binding l = bound_from l.tree l.token (drop l.binding-index l.bindings) ≡ bound_from l.tree l.token l.bindings

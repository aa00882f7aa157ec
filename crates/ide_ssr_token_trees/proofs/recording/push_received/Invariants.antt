use Rattle.std.proofs.Common.{◌≡◌, ◌++◌, map, take}
use Rattle.ide_ssr_bindings.specs.Receivers.{received}
use Rattle.ide_ssr_token_trees.proofs.recording.push_received.Given as goal

abbrev pub invariant-loop-binding : goal.invariant-loop-binding
invariant-loop-binding l = l.out.items ≡ l.fn.out.items ++ map (received l.receiver) (take l.binding-index l.held)

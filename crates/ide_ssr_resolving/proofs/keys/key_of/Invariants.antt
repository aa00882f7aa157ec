use Rattle.std.proofs.Common.{◌≡◌, map, take, string_bytes}
use Rattle.ide_ssr_resolving.proofs.Pieces.{spaced_at}
use Rattle.ide_ssr_resolving.proofs.keys.key_of.Given as goal

abbrev pub invariant-loop-piece : goal.invariant-loop-piece
invariant-loop-piece l = map string_bytes l.key.items ≡ map (spaced_at l.tree) (take l.piece-index l.piece-items)

use Rattle.std.proofs.Common.{◌≡◌}
use Rattle.std.specs.List.{list_any}
use Rattle.ide_ssr_resolving.specs.Used.{names_placeholder}
use Rattle.ide_ssr_resolving.specs.Private.Pieces.{tokens_between}
use Rattle.ide_ssr_resolving.proofs.stand_ins.has_stand_in.Given as goal

abbrev pub invariant-loop-number : goal.invariant-loop-number
invariant-loop-number l =
    list_any (names_placeholder l.names) (tokens_between l.tree l.number l.fn.piece.past)
    ≡ list_any (names_placeholder l.names) (tokens_between l.tree l.fn.piece.first l.fn.piece.past)

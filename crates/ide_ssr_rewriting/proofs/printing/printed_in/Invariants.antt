use Rattle.std.proofs.Common.{◌≡◌, map, string_bytes, take}
use Rattle.ide_ssr_rewriting.specs.Printing.{printed_as}
use Rattle.ide_ssr_rewriting.proofs.printing.printed_in.Given as goal

abbrev pub invariant-loop-path : goal.invariant-loop-path
invariant-loop-path g l =
    map string_bytes l.texts.items ≡ map (λ path. printed_as (g.S.Semantics.meanings l.semantics) l.scope path.res) (take l.path-index l.paths)

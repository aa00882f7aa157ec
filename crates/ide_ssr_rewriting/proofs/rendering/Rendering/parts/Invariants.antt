use Rattle.std.proofs.Common.{◌≡◌, map, string_bytes}
use Rattle.std.specs.List.{range_with_len}
use Rattle.ide_ssr_rewriting.specs.Private.Parts.{told, told_for}
use Rattle.ide_ssr_rewriting.specs.Private.Pieces.{piece_bytes}
use Rattle.ide_ssr_rewriting.specs.Rendering.{filling_of}
use Rattle.ide_ssr_rewriting.proofs.rendering.Rendering.parts.Given as goal

abbrev pub invariant-loop-token : goal.invariant-loop-token
invariant-loop-token l =
    map told l.parts.items
    ≡ map (told_for l.self.rule.now (filling_of l.self.bindings.now (map piece_bytes l.self.pieces.now) (map string_bytes l.self.printed.now)) l.self.template.now) (range_with_len 0 l.token)

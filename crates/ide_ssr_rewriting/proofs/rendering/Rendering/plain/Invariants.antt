use Rattle.std.proofs.Common.{◌≡◌, ◌++◌, drop, map, string_bytes}
use Rattle.ide_ssr_rewriting.specs.Private.Pieces.{piece_bytes}
use Rattle.ide_ssr_rewriting.specs.Rendering.{filling_of, token_numbers, plain}
use Rattle.ide_ssr_rewriting.proofs.rendering.Rendering.plain.Given as goal

abbrev pub invariant-loop-token : goal.invariant-loop-token
invariant-loop-token l =
    string_bytes l.text ++ plain l.self.rule.now (filling_of l.self.bindings.now (map piece_bytes l.self.pieces.now) (map string_bytes l.self.printed.now)) l.self.template.now (drop l.token (token_numbers l.self.template.now))
    ≡ plain l.self.rule.now (filling_of l.self.bindings.now (map piece_bytes l.self.pieces.now) (map string_bytes l.self.printed.now)) l.self.template.now (token_numbers l.self.template.now)

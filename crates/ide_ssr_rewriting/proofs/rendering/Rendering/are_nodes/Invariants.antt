use Rattle.std.proofs.Common.{◌≡◌, ◌+◌, length, drop, map, string_bytes}
use Rattle.ide_ssr_rewriting.specs.Private.Pieces.{piece_bytes}
use Rattle.ide_ssr_rewriting.specs.Rendering.{filling_of, token_numbers, plain, wrapped}
use Rattle.ide_ssr_rewriting.proofs.rendering.Rendering.are_nodes.Given as goal

abbrev pub invariant-loop-token : goal.invariant-loop-token
invariant-loop-token l = record {
  so_far : wrapped l.tree l.front l.self.rule.now (filling_of l.self.bindings.now (map piece_bytes l.self.pieces.now) (map string_bytes l.self.printed.now)) l.self.template.now l.at (drop l.token (token_numbers l.self.template.now))
      ≡ plain l.self.rule.now (filling_of l.self.bindings.now (map piece_bytes l.self.pieces.now) (map string_bytes l.self.printed.now)) l.self.template.now (drop l.token (token_numbers l.self.template.now))
      → wrapped l.tree l.front l.self.rule.now (filling_of l.self.bindings.now (map piece_bytes l.self.pieces.now) (map string_bytes l.self.printed.now)) l.self.template.now 0 (token_numbers l.self.template.now)
      ≡ plain l.self.rule.now (filling_of l.self.bindings.now (map piece_bytes l.self.pieces.now) (map string_bytes l.self.printed.now)) l.self.template.now (token_numbers l.self.template.now);
  within : l.at + length (plain l.self.rule.now (filling_of l.self.bindings.now (map piece_bytes l.self.pieces.now) (map string_bytes l.self.printed.now)) l.self.template.now (drop l.token (token_numbers l.self.template.now)))
      ≡ length (plain l.self.rule.now (filling_of l.self.bindings.now (map piece_bytes l.self.pieces.now) (map string_bytes l.self.printed.now)) l.self.template.now (token_numbers l.self.template.now));
}

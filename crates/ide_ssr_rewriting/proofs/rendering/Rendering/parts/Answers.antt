use Rattle.std.proofs.Common.{map, string_bytes, arith}
use Rattle.ide_ssr_rewriting.specs.Private.Pieces.{piece_bytes}
use Rattle.ide_ssr_rewriting.specs.Rendering.{filling_of}
use Rattle.ide_ssr_rewriting.proofs.Parts.{parts_more, parts_all}
use Rattle.ide_ssr_rewriting.proofs.rendering.Rendering.parts.Goals as goal

pub loop-token-preserved : goal.loop-token-preserved
loop-token-preserved c =
    parts_more c.args.self.now.rule.now (filling_of c.args.self.now.bindings.now (map piece_bytes c.args.self.now.pieces.now) (map string_bytes c.args.self.now.printed.now)) c.args.self.now.template.now
    c.loop-token.token _ _ c.part.result c.loop-token.invariant c.part.ensures.text c.part.ensures.piece c.in_ok-push.ensures.items

pub returns : goal.returns
returns c =
    parts_all c.args.self.now.rule.now (filling_of c.args.self.now.bindings.now (map piece_bytes c.args.self.now.pieces.now) (map string_bytes c.args.self.now.printed.now)) c.args.self.now.template.now
    c.loop-token.token _ (omega arith) c.loop-token.invariant

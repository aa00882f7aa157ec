use Rattle.std.proofs.Common.{◌<◌, arith}
use Rattle.ssr_syntax_shorts.specs.Shorts.{long_place}
use Rattle.ssr_syntax_shorts.proofs.JoinedParts.{loose_told}
use Rattle.ssr_syntax_shorts.proofs.joining.is_loose.Goals as goal

pub returns : goal.returns
returns c = λ reach long at read begins ends.
    let placed = c.args.placed.now in
    let names = c.args.tree.now.names in
    let some : placed.from < placed.to = omega arith in
    loose_told read.syntax at placed.part (long_place names placed.from) (long_place names placed.to) c.is_piece.result c.is_node.result
    c.is_piece.ensures c.if-not-is_piece.false begins.place ends.place
    (c.is_node.ensures.long reach long read some begins.outside ends.outside)

use Rattle.std.proofs.Common.{◌≡◌, ◌∙◌, sym, map, string_bytes, rules}
use Rattle.ide_ssr_rewriting.specs.Private.Pieces.{piece_bytes}
use Rattle.ide_ssr_rewriting.specs.Rendering.{filling_of, token_numbers, wrapped}
use Rattle.ide_ssr_rewriting.proofs.rendering.rendered.Goals as goal

pub returns-then-are_nodes : goal.returns-then-are_nodes
returns-then-are_nodes c =
    let rule = c.args.rule.now in
    let spelled : string_bytes c.in_ok-plain.plain
    ≡ wrapped c.in-Ok.tree c.in-Ok.front rule (filling_of c.args.bindings.now (map piece_bytes c.args.pieces.now) (map string_bytes c.args.printed.now)) c.in-Some.template.now 0 (token_numbers c.in-Some.template.now) =
    c.in_ok-plain.ensures ∙ sym (c.are_nodes.ensures c.if-are_nodes.true) in
    search rules steps 2000000

pub returns-in-Err : goal.returns-in-Err
returns-in-Err c = search rules steps 1000000

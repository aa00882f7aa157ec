use Rattle.std.proofs.Common.{◌≡◌, ◌++◌, [], List, ℕ, drop, map, string_bytes, ap, sym, ◌∙◌, arith, append-nil}
use Rattle.ide_ssr_rewriting.specs.Private.Pieces.{piece_bytes}
use Rattle.ide_ssr_rewriting.specs.Rendering.{filling_of, token_numbers, plain}
use Rattle.ide_ssr_rewriting.proofs.Tokens.{no_numbers}
use Rattle.ide_ssr_rewriting.proofs.Templates.{pushed, plain_from}
use Rattle.ide_ssr_rewriting.proofs.rendering.Rendering.plain.Goals as goal

pub loop-token-preserved : goal.loop-token-preserved
loop-token-preserved c =
    pushed _ _ _ _ _ _ c.loop-token.invariant
    (plain_from c.args.self.now.rule.now (filling_of c.args.self.now.bindings.now (map piece_bytes c.args.self.now.pieces.now) (map string_bytes c.args.self.now.printed.now)) c.args.self.now.template.now c.loop-token.token (omega arith))
    (c.in_ok-push_str.ensures.bytes ∙ ap (λ (t : List ℕ). string_bytes c.loop-token.text ++ t) c.text_for.ensures)

pub returns : goal.returns
returns c =
    let none : drop c.loop-token.token (token_numbers c.args.self.now.template.now) ≡ [] = no_numbers c.args.self.now.template.now c.loop-token.token (omega arith) in
    sym (append-nil (string_bytes c.loop-token.text))
    ∙ (ap (λ (ts : List ℕ). string_bytes c.loop-token.text ++ plain c.args.self.now.rule.now (filling_of c.args.self.now.bindings.now (map piece_bytes c.args.self.now.pieces.now) (map string_bytes c.args.self.now.printed.now)) c.args.self.now.template.now ts) (sym none)
    ∙ c.loop-token.invariant)

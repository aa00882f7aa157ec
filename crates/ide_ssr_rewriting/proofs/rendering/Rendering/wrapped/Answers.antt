use Rattle.std.proofs.Common.{◌≡◌, ◌++◌, ◌+◌, ◌<◌, ◌^◌, [], List, Bool, ℕ, drop, length, map, string_bytes, ap, sym, ◌∙◌, arith, append-nil, rules}
use Rattle.ide_ssr_rewriting.specs.Private.Pieces.{piece_bytes}
use Rattle.ssr_syntax_tree.specs.Places.{HasToken}
use Rattle.ide_ssr_rewriting.specs.Rendering.{filling_of, token_numbers, text_for, is_piece, wrapped, wrapped_text}
use Rattle.ide_ssr_rewriting.proofs.Tokens.{no_numbers}
use Rattle.ide_ssr_rewriting.proofs.Templates.{pushed, plain_from, wrapped_from, still_within, bounded}
use Rattle.ide_ssr_rewriting.proofs.rendering.Rendering.wrapped.Goals as goal

pub push_wrapped-requires : goal.push_wrapped-requires
push_wrapped-requires c =
    bounded _ _ _ _ _ _ c.loop-token.invariant.within
    (plain_from c.args.self.now.rule.now (filling_of c.args.self.now.bindings.now (map piece_bytes c.args.self.now.pieces.now) (map string_bytes c.args.self.now.printed.now)) c.args.self.now.template.now c.loop-token.token (omega arith))
    c.requires.length c.text_for-text.ensures

pub overflow_add-at : goal.overflow_add-at
overflow_add-at c =
    let bound : c.loop-token.at + length c.text_for-text.result.now < 2 ^ 64 = bounded _ _ _ _ _ _ c.loop-token.invariant.within
    (plain_from c.args.self.now.rule.now (filling_of c.args.self.now.bindings.now (map piece_bytes c.args.self.now.pieces.now) (map string_bytes c.args.self.now.printed.now)) c.args.self.now.template.now c.loop-token.token (omega arith))
    c.requires.length c.text_for-text.ensures in
    search rules steps 2000000

pub loop-token-preserved : goal.loop-token-preserved
loop-token-preserved c =
    let has : HasToken c.args.self.now.template.now c.loop-token.token = omega arith in
    let text : c.text_for-text.result.now ≡ text_for c.args.self.now.rule.now (filling_of c.args.self.now.bindings.now (map piece_bytes c.args.self.now.pieces.now) (map string_bytes c.args.self.now.printed.now)) c.args.self.now.template.now c.loop-token.token = c.text_for-text.ensures in
    let piece : c.is_piece-is_piece.result ≡ is_piece c.args.self.now.rule.now c.args.self.now.template.now c.loop-token.token = c.is_piece-is_piece.ensures in
    rw text record {
      spelled = pushed _ _ _ _ _ _ c.loop-token.invariant.spelled
          (wrapped_from c.args.tree.now c.args.front c.args.self.now.rule.now (filling_of c.args.self.now.bindings.now (map piece_bytes c.args.self.now.pieces.now) (map string_bytes c.args.self.now.printed.now)) c.loop-token.at c.args.self.now.template.now c.loop-token.token has)
          (c.in_ok-push_wrapped.ensures
          ∙ (ap (λ (b : Bool). string_bytes c.loop-token.wrapped ++ wrapped_text c.args.tree.now c.args.front b c.loop-token.at c.text_for-text.result.now) piece
          ∙ ap (λ (t : List ℕ). string_bytes c.loop-token.wrapped ++ wrapped_text c.args.tree.now c.args.front (is_piece c.args.self.now.rule.now c.args.self.now.template.now c.loop-token.token) c.loop-token.at t) text));
      within = still_within _ _ _ _ _ c.loop-token.invariant.within
          (plain_from c.args.self.now.rule.now (filling_of c.args.self.now.bindings.now (map piece_bytes c.args.self.now.pieces.now) (map string_bytes c.args.self.now.printed.now)) c.args.self.now.template.now c.loop-token.token has);
    }

pub returns : goal.returns
returns c =
    let none : drop c.loop-token.token (token_numbers c.args.self.now.template.now) ≡ [] = no_numbers c.args.self.now.template.now c.loop-token.token (omega arith) in
    sym (append-nil (string_bytes c.loop-token.wrapped))
    ∙ (ap (λ (ts : List ℕ). string_bytes c.loop-token.wrapped ++ wrapped c.args.tree.now c.args.front c.args.self.now.rule.now (filling_of c.args.self.now.bindings.now (map piece_bytes c.args.self.now.pieces.now) (map string_bytes c.args.self.now.printed.now)) c.args.self.now.template.now c.loop-token.at ts) (sym none)
    ∙ c.loop-token.invariant.spelled)

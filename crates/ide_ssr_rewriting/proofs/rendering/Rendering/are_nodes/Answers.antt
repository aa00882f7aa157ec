use Rattle.std.proofs.Common.{◌≡◌, ◌&&◌, ◌+◌, ◌<◌, ◌^◌, not, false, true, List, Bool, ℕ, length, map, ap, sym, ◌∙◌, arith, subst, rules, string_bytes}
use Rattle.ide_ssr_rewriting.specs.Private.Pieces.{piece_bytes}
use Rattle.ssr_syntax_tree.specs.Places.{HasToken}
use Rattle.ide_ssr_rewriting.specs.Rendering.{filling_of, text_for, is_piece, is_node, wrapped, plain}
use Rattle.ide_ssr_rewriting.proofs.Tokens.{no_numbers}
use Rattle.ide_ssr_rewriting.proofs.Templates.{plain_from, wrapped_from, still_within, bounded, unwrapped, stays}
use Rattle.ide_ssr_rewriting.proofs.rendering.Rendering.are_nodes.Goals as goal

pub is_wrapped-requires : goal.is_wrapped-requires
is_wrapped-requires c =
    bounded _ _ _ _ _ _ c.loop-token.invariant.within
    (plain_from c.args.self.now.rule.now (filling_of c.args.self.now.bindings.now (map piece_bytes c.args.self.now.pieces.now) (map string_bytes c.args.self.now.printed.now)) c.args.self.now.template.now c.loop-token.token (omega arith))
    c.requires.length c.text_for-text.ensures

pub overflow_add-at : goal.overflow_add-at
overflow_add-at c =
    let bound : c.loop-token.at + length c.text_for-text.result.now < 2 ^ 64 = bounded _ _ _ _ _ _ c.loop-token.invariant.within
    (plain_from c.args.self.now.rule.now (filling_of c.args.self.now.bindings.now (map piece_bytes c.args.self.now.pieces.now) (map string_bytes c.args.self.now.printed.now)) c.args.self.now.template.now c.loop-token.token (omega arith))
    c.requires.length c.text_for-text.ensures in
    search rules steps 2000000

pub returns-then-is_wrapped : goal.returns-then-is_wrapped
returns-then-is_wrapped c = λ is. let e : false ≡ true = is in cc

pub loop-token-preserved : goal.loop-token-preserved
loop-token-preserved c =
    let tree = c.args.tree.now in
    let front = c.args.front in
    let at = c.loop-token.at in
    let rule = c.args.self.now.rule.now in
    let filling = filling_of c.args.self.now.bindings.now (map piece_bytes c.args.self.now.pieces.now) (map string_bytes c.args.self.now.printed.now) in
    let template = c.args.self.now.template.now in
    let n = c.loop-token.token in
    let has : HasToken template n = omega arith in
    let text : c.text_for-text.result.now ≡ text_for rule filling template n = c.text_for-text.ensures in
    let piece : c.is_piece-is_piece.result ≡ is_piece rule template n = c.is_piece-is_piece.ensures in
    let off : (is_piece rule template n && not (is_node tree front at (at + length (text_for rule filling template n)))) ≡ false =
    subst (λ (t : List ℕ). (is_piece rule template n && not (is_node tree front at (at + length t))) ≡ false) text
    (subst (λ (b : Bool). (b && not (is_node tree front at (at + length c.text_for-text.result.now))) ≡ false) piece (sym c.is_wrapped.ensures ∙ c.if-is_wrapped.false)) in
    rw text record {
      so_far = λ behind. c.loop-token.invariant.so_far
          (stays _ _ _ _ _ _ (wrapped_from tree front rule filling at template n has)
          (unwrapped tree front at (is_piece rule template n) (text_for rule filling template n) off)
          (plain_from rule filling template n has) behind);
      within = still_within _ _ _ _ _ c.loop-token.invariant.within (plain_from rule filling template n has);
    }

pub returns : goal.returns
returns c =
    let rule = c.args.self.now.rule.now in
    let filling = filling_of c.args.self.now.bindings.now (map piece_bytes c.args.self.now.pieces.now) (map string_bytes c.args.self.now.printed.now) in
    let none = no_numbers c.args.self.now.template.now c.loop-token.token (omega arith) in
    λ is. c.loop-token.invariant.so_far
    (ap (wrapped c.args.tree.now c.args.front rule filling c.args.self.now.template.now c.loop-token.at) none ∙ sym (ap (plain rule filling c.args.self.now.template.now) none))

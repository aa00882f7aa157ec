use Rattle.std.proofs.Common.{ℕ, sym, ap, subst, ◌∙◌, arith}
use Rattle.std.proofs.lemmas.Bool.{not-false}
use Rattle.std.specs.Cmp.Lexicographic.{same_text}
use Rattle.ssr_macro_arguments.specs.Arguments.{Piece}
use Rattle.ssr_macro_arguments.specs.Calls.{IsHandedIn}
use Rattle.ssr_macro_arguments.proofs.Between.{as_many, found_there, text_there, spelled_there}
use Rattle.ssr_macro_arguments.proofs.arguments.handed_in_at.Goals as goal

pub index-token-requires : goal.index-token-requires
index-token-requires c =
    let tokens = c.args.above.now.read.expansion.tokens in
    omega (
      arith,
      c.in-Ok.ensures.bound,
      as_many tokens.items c.deref.result.now (c.deref.ensures.value ∙ c.args.above.now.begin),
      tokens.ok.0,
    )

pub returns-clause-argument : goal.returns-clause-argument
returns-clause-argument c =
    let tokens = c.args.above.now.read.expansion.tokens.items in
    let begin = c.deref.ensures.value ∙ c.args.above.now.begin in
    record {
      kind = c.in_ok-copy.ensures.kind ∙ c.token_kind.ensures;
      text =
          text_there _ _ _ _ _ _ _ _ _ _ c.source.ensures c.token_range-range.ensures.start c.token_range-range.ensures.end c.range.ensures.value
          (same_text c.as_str.result.now c.range.result.now (sym (not-false _ (sym c.ne.ensures ∙ c.if-ne.false))))
          c.as_str.ensures.value
          (ap (λ (piece : Piece). piece.text) c.in_ok-copy.ensures.token);
      origin =
          subst (λ (n : ℕ). IsHandedIn tokens n c.in_ok-copy.copy.token) c.token_range-range.ensures.start
          (found_there tokens c.deref.result.now c.in-Ok.place c.token_range-range.result.start c.index-token.result.now c.in_ok-copy.copy.token begin
          (omega (arith, c.in-Ok.ensures.bound, as_many tokens c.deref.result.now begin)) c.in-Ok.ensures.ok c.index-token.ensures
          c.in_ok-copy.ensures.token);
    }

pub returns-clause-spells : goal.returns-clause-spells
returns-clause-spells c = λ text all.
    let tokens = c.args.above.now.read.expansion.tokens.items in
    let begin = c.deref.ensures.value ∙ c.args.above.now.begin in
    spelled_there text tokens c.in-Ok.place c.index-token.result.now _
    (omega (arith, c.in-Ok.ensures.bound, as_many tokens c.deref.result.now begin)) c.index-token.ensures c.in_ok-copy.ensures.token all

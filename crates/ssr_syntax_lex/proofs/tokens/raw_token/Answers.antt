use Rattle.std.proofs.Common.{ℕ, Bool, [], ◌∷◌, ◌∙◌, ap, refl, max, sym}
use Rattle.std.specs.Prelude.{option_to_list}
use Rattle.ssr_syntax_lex.specs.Private.Steps.{token_before}
use Rattle.ssr_syntax_lex.proofs.FromRows.{RawToken-same}
use Rattle.ssr_syntax_lex.proofs.tokens.raw_token.Goals as goal
use Rattle.ssr_syntax_lex.proofs.tokens.raw_token.Goals.{in-Some, in-None}

pub returns : goal.returns
returns c =
    elim c.match-next.branch [
      | in-Some w ↦
          RawToken-same (record { kind = c.args.row.kind; range = c.new.result; joint = c.match-next.end.1 }) (token_before c.args.total c.args.row (w.in-Some.next ∷ []))
          refl c.new.ensures.start (c.new.ensures.end ∙ c.max.ensures ∙ ap (λ (p : ℕ × Bool). max c.args.row.start p.0) w.end-is) (ap (λ (p : ℕ × Bool). p.1) w.end-is ∙ w.is_punctuation.ensures)
          ∙ ap (λ o. token_before c.args.total c.args.row (option_to_list o)) (sym w.in-Some.is)
      | in-None w ↦
          RawToken-same (record { kind = c.args.row.kind; range = c.new.result; joint = c.match-next.end.1 }) (token_before c.args.total c.args.row [])
          refl c.new.ensures.start (c.new.ensures.end ∙ c.max.ensures ∙ ap (λ (p : ℕ × Bool). max c.args.row.start p.0) w.end-is) (ap (λ (p : ℕ × Bool). p.1) w.end-is)
          ∙ ap (λ o. token_before c.args.total c.args.row (option_to_list o)) (sym w.in-None.is)
    ]

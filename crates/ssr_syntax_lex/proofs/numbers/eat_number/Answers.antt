use Rattle.std.proofs.Common.{ap, sym, ◌∙◌, true, false}
use Rattle.std.specs.Str.{chars}
use Rattle.ssr_syntax_lex.specs.Cursor.{run, past}
use Rattle.ssr_syntax_lex.specs.Characters.{continues_word}
use Rattle.ssr_syntax_lex.proofs.NumberCases.{float_by_point, rest_by_point, float_by_sign, rest_by_sign, point_at, pointless, plain_int, plain_rest}
use Rattle.ssr_syntax_lex.proofs.numbers.eat_number.Goals as goal

pub returns-then-has_signed_exponent-clause-kind : goal.returns-then-has_signed_exponent-clause-kind
returns-then-has_signed_exponent-clause-kind c =
    float_by_point _ _ _ _ c.if-dots-eq1.false
    (c.eat_while-run.ensures.text continues_word (λ _ _ p. p)) (c.eat_while-run.ensures.rest continues_word (λ _ _ p. p))
    (point_at (chars c.eat_while-run.result.now) c.eat_while-run.new.self true (sym c.is_plain.ensures ∙ c.if-is_plain.true) (sym c.is_point.ensures ∙ c.if-not-is_point.false))

pub returns-then-has_signed_exponent-clause-rest : goal.returns-then-has_signed_exponent-clause-rest
returns-then-has_signed_exponent-clause-rest c =
    c.eat_signed_run.ensures ∙ rest_by_point _ _ _ _ _ _ true c.if-dots-eq1.false
    (c.eat_while-run.ensures.text continues_word (λ _ _ p. p)) (c.eat_while-run.ensures.rest continues_word (λ _ _ p. p))
    (point_at (chars c.eat_while-run.result.now) c.eat_while-run.new.self true (sym c.is_plain.ensures ∙ c.if-is_plain.true) (sym c.is_point.ensures ∙ c.if-not-is_point.false))
    (c.eat_while-fraction.ensures.text continues_word (λ _ _ p. p) ∙ ap (run continues_word) c.bump.ensures.rest)
    (c.eat_while-fraction.ensures.rest continues_word (λ _ _ p. p) ∙ ap (past continues_word) c.bump.ensures.rest)
    (sym c.has_signed_exponent.ensures ∙ c.if-has_signed_exponent.true)

pub returns-else-has_signed_exponent-clause-kind : goal.returns-else-has_signed_exponent-clause-kind
returns-else-has_signed_exponent-clause-kind c =
    float_by_point _ _ _ _ c.if-dots-eq1.false
    (c.eat_while-run.ensures.text continues_word (λ _ _ p. p)) (c.eat_while-run.ensures.rest continues_word (λ _ _ p. p))
    (point_at (chars c.eat_while-run.result.now) c.eat_while-run.new.self true (sym c.is_plain.ensures ∙ c.if-is_plain.true) (sym c.is_point.ensures ∙ c.if-not-is_point.false))

pub returns-else-has_signed_exponent-clause-rest : goal.returns-else-has_signed_exponent-clause-rest
returns-else-has_signed_exponent-clause-rest c =
    rest_by_point _ _ _ _ _ _ false c.if-dots-eq1.false
    (c.eat_while-run.ensures.text continues_word (λ _ _ p. p)) (c.eat_while-run.ensures.rest continues_word (λ _ _ p. p))
    (point_at (chars c.eat_while-run.result.now) c.eat_while-run.new.self true (sym c.is_plain.ensures ∙ c.if-is_plain.true) (sym c.is_point.ensures ∙ c.if-not-is_point.false))
    (c.eat_while-fraction.ensures.text continues_word (λ _ _ p. p) ∙ ap (run continues_word) c.bump.ensures.rest)
    (c.eat_while-fraction.ensures.rest continues_word (λ _ _ p. p) ∙ ap (past continues_word) c.bump.ensures.rest)
    (sym c.has_signed_exponent.ensures ∙ c.if-has_signed_exponent.false)

pub returns-then-takes_sign-clause-kind : goal.returns-then-takes_sign-clause-kind
returns-then-takes_sign-clause-kind c =
    float_by_sign _ _ _ _ c.if-dots-eq1.false
    (c.eat_while-run.ensures.text continues_word (λ _ _ p. p)) (c.eat_while-run.ensures.rest continues_word (λ _ _ p. p))
    (pointless (chars c.eat_while-run.result.now) c.eat_while-run.new.self (sym c.is_plain.ensures ∙ c.if-is_plain.false)) (sym c.takes_sign.ensures ∙ c.if-takes_sign.true)

pub returns-then-takes_sign-clause-rest : goal.returns-then-takes_sign-clause-rest
returns-then-takes_sign-clause-rest c =
    c.eat_signed_run-then-takes_sign.ensures ∙ rest_by_sign _ _ _ _ c.if-dots-eq1.false
    (c.eat_while-run.ensures.text continues_word (λ _ _ p. p)) (c.eat_while-run.ensures.rest continues_word (λ _ _ p. p))
    (pointless (chars c.eat_while-run.result.now) c.eat_while-run.new.self (sym c.is_plain.ensures ∙ c.if-is_plain.false)) (sym c.takes_sign.ensures ∙ c.if-takes_sign.true)

pub returns-then-not-is_point-clause-kind : goal.returns-then-not-is_point-clause-kind
returns-then-not-is_point-clause-kind c =
    plain_int _ _ _ _ c.if-dots-eq1.false
    (c.eat_while-run.ensures.text continues_word (λ _ _ p. p)) (c.eat_while-run.ensures.rest continues_word (λ _ _ p. p))
    (sym c.is_plain.ensures ∙ c.if-is_plain.true) (sym c.is_point.ensures ∙ c.if-not-is_point.true)

pub returns-then-not-is_point-clause-rest : goal.returns-then-not-is_point-clause-rest
returns-then-not-is_point-clause-rest c =
    plain_rest _ _ _ _ c.if-dots-eq1.false
    (c.eat_while-run.ensures.text continues_word (λ _ _ p. p)) (c.eat_while-run.ensures.rest continues_word (λ _ _ p. p))
    (sym c.is_plain.ensures ∙ c.if-is_plain.true) (sym c.is_point.ensures ∙ c.if-not-is_point.true)

use Rattle.std.proofs.Common.{◌≡◌, encode_utf8_all, sym, ap, ◌∙◌}
use Rattle.std.specs.Str.{chars}
use Rattle.ssr_syntax_lex.specs.Cursor.{past}
use Rattle.std.proofs.lemmas.Str.{IsUtf8-past_char, encodes-chars}
use Rattle.ssr_syntax_lex.proofs.Eaten.{EndsIn-step, EndsIn-boundary, length-past_char, past-passes, past-stops, past-ends, eaten_run}
use Rattle.ssr_syntax_lex.proofs.cursor.Cursor.eat_while.Goals as goal
use Rattle.ssr_syntax_lex.proofs.cursor.Cursor.eat_while.Goals.{in-Some+then-not-passes, in_default}

pub loop-first-smaller : goal.loop-first-smaller
loop-first-smaller g c = length-past_char _ _ c.in-Some.first (c.in-Some.ensures.bytes)

pub loop-first-preserved : goal.loop-first-preserved
loop-first-preserved g c = (
  IsUtf8-past_char _ _ c.in-Some.first c.loop-first.invariant.0 c.in-Some.ensures.bytes,
  EndsIn-step _ _ _ c.in-Some.first c.loop-first.invariant.1 c.in-Some.ensures.bytes,
  λ p agrees. c.loop-first.invariant.2 p agrees ∙ past-passes p _ _ _ c.in-Some.ensures.chars (sym (agrees _ _ c.passes.ensures) ∙ c.if-not-passes.false),
)

pub range-requires-clause-end_boundary : goal.range-requires-clause-end_boundary
range-requires-clause-end_boundary g c = EndsIn-boundary _ _ c.loop-first.invariant.1 c.loop-first.invariant.0

pub returns-clause-text : goal.returns-clause-text
returns-clause-text g c = λ p agrees.
    let stops : past p (chars c.loop-first.rest.now) ≡ chars c.loop-first.rest.now =
    elim c.match-split_first_char.branch [
      | in-Some+then-not-passes w ↦ past-stops p _ _ _ w.in-Some.ensures.chars (sym (agrees _ _ w.passes.ensures) ∙ w.if-not-passes.true)
      | in_default w ↦ past-ends p _ w.in_default.ensures.chars
    ] in
    rw (← c.self.view_is) (eaten_run p _ _ _ c.range.utf8 c.loop-first.invariant.1 c.range.ensures.value (c.loop-first.invariant.2 p agrees ∙ stops))

pub returns-clause-bytes : goal.returns-clause-bytes
returns-clause-bytes g c = λ p agrees.
    sym (encodes-chars _ c.range.utf8) ∙ ap encode_utf8_all (returns-clause-text g c p agrees)

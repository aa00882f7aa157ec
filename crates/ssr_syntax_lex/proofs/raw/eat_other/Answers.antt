use Rattle.std.proofs.Common.{sym, ap, ◌∙◌}
use Rattle.std.specs.Prelude.{Some}
use Rattle.ssr_syntax_lex.proofs.FirstCharacters.{token_mark, token_unknown, fault_plain}
use Rattle.ssr_syntax_lex.proofs.raw.eat_other.Goals as goal

pub returns-in-Some : goal.returns-in-Some
returns-in-Some c =
    token_mark c.args.dots c.args.first c.args.cursor.now c.in-Some.kind c.requires.comes c.requires.plain
    (sym c.mark_kind.ensures ∙ c.in-Some.is)
    ∙ ap (λ cs. Some (c.in-Some.kind, cs)) (sym c.bump.ensures.rest)

pub returns : goal.returns
returns c = (
  token_unknown c.args.dots c.args.first c.args.cursor.now c.requires.comes c.requires.plain
      (sym c.mark_kind.ensures ∙ c.in_default.is)
      (sym c.is_whitespace.ensures ∙ c.if-is_whitespace.false)
      (sym c.starts_word.ensures ∙ c.if-starts_word.false)
      (sym c.is_digit.ensures ∙ c.if-is_digit.false),
  sym (fault_plain c.args.first c.args.cursor.now c.requires.comes c.requires.plain),
)

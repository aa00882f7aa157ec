use Rattle.std.proofs.Common.{◌∙◌, sym, arith}
use Rattle.ssr_reports.proofs.Behind.{line_behind, column_on, column_anew}
use Rattle.ssr_reports.proofs.places.place_behind.Goals as goal

pub returns-then-lines-eq0-clause-line : goal.returns-then-lines-eq0-clause-line
returns-then-lines-eq0-clause-line c =
    omega (arith, c.requires.line, c.line_breaks-lines.ensures.count, line_behind c.args.text.now c.as_bytes.result.now c.args.at c.args.offset c.as_bytes.ensures.value c.requires.order)

pub returns-then-lines-eq0-clause-column : goal.returns-then-lines-eq0-clause-column
returns-then-lines-eq0-clause-column c =
    omega (
      arith,
      c.requires.column,
      c.characters_of_last_line-characters.ensures.count,
      column_on c.args.text.now c.as_bytes.result.now c.args.at c.args.offset c.as_bytes.ensures.value c.requires.order (sym c.line_breaks-lines.ensures.count ∙ c.if-lines-eq0.true),
    )

pub returns-else-lines-eq0-clause-line : goal.returns-else-lines-eq0-clause-line
returns-else-lines-eq0-clause-line c =
    omega (arith, c.requires.line, c.line_breaks-lines.ensures.count, line_behind c.args.text.now c.as_bytes.result.now c.args.at c.args.offset c.as_bytes.ensures.value c.requires.order)

pub returns-else-lines-eq0-clause-column : goal.returns-else-lines-eq0-clause-column
returns-else-lines-eq0-clause-column c =
    omega (
      arith,
      c.characters_of_last_line-characters.ensures.count,
      column_anew c.args.text.now c.as_bytes.result.now c.args.at c.args.offset c.as_bytes.ensures.value c.requires.order (λ none. c.if-lines-eq0.false (c.line_breaks-lines.ensures.count ∙ none)),
    )

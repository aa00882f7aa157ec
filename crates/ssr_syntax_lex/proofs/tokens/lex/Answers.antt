use Rattle.std.proofs.Common.{◌∙◌, ap, sym, Some}
use Rattle.std.specs.Prelude.{Ok}
use Rattle.ssr_syntax_lex.proofs.FromRows.{rows_lexed}
use Rattle.ssr_syntax_lex.proofs.Tiling.{lexes_tile, lexes_spell}
use Rattle.ssr_syntax_lex.proofs.tokens.lex.Goals as goal

pub returns-clause-value : goal.returns-clause-value
returns-clause-value c = (
  c.in_ok-rows.ensures.value.0,
  rows_lexed c.args.text.now c.in_ok-rows.rows c.utf8.text c.in_ok-rows.ensures.value.1 ∙ ap Some (sym c.in_ok-raw_tokens.ensures),
)

pub returns-clause-tiles : goal.returns-clause-tiles
returns-clause-tiles c = lexes_tile c.args.text.now (Ok c.in_ok-raw_tokens.field-0) c.utf8.text (returns-clause-value c)

pub returns-clause-spelled : goal.returns-clause-spelled
returns-clause-spelled c = lexes_spell c.args.text.now (Ok c.in_ok-raw_tokens.field-0) c.utf8.text (returns-clause-value c)

use Rattle.std.proofs.Common.{sym, ◌∙◌}
use Rattle.ssr_syntax_lex.specs.Characters.{is_exponent_mark}
use Rattle.ssr_syntax_lex.proofs.NumberLaws.{last_passes}
use Rattle.ssr_syntax_lex.proofs.numbers.ends_with_exponent_mark.Goals as goal

pub returns : goal.returns
returns c = c.is_exponent_mark.ensures ∙ sym (last_passes is_exponent_mark _ _ _ c.in-Some.ensures)

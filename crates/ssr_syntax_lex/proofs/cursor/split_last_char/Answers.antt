use Rattle.std.proofs.Common.{◌≡◌, ◌++◌, length, ap, sym, ◌∙◌}
use Rattle.std.specs.Prelude.{encode_utf8}
use Rattle.ssr_syntax_lex.proofs.Eaten.{last_of_text, nothing_in}
use Rattle.ssr_syntax_lex.proofs.cursor.split_last_char.Goals as goal

pub returns-in_err-last : goal.returns-in_err-last
returns-in_err-last c = rw c.from_residual.ensures (nothing_in _ (ap length (sym c.chars-chars.ensures.rest) ∙ c.in_err-last.ensures.steps.0))

pub returns : goal.returns
returns c =
    let parts : c.args.text.now ≡ c.as_str.result.now ++ encode_utf8 c.in_ok-last.last = cc (c.in_ok-last.ensures.steps) in
    last_of_text _ _ c.in_ok-last.last c.utf8.text c.as_str.utf8 parts

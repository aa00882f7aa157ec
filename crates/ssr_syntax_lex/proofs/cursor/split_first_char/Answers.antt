use Rattle.std.proofs.Common.{◌≡◌, ◌++◌}
use Rattle.std.specs.Prelude.{encode_utf8}
use Rattle.std.proofs.lemmas.Str.{chars_past_char}
use Rattle.ssr_syntax_lex.proofs.cursor.split_first_char.Goals as goal

pub returns-clause-chars : goal.returns-clause-chars
returns-clause-chars c =
    let parts : c.args.text.now ≡ encode_utf8 c.in_ok-first.first ++ c.as_str.result.now = cc (c.in_ok-first.ensures.steps.0) in
    chars_past_char _ _ _ c.utf8.text parts

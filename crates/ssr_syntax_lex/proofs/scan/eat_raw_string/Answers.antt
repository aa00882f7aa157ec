use Rattle.std.proofs.Common.{ap, length}
use Rattle.ssr_syntax_lex.specs.Characters.{is_hash}
use Rattle.ssr_syntax_lex.proofs.ScanSteps.{raw_string_is, passes_same}
use Rattle.ssr_syntax_lex.proofs.scan.eat_raw_string.Goals as goal

pub returns : goal.returns
returns c =
    passes_same _ c.eat_raw.result _ _ _ (raw_string_is _ c.args.cursor.now _ _
    (ap length (c.eat_while-hashes.ensures.bytes is_hash (λ _ _ p. p)))
    (c.eat_while-hashes.ensures.rest is_hash (λ _ _ p. p)) c.bump.ensures.rest) c.eat_raw.ensures

use Rattle.std.proofs.Common.{map, string_bytes}
use Rattle.ssr_program.proofs.OfFacts.{clash_words_are}
use Rattle.ssr_program.proofs.of_facts.clash_words.Goals as goal

pub returns : goal.returns
returns c = clash_words_are c.format.result (map string_bytes c.args.names.now) c.args.earlier c.args.later c.name_of-name.result.now c.name_of-name.ensures c.format.ensures.ok

use Rattle.std.proofs.Common.{◌≡◌, map}
use Rattle.ssr_facts.proofs.sources.names_and_texts.Given as goal

abbrev pub invariant-loop-name : goal.invariant-loop-name
invariant-loop-name l = record {
  names : l.names.items ≡ map (λ file. file.name) l.yielded;
  texts : l.texts.items ≡ map (λ file. file.text) l.yielded;
}

use Rattle.std.specs.Prelude.{All}
use Rattle.ssr_names.specs.Lookup.{IsOutside}
use Rattle.ssr_names.proofs.preparing.builtin_types.Given as goal

abbrev pub invariant-loop-text : goal.invariant-loop-text
invariant-loop-text l = All (λ known. IsOutside known.definition) l.known.items

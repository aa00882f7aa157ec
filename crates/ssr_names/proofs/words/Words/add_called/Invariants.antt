use Rattle.ssr_names.specs.Private.Locals.{Keeps}
use Rattle.ssr_names.proofs.Collecting.{CollectsWords}
use Rattle.ssr_names.proofs.words.Words.add_called.Given as goal

abbrev pub invariant-loop-number : goal.invariant-loop-number
invariant-loop-number l = record {
  kept : Keeps l.fn.self l.self;
  collected : CollectsWords l.tree l.self l.node l.number;
}

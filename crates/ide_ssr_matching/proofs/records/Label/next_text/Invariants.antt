use Rattle.std.proofs.Common.{◌≡◌, ◌-◌}
use Rattle.ide_ssr_matching.specs.Private.Records.{HasTokens, label_texts}
use Rattle.ide_ssr_matching.proofs.records.Label.next_text.Given as goal

abbrev pub invariant-loop-self : goal.invariant-loop-self
invariant-loop-self l = record {
  texts : label_texts l.tree l.fn.self ≡ label_texts l.tree l.self;
  has : HasTokens l.tree l.self;
  past : l.self.past ≡ l.fn.self.past;
}

abbrev pub decreases-loop-self : goal.decreases-loop-self
decreases-loop-self l = l.self.past - l.self.first

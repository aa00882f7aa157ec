use Rattle.std.proofs.Common.{◌≡◌, length, bytes_eq}
use Rattle.std.specs.Cmp.Lexicographic.{pointwise}
use Rattle.ide_ssr_matching.specs.Private.Records.{HasTokens, label_texts}
use Rattle.ide_ssr_matching.proofs.records.same_texts.Given as goal

abbrev pub invariant-loop-text : goal.invariant-loop-text
invariant-loop-text l = record {
  so_far : pointwise bytes_eq (label_texts l.a_tree l.fn.a) (label_texts l.b_tree l.fn.b) ≡ pointwise bytes_eq (label_texts l.a_tree l.a) (label_texts l.b_tree l.b);
  has_a : HasTokens l.a_tree l.a;
  has_b : HasTokens l.b_tree l.b;
}

abbrev pub decreases-loop-text : goal.decreases-loop-text
decreases-loop-text l = length (label_texts l.a_tree l.a)

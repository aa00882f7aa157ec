use Rattle.std.proofs.Common.{drop, map}
use Rattle.ssr_base_trees.specs.Applied.{changes_of}
use Rattle.ssr_base_trees.specs.Origins.{span_of}
use Rattle.ssr_set_aside.specs.Parts.{AreOfTokens}
use Rattle.ssr_set_aside.proofs.parts.are_of_tokens.Given as goal

abbrev pub invariant-loop-change : goal.invariant-loop-change
invariant-loop-change l =
    AreOfTokens l.cut.text.now l.cut.plain.now l.cut.tokens.now (drop l.change-index (changes_of l.changes)) (map span_of l.wanted)
    → AreOfTokens l.cut.text.now l.cut.plain.now l.cut.tokens.now (changes_of l.changes) (map span_of l.unsearched)

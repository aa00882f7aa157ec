use Rattle.std.proofs.Common.{◌≡◌, None, drop}
use Rattle.std.specs.Prelude.{IfSome}
use Rattle.ssr_syntax_tree.specs.Places.{HasNode}
use Rattle.ide_ssr_leading.specs.Leading.{longest_of}
use Rattle.ide_ssr_leading.proofs.led.longest.Given as goal

abbrev pub invariant-loop-path : goal.invariant-loop-path
invariant-loop-path l = record {
  has : IfSome l.best (λ path. HasNode l.rule.pattern path.node.0);
  longest : longest_of l.rule.pattern l.best (drop l.path-index l.rule.eligible_paths) ≡ longest_of l.rule.pattern None l.rule.eligible_paths;
}

use Rattle.std.proofs.Common.{◌≡◌, List, Some, drop}
use Rattle.std.specs.Str.{trim}
use Rattle.ssr_syntax_tree.specs.Syntax.{Token}
use Rattle.ide_ssr_rules.specs.Elements.{lexed}
use Rattle.ide_ssr_rules.specs.StandIns.{first_glued}
use Rattle.ide_ssr_rules.proofs.stand_ins.first_glued.Given as goal

abbrev pub invariant-loop-place : goal.invariant-loop-place
invariant-loop-place l =
    (tokens : List Token) → lexed (trim l.text) ≡ Some tokens
    → first_glued (drop l.place l.elements) (drop l.place tokens) ≡ first_glued l.elements tokens

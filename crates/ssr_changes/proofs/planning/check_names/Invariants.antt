use Rattle.std.proofs.Common.{◌≡◌, ℕ, List, take}
use Rattle.ssr_changes.specs.Private.Planning.{HaveNames}
use Rattle.ssr_changes.proofs.Plans.{is_among, knows, names_of}
use Rattle.ssr_changes.proofs.planning.check_names.Given as goal

abbrev pub invariant-loop-planned : goal.invariant-loop-planned
invariant-loop-planned l = record {
  have : HaveNames l.files.files (take l.planned-index l.plan);
  known : (name : List ℕ) → knows l.names name ≡ is_among (names_of l.files.files (take l.planned-index l.plan)) name;
}

use Rattle.std.proofs.Common.{◌≡◌, ℕ, ◌+◌, List, drop, map, subst, sym, arith}
use Rattle.ssr_base_trees.specs.Origins.{Span, span_of}
use Rattle.ssr_standing.specs.Around.{passed}
use Rattle.ssr_standing.proofs.Passed.{passed_on}
use Rattle.ssr_standing.proofs.passing.Passing.counted.Goals as goal

pub passed_from-requires-2 : goal.passed_from-requires-2
passed_from-requires-2 c =
    let places : List Span = map span_of c.args.self.now.places.now in
    subst (λ (k : ℕ). k + passed (drop k places) c.args.byte ≡ passed places c.args.byte) (sym c.args.self.now.known)
    (passed_on places c.args.self.now.byte c.args.byte (omega arith))

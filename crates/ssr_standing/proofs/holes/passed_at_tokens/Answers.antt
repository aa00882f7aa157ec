use Rattle.std.proofs.Common.{◌≡◌, ℕ, ◌+◌, List, drop, map, sym, ap, ◌∙◌, subst, arith}
use Rattle.ssr_syntax_tree.specs.Syntax.{token_count}
use Rattle.ssr_syntax_tree.specs.Places.{offset_of}
use Rattle.ssr_syntax_tree.proofs.Shared.{offset_grows}
use Rattle.ssr_base_trees.specs.Origins.{Span, span_of}
use Rattle.ssr_standing.specs.Around.{passed}
use Rattle.ssr_standing.specs.Private.Holes.{ArePassed}
use Rattle.ssr_standing.proofs.Passed.{passed_on, one_known, end_of_root}
use Rattle.ssr_standing.proofs.holes.passed_at_tokens.Goals as goal

pub loop-number-preserved : goal.loop-number-preserved
loop-number-preserved c =
    let tree = c.args.tree.now in
    let places : List Span = map span_of c.args.places.now in
    let n : ℕ = c.loop-number.number in
    let count : c.passed_from-count.result ≡ passed places (offset_of tree n) =
    c.passed_from-count.ensures ∙ ap (passed places) c.token_range.ensures.start in
    let one_more : ArePassed tree places (n + 1) _ =
    one_known tree places n (n + 1) c.passed_from-count.result c.loop-number.table.items (omega arith) count c.loop-number.invariant.table in
    record {
      table = subst (ArePassed tree places (n + 1)) (sym c.in_ok-push.ensures.items) one_more;
      known = λ byte later.
          subst (λ (k : ℕ). k + passed (drop k places) byte ≡ passed places byte) (sym count)
          (passed_on places (offset_of tree n) byte (omega (arith, offset_grows tree n (n + 1) (omega arith))));
    }

pub passed_from-requires : goal.passed_from-requires
passed_from-requires c =
    let tree = c.args.tree.now in
    let ends : c.range.result.end ≡ offset_of tree (token_count tree.children) = c.range.ensures.end ∙ end_of_root tree in
    c.loop-number.invariant.known c.range.result.end
    (omega (arith, offset_grows tree c.loop-number.number (token_count tree.children) (omega arith)))

pub returns : goal.returns
returns c =
    let tree = c.args.tree.now in
    let places : List Span = map span_of c.args.places.now in
    let n : ℕ = c.loop-number.number in
    let same : token_count tree.children ≡ n = omega arith in
    let count : c.passed_from.result ≡ passed places (offset_of tree n) =
    c.passed_from.ensures ∙ ap (passed places) (c.range.ensures.end ∙ end_of_root tree ∙ ap (offset_of tree) same) in
    subst (ArePassed tree places (1 + token_count tree.children)) (sym {A = List ℕ} c.in_ok-push-2.ensures.items)
    (one_known tree places n (1 + token_count tree.children) c.passed_from.result c.loop-number.table.items (omega arith) count c.loop-number.invariant.table)

use Rattle.std.proofs.Common.{◌≡◌, map, sym, ◌∙◌, arith}
use Rattle.std.proofs.lemmas.Bool.{both_ways}
use Rattle.ssr_base_trees.specs.Workspace.{trees, file_span_of}
use Rattle.ide_ssr_bindings.specs.Found.{HasByte}
use Rattle.ide_ssr_bindings.proofs.Shared.{is_tree}
use Rattle.ide_ssr_search.specs.Permitted.{IsOpen}
use Rattle.ide_ssr_search.proofs.Shared.{opened, not_shut}
use Rattle.ide_ssr_leading.specs.Private.Reached.{IsShutIn}
use Rattle.ide_ssr_leading.proofs.Climbing.{not_so}
use Rattle.ide_ssr_leading.proofs.reached.is_open.Goals as goal

pub returns : goal.returns
returns c =
    let w = c.args.workspace.now in
    let x = c.args.node in
    let restrictions = map file_span_of c.args.restrictions.now in
    let tree = c.in-Some.tree.now in
    let range = c.in-Some-original_range.range in
    let ordered = range.range.ordered in
    let differ : range.range.start ≡ range.range.end → ⊥ = λ same. both_ways c.is_empty.result c.if-is_empty.false (c.is_empty.ensures.1 same) in
    let byte : HasByte (file_span_of range) = omega arith in
    not_so c.is_shut_in.result (IsShutIn (trees w) x) (IsOpen w restrictions x) c.is_shut_in.ensures
    (λ free. opened w restrictions x.tree x.node.0 tree (file_span_of range) (is_tree w x.tree tree (sym c.in-Some.ensures)) (c.has.ensures.0 c.if-not-has.false)
    (λ kind. both_ways c.is.result c.if-is.false (c.is.ensures.decides.1 (c.kind.ensures ∙ kind)))
    free (sym c.in-Some-original_range.ensures) byte (c.is_searched.ensures.0 c.if-not-is_searched.false))
    (not_shut w restrictions x)

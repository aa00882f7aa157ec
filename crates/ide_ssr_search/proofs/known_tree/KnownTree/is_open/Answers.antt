use Rattle.std.proofs.Common.{◌≡◌, true, false, Some, ap, sym, ◌∙◌, subst, arith}
use Rattle.std.proofs.lemmas.Bool.{both_ways}
use Rattle.std.specs.Prelude.{◌↔◌, IsTrue}
use Rattle.ssr_base_trees.specs.Workspace.{trees, node_id, file_span_of, original_range}
use Rattle.ide_ssr_bindings.specs.Found.{HasByte}
use Rattle.ide_ssr_search.specs.Permitted.{IsSearched}
use Rattle.ide_ssr_bindings.proofs.Shared.{is_tree}
use Rattle.ide_ssr_search.proofs.Opening.{opened, not_use, open_range}
use Rattle.ide_ssr_search.proofs.known_tree.KnownTree.is_open.Goals as goal

pub returns-then-is : goal.returns-then-is
returns-then-is c =
    let g = c.args.self.now in
    let w = g.workspace.now in (
      λ h. let e : false ≡ true = h in cc,
      λ is. absurd (not_use w g.context.now.restrictions g.number c.args.node.0 g.tree.now (is_tree w g.number g.tree.now c.requires.known.tree)
          (sym c.kind.ensures ∙ c.is.ensures.decides.0 c.if-is.true) is),
    )

pub returns-then-not-is_empty : goal.returns-then-not-is_empty
returns-then-not-is_empty c =
    let g = c.args.self.now in
    let w = g.workspace.now in
    let range = c.in-Some.range in
    let span = file_span_of range in
    let ordered = range.range.ordered in
    let is : original_range (trees w) (node_id g.number c.args.node.0) ≡ Some span =
    ap (original_range (trees w)) (sym c.id.ensures) ∙ sym c.in-Some.ensures in
    let differ : range.range.start ≡ range.range.end → ⊥ = λ same. both_ways c.is_empty.result c.if-not-is_empty.true (c.is_empty.ensures.1 same) in
    let byte : HasByte span = omega arith in
    let told = subst (λ rs. IsTrue c.is_searched.result ↔ IsSearched rs span) c.restrictions.ensures c.is_searched.ensures in (
      λ searched. opened w g.context.now.restrictions g.number c.args.node.0 g.tree.now span (is_tree w g.number g.tree.now c.requires.known.tree) c.requires.has
          (λ kind. both_ways c.is.result c.if-is.false (c.is.ensures.decides.1 (c.kind.ensures ∙ kind)))
          c.requires.free is byte (told.0 searched),
      λ known. told.1 (open_range w g.context.now.restrictions (node_id g.number c.args.node.0) span is known).1,
    )

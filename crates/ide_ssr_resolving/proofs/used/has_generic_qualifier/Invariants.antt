use Rattle.std.proofs.Common.{◌≡◌, map, drop}
use Rattle.std.specs.List.{list_any}
use Rattle.ssr_syntax_tree.specs.Places.{node_of}
use Rattle.ide_ssr_resolved_rule.specs.Paths.{qualifying}
use Rattle.ide_ssr_resolving.specs.Used.{has_generics}
use Rattle.ide_ssr_resolving.specs.Private.Parts.{below}
use Rattle.ide_ssr_resolving.proofs.used.has_generic_qualifier.Given as goal

abbrev pub invariant-loop-segment : goal.invariant-loop-segment
invariant-loop-segment l =
    list_any has_generics (map (below l.tree) (drop l.segment-index l.segment-items))
    ≡ list_any has_generics (qualifying (node_of l.tree l.fn.path.0).children)

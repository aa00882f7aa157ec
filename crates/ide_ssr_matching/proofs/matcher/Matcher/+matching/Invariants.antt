use Rattle.std.proofs.Common.{length, All, map, option_to_list}
use Rattle.std.specs.Option.{IfSome}
use Rattle.ssr_syntax_tree.specs.Places.{HasNode, node_of, node_part, part_of}
use Rattle.ide_ssr_matching.specs.Bindings.{bindings_in}
use Rattle.ide_ssr_matching.specs.Calls.{child_nodes}
use Rattle.ide_ssr_matching.specs.Children.{bare}
use Rattle.ide_ssr_matching.specs.Private.Bindings.{counted_by, generics_by, arguments_by}
use Rattle.ide_ssr_matching.specs.Private.Calls.{method_at, arguments_at}
use Rattle.ide_ssr_matching.specs.Private.ChildNodes.{nodes_at, IsNodeBelow}
use Rattle.ide_ssr_matching.specs.Private.Children.{siblings_left, IsElementBelow}
use Rattle.ide_ssr_matching.specs.Private.Records.{fields_by}
use Rattle.ide_ssr_matching.proofs.Pairs.{IsBoundSoFar, PairedSoFar, children_size, like_size, parts_size, node_size, element_size, lists_size, pairs_size}
use Rattle.ide_ssr_matching.proofs.matcher.Matcher.+matching.Given as goal

abbrev pub decreases-node_matches : goal.decreases-node_matches
decreases-node_matches g l = node_size l.self.now.rule.now.pattern l.p.0

abbrev pub decreases-parts_match : goal.decreases-parts_match
decreases-parts_match g l = parts_size l.self.now.rule.now.pattern l.p.0

abbrev pub decreases-method_matches : goal.decreases-method_matches
decreases-method_matches g l = lists_size l.self.now.rule.now.pattern l.p.0

abbrev pub decreases-generics_match : goal.decreases-generics_match
decreases-generics_match g l = children_size l.self.now.rule.now.pattern l.called.path.0

abbrev pub decreases-arguments_match : goal.decreases-arguments_match
decreases-arguments_match g l = children_size l.self.now.rule.now.pattern l.called.list.0

abbrev pub decreases-named_match : goal.decreases-named_match
decreases-named_match g l = lists_size l.self.now.rule.now.pattern l.p.0

abbrev pub decreases-fields_match : goal.decreases-fields_match
decreases-fields_match g l = children_size l.self.now.rule.now.pattern l.p.0

abbrev pub decreases-pairs_match : goal.decreases-pairs_match
decreases-pairs_match g l = pairs_size l.self.now.rule.now.pattern l.p.0

abbrev pub decreases-like_matches : goal.decreases-like_matches
decreases-like_matches g l = like_size l.self.now.rule.now.pattern l.p.0

abbrev pub decreases-children_match : goal.decreases-children_match
decreases-children_match g l = children_size l.self.now.rule.now.pattern l.p.0

abbrev pub decreases-pair_matches : goal.decreases-pair_matches
decreases-pair_matches g l = element_size l.self.now.rule.now.pattern l.p

abbrev pub invariant-generics_match-loop-first : goal.invariant-generics_match-loop-first
invariant-generics_match-loop-first g l =
    let inner = bindings_in l.self.names (g.S.Semantics.meanings l.self.semantics.now) l.self.number l.self.rule.now in
    record {
      paired :
          PairedSoFar inner (generics_by inner (node_of l.self.rule.now.pattern l.fn.called.path.0) (method_at l.self.code.now l.fn.method).generics)
          (bare (map (part_of l.self.rule.now.pattern) (siblings_left l.arguments))) (map node_part (nodes_at l.self.code.now (option_to_list l.left)))
          l.fn.out l.out;
      below : All (IsElementBelow l.self.rule.now.pattern l.fn.called.path.0) (siblings_left l.arguments);
      has : IfSome l.left (λ node. HasNode l.self.code.now node.0);
    }

abbrev pub decreases-generics_match-loop-first : goal.decreases-generics_match-loop-first
decreases-generics_match-loop-first g l = length (siblings_left l.arguments)

abbrev pub invariant-arguments_match-loop-first : goal.invariant-arguments_match-loop-first
invariant-arguments_match-loop-first g l =
    let inner = bindings_in l.self.names (g.S.Semantics.meanings l.self.semantics.now) l.self.number l.self.rule.now in
    record {
      paired :
          PairedSoFar inner (arguments_by inner (child_nodes (node_of l.self.rule.now.pattern l.fn.called.list.0)) (arguments_at l.self.code.now l.fn.method))
          (map node_part (nodes_at l.self.rule.now.pattern l.first-iterator)) (map node_part (nodes_at l.self.code.now l.cs)) l.fn.out l.out;
      below : All (IsNodeBelow l.self.rule.now.pattern l.fn.called.list.0) l.first-iterator;
      beside : All (λ node. HasNode l.self.code.now node.0) l.cs;
    }

abbrev pub invariant-children_match-loop-first : goal.invariant-children_match-loop-first
invariant-children_match-loop-first g l =
    let inner = bindings_in l.self.names (g.S.Semantics.meanings l.self.semantics.now) l.self.number l.self.rule.now in
    record {
      paired :
          PairedSoFar inner (counted_by inner l.fn.used (node_of l.self.rule.now.pattern l.fn.p.0) (node_of l.self.code.now l.fn.c.0))
          (bare (map (part_of l.self.rule.now.pattern) (siblings_left l.ps))) (bare (map (part_of l.self.code.now) (siblings_left l.cs))) l.fn.out l.out;
      below : All (IsElementBelow l.self.rule.now.pattern l.fn.p.0) (siblings_left l.ps);
      beside : All (IsElementBelow l.self.code.now l.fn.c.0) (siblings_left l.cs);
    }

abbrev pub decreases-children_match-loop-first : goal.decreases-children_match-loop-first
decreases-children_match-loop-first g l = length (siblings_left l.ps)

abbrev pub invariant-fields_match-loop-field : goal.invariant-fields_match-loop-field
invariant-fields_match-loop-field g l =
    let inner = bindings_in l.self.names (g.S.Semantics.meanings l.self.semantics.now) l.self.number l.self.rule.now in
    let cs = child_nodes (node_of l.self.code.now l.fn.c.0) in
    record {
      so_far : IsBoundSoFar (fields_by inner (child_nodes (node_of l.self.rule.now.pattern l.fn.p.0)) cs) (fields_by inner (nodes_at l.self.rule.now.pattern l.field-iterator) cs)
          l.fn.out l.out;
      below : All (IsNodeBelow l.self.rule.now.pattern l.fn.p.0) l.field-iterator;
    }

use Rattle.std.proofs.Common.{◌≡◌, refl, sym, ap, subst, ◌∙◌, rules, arith, ◌<◌, true, false, All, None, is_some}
use Rattle.std.specs.List.{find}
use Rattle.std.specs.Option.{IfSome, option_and_then}
use Rattle.std.proofs.lemmas.Bool.{and_right}
use Rattle.std.proofs.lemmas.List.Elements.{All-head}
use Rattle.ssr_syntax_kinds.specs.declared.kinds.SyntaxKind.TheVariants as k
use Rattle.ssr_syntax_kinds.specs.Kinds.{same_kind}
use Rattle.ssr_syntax_tree.specs.declared.number.Element.TheVariants as element
use Rattle.ssr_syntax_tree.specs.Places.{HasNode, HasElement, node_of}
use Rattle.ide_ssr_resolved_rule.specs.QualifiedCalls.{call_at}
use Rattle.ide_ssr_resolved_rule.specs.UsedPaths.{res_at}
use Rattle.ide_ssr_matching.specs.Bindings.{bindings_in}
use Rattle.ide_ssr_matching.specs.TokenTrees.{is_token_tree}
use Rattle.ide_ssr_matching.specs.Calls.{child_nodes}
use Rattle.ide_ssr_matching.specs.Records.{have_same_label}
use Rattle.ide_ssr_matching.specs.Private.Calls.{called_at, method_at, HasMethodNodes, sides_at, AreSidesBelow}
use Rattle.ide_ssr_matching.specs.Private.ChildNodes.{nodes_at, IsNodeBelow}
use Rattle.ide_ssr_matching.specs.Private.Children.{siblings_left, IsElementBelow}
use Rattle.ide_ssr_matching.proofs.Bare.{tail_has}
use Rattle.ide_ssr_matching.proofs.ChildNodes.{node_first, nodes_behind}
use Rattle.ide_ssr_matching.proofs.Fields.{named-differs, named-matches, fields-starts, fields-turn, fields-end}
use Rattle.ide_ssr_matching.proofs.CallPairs.{node_parts, generics-start, generics-none, generics-taken, generics-end, arguments-start, nodes-next, nodes-end, generics-differ, arguments-differ, both-match}
use Rattle.ide_ssr_matching.proofs.Pairs.{none_there, placeholder-from, trees-from, spoiled-from, parts-from, like-from, method-from, other_kind-from, unpaired-from, children-start, paired-turns, paired-differs, paired-short, paired-ends, lent_next, lent_none, none_left, tokens-answer, element-smaller, node-smaller, smaller_below, first-below, element_size, children_size, paired-from, used-from, named-from, unnamed-from, lists_size}
use Rattle.ide_ssr_matching.proofs.matcher.Matcher.+matching.Goals as goal

pub node_matches-returns-in-Some : goal.node_matches-returns-in-Some
node_matches-returns-in-Some g t c =
    placeholder-from c.args.self.now.names (g.S.Semantics.meanings c.args.self.now.semantics.now) c.args.self.now.number c.args.self.now.rule.now c.placeholder_matches.result c.args.self.now.rule.now.pattern c.args.self.now.code.now c.args.p.0 c.args.c.0 c.args.out.now c.placeholder_matches.new.out
    c.in-Some.placeholder c.in-Some.ensures c.placeholder_matches.ensures

pub node_matches-returns-then-is_token_tree : goal.node_matches-returns-then-is_token_tree
node_matches-returns-then-is_token_tree g t c =
    trees-from c.args.self.now.names (g.S.Semantics.meanings c.args.self.now.semantics.now) c.args.self.now.number c.args.self.now.rule.now c.args.self.now.rule.now.pattern c.args.self.now.code.now c.args.p.0 c.args.c.0 c.args.out.now
    _ c.placeholder.ensures c.in_default.not-Some c.tree_matches.result c.tree_matches.new.out _ (c.is_token_tree.ensures ∙ ap (λ s. is_token_tree (node_of s c.args.p.0)) c.pattern.ensures) c.if-is_token_tree.true c.tree_matches.ensures

pub node_matches-returns-then-not-is_plain : goal.node_matches-returns-then-not-is_plain
node_matches-returns-then-not-is_plain g t c =
    spoiled-from c.args.self.now.names (g.S.Semantics.meanings c.args.self.now.semantics.now) c.args.self.now.number c.args.self.now.rule.now c.args.self.now.rule.now.pattern c.args.self.now.code.now c.args.p.0 c.args.c.0 c.args.out.now
    _ c.placeholder.ensures c.in_default.not-Some _ _ (c.is_token_tree.ensures ∙ ap (λ s. is_token_tree (node_of s c.args.p.0)) c.pattern.ensures) c.if-is_token_tree.false c.is_plain.ensures c.if-not-is_plain.true

pub node_matches-returns : goal.node_matches-returns
node_matches-returns g t c =
    parts-from c.args.self.now.names (g.S.Semantics.meanings c.args.self.now.semantics.now) c.args.self.now.number c.args.self.now.rule.now c.args.self.now.rule.now.pattern c.args.self.now.code.now c.args.p.0 c.args.c.0 c.args.out.now
    _ c.placeholder.ensures c.in_default.not-Some c.parts_match.result c.parts_match.new.out _ _ (c.is_token_tree.ensures ∙ ap (λ s. is_token_tree (node_of s c.args.p.0)) c.pattern.ensures) c.if-is_token_tree.false c.is_plain.ensures c.if-not-is_plain.false c.parts_match.ensures

pub parts_match-returns-then-not-is : goal.parts_match-returns-then-not-is
parts_match-returns-then-not-is g t c =
    like-from c.args.self.now.names (g.S.Semantics.meanings c.args.self.now.semantics.now) c.args.self.now.number c.args.self.now.rule.now c.like_matches.result c.args.self.now.rule.now.pattern c.args.self.now.code.now c.args.p c.args.c.0 c.args.out.now c.like_matches.new.out
    c.requires.p_in (call_at c.args.self.now.rule.now.qualified_calls c.args.p) false refl
    (sym c.if-not-is.true ∙ c.is.ensures.same ∙ ap (λ own. same_kind own k.METHOD_CALL_EXPR) c.kind.ensures)
    (and_right (is_some (call_at c.args.self.now.rule.now.qualified_calls c.args.p)) false refl) c.like_matches.ensures

pub parts_match-returns-in-Some : goal.parts_match-returns-in-Some
parts_match-returns-in-Some g t c =
    method-from c.args.self.now.names (g.S.Semantics.meanings c.args.self.now.semantics.now) c.args.self.now.number c.args.self.now.rule.now c.method_matches.result c.args.self.now.rule.now.pattern c.args.self.now.code.now c.args.p c.args.c.0 c.args.out.now c.method_matches.new.out
    c.requires.p_in c.in-Some.call
    (sym c.in-Some.is ∙ c.qualified_call.ensures)
    (sym c.if-not-is.false ∙ c.is.ensures.same ∙ ap (λ own. same_kind own k.METHOD_CALL_EXPR) c.kind.ensures)
    c.method_matches.ensures

pub parts_match-returns-in-None : goal.parts_match-returns-in-None
parts_match-returns-in-None g t c =
    like-from c.args.self.now.names (g.S.Semantics.meanings c.args.self.now.semantics.now) c.args.self.now.number c.args.self.now.rule.now c.like_matches-in-None.result c.args.self.now.rule.now.pattern c.args.self.now.code.now c.args.p c.args.c.0 c.args.out.now c.like_matches-in-None.new.out
    c.requires.p_in None true
    (sym c.in-None.is ∙ c.qualified_call.ensures)
    (sym c.if-not-is.false ∙ c.is.ensures.same ∙ ap (λ own. same_kind own k.METHOD_CALL_EXPR) c.kind.ensures)
    refl c.like_matches-in-None.ensures

pub like_matches-returns-then-not-is : goal.like_matches-returns-then-not-is
like_matches-returns-then-not-is g t c =
    other_kind-from c.args.self.now.names (g.S.Semantics.meanings c.args.self.now.semantics.now) c.args.self.now.number c.args.self.now.rule.now _ c.args.self.now.rule.now.pattern c.args.self.now.code.now c.args.p c.args.c.0 _ _ (res_at c.args.self.now.rule.now.pattern_paths c.args.p)
    (record { lent_is = c.pattern.ensures; p_in = c.requires.p_in; pk_is = c.kind.ensures; ck_is = c.kind-2.ensures; used_is = refl })
    _ _ c.is.ensures.same c.if-not-is.true

pub like_matches-returns-then-not-branch : goal.like_matches-returns-then-not-branch
like_matches-returns-then-not-branch g t c =
    unpaired-from c.args.self.now.names (g.S.Semantics.meanings c.args.self.now.semantics.now) c.args.self.now.number c.args.self.now.rule.now _ c.args.self.now.rule.now.pattern c.args.self.now.code.now c.args.p c.args.c.0 _ _ c.pattern_res-used.result
    (record { lent_is = c.pattern.ensures; p_in = c.requires.p_in; pk_is = c.kind.ensures; ck_is = c.kind-2.ensures; used_is = c.pattern_res-used.ensures })
    _ _ _ _ c.is.ensures.same c.if-not-is.false c.if-not-branch.true c.in_ok-pairs_match.ensures

pub like_matches-returns : goal.like_matches-returns
like_matches-returns g t c =
    paired-from c.args.self.now.names (g.S.Semantics.meanings c.args.self.now.semantics.now) c.args.self.now.number c.args.self.now.rule.now _ c.args.self.now.rule.now.pattern c.args.self.now.code.now c.args.p c.args.c.0 _ _ c.pattern_res-used.result
    (record { lent_is = c.pattern.ensures; p_in = c.requires.p_in; pk_is = c.kind.ensures; ck_is = c.kind-2.ensures; used_is = c.pattern_res-used.ensures })
    _ _ _ _ _ c.is.ensures.same c.if-not-is.false c.if-not-branch.false c.in_ok-can.ensures c.in_ok-pairs_match.ensures

pub pairs_match-returns-in-Some : goal.pairs_match-returns-in-Some
pairs_match-returns-in-Some g t c =
    used-from c.args.self.now.names (g.S.Semantics.meanings c.args.self.now.semantics.now) c.args.self.now.number c.args.self.now.rule.now _ (node_of c.args.self.now.rule.now.pattern c.args.p.0)
    (node_of c.args.self.now.code.now c.args.c.0) c.args.used _ _ _ c.in-Some.is c.children_match.ensures

pub pairs_match-returns-then-is_named : goal.pairs_match-returns-then-is_named
pairs_match-returns-then-is_named g t c =
    named-from c.args.self.now.names (g.S.Semantics.meanings c.args.self.now.semantics.now) c.args.self.now.number c.args.self.now.rule.now _ (node_of c.args.self.now.rule.now.pattern c.args.p.0)
    (node_of c.args.self.now.code.now c.args.c.0) c.args.used _ _ c.in_default.is (sym c.if-is_named.true ∙ c.is_named.ensures) c.named_match.ensures

pub pairs_match-returns : goal.pairs_match-returns
pairs_match-returns g t c =
    unnamed-from c.args.self.now.names (g.S.Semantics.meanings c.args.self.now.semantics.now) c.args.self.now.number c.args.self.now.rule.now _ (node_of c.args.self.now.rule.now.pattern c.args.p.0)
    (node_of c.args.self.now.code.now c.args.c.0) c.args.used _ _ c.in_default.is (sym c.if-is_named.false ∙ c.is_named.ensures) c.children_match-2.ensures

pub named_match-returns-then-not-branch : goal.named_match-returns-then-not-branch
named_match-returns-then-not-branch g t c =
    named-differs (bindings_in c.args.self.now.names (g.S.Semantics.meanings c.args.self.now.semantics.now) c.args.self.now.number c.args.self.now.rule.now) c.args.self.now.rule.now.pattern c.args.self.now.code.now
    c.args.p.0 c.args.c.0 _ _ _ c.in_ok-fields_match.ensures c.if-not-branch.true

pub named_match-returns-then-are_different : goal.named_match-returns-then-are_different
named_match-returns-then-are_different g t c =
    named-matches (bindings_in c.args.self.now.names (g.S.Semantics.meanings c.args.self.now.semantics.now) c.args.self.now.number c.args.self.now.rule.now) c.args.self.now.rule.now.pattern c.args.self.now.code.now
    c.args.p.0 c.args.c.0 _ _ _ _ _ _ _ c.pattern-pattern.ensures c.are_as_many.ensures c.if-not-are_as_many.false c.are_different.ensures
    c.if-are_different.true c.are_different-then-are_different.ensures c.in_ok-fields_match.ensures c.if-not-branch.false

pub fields_match-loop-field-init : goal.fields_match-loop-field-init
fields_match-loop-field-init g t c =
    let pattern = c.args.self.now.rule.now.pattern in
    let n = c.args.p.0 in
    let items = c.of-field-items.result in
    let gives = c.into_iter-field-iterator.ensures.into_iter_gives in
    record {
      so_far =
          fields-starts (bindings_in c.args.self.now.names (g.S.Semantics.meanings c.args.self.now.semantics.now) c.args.self.now.number c.args.self.now.rule.now) pattern
          (child_nodes (node_of c.args.self.now.code.now c.args.c.0)) n _ _
          (ap (nodes_at pattern) gives
          ∙ subst (λ s. nodes_at s items ≡ child_nodes (node_of s n)) c.pattern-pattern.ensures c.of-field-items.ensures.nodes);
      below =
          subst (All (IsNodeBelow pattern n)) (sym gives)
          (subst (λ s. All (IsNodeBelow s n) items) c.pattern-pattern.ensures c.of-field-items.ensures.below);
    }

pub fields_match-node_matches-requires : goal.fields_match-node_matches-requires
fields_match-node_matches-requires g t c =
    let pattern = c.args.self.now.rule.now.pattern in
    let field = c.in-Some.field in
    let below : IsNodeBelow pattern c.args.p.0 field =
    All-head (IsNodeBelow pattern c.args.p.0) field c.next.new.self
    (subst (All (IsNodeBelow pattern c.args.p.0)) c.in-Some.ensures.steps c.loop-field.invariant.below)
    in
    let lt : element_size pattern (element.Node field) < children_size pattern c.args.p.0 =
    smaller_below pattern c.args.p.0 (element.Node field) c.requires.p_in below
    in
    let has_p : HasNode pattern field.0 = below.0 in
    let has_c : HasNode c.args.self.now.code.now c.in-Some-counterpart.other.0 = c.in-Some-counterpart.ensures.has in
    λ κs lives. (omega arith, search (rules, lives, has_p, has_c))

pub fields_match-loop-field-preserved : goal.fields_match-loop-field-preserved
fields_match-loop-field-preserved g t c =
    let pattern = c.args.self.now.rule.now.pattern in
    let field = c.in-Some.field in
    let cs = child_nodes (node_of c.args.self.now.code.now c.args.c.0) in
    record {
      so_far =
          fields-turn (bindings_in c.args.self.now.names (g.S.Semantics.meanings c.args.self.now.semantics.now) c.args.self.now.number c.args.self.now.rule.now) pattern cs _ _ _ field _ c.next.new.self
          c.in-Some.ensures.steps c.loop-field.invariant.so_far (node_of c.args.self.now.code.now c.in-Some-counterpart.other.0)
          (c.in-Some-counterpart.ensures.node ∙ ap (λ s. find (have_same_label (node_of s field.0)) cs) c.pattern-pattern.ensures)
          _ _ c.in_ok-node_matches.ensures c.if-not-branch.false;
      below = nodes_behind (IsNodeBelow pattern c.args.p.0) field _ c.next.new.self c.in-Some.ensures.steps c.loop-field.invariant.below;
    }

pub fields_match-returns : goal.fields_match-returns
fields_match-returns g t c =
    fields-end (bindings_in c.args.self.now.names (g.S.Semantics.meanings c.args.self.now.semantics.now) c.args.self.now.number c.args.self.now.rule.now) c.args.self.now.rule.now.pattern
    (child_nodes (node_of c.args.self.now.code.now c.args.c.0)) _ _ _ _ c.in-None.ensures.steps.0 c.loop-field.invariant.so_far

pub children_match-loop-first-init : goal.children_match-loop-first-init
children_match-loop-first-init g t c =
    let pattern = c.args.self.now.rule.now.pattern in
    let inner = bindings_in c.args.self.now.names (g.S.Semantics.meanings c.args.self.now.semantics.now) c.args.self.now.number c.args.self.now.rule.now in
    record {
      paired =
          children-start inner pattern c.args.self.now.code.now c.args.p.0 c.args.c.0 c.args.used _ _ _ _ c.pattern-pattern.ensures
          c.counted-ps.ensures.gives c.counted-cs.ensures.gives;
      below =
          subst (λ s. All (IsElementBelow s c.args.p.0) (siblings_left c.counted-ps.result)) c.pattern-pattern.ensures c.counted-ps.ensures.below;
      beside = c.counted-cs.ensures.below;
    }

pub children_match-returns-in_default-next_bare : goal.children_match-returns-in_default-next_bare
children_match-returns-in_default-next_bare g t c =
    paired-short _ _ _ _ _ _ c.loop-first.invariant.paired _ _
    (lent_next _ _ c.in-Some.first _ _ c.pattern-pattern.ensures c.in-Some.ensures.gives)
    (none_left _ _ _ c.in_default-next_bare.ensures.gives c.in_default-next_bare.ensures.none)

pub children_match-pair_matches-requires : goal.children_match-pair_matches-requires
children_match-pair_matches-requires g t c =
    let lt : element_size c.args.self.now.rule.now.pattern c.in-Some.first < children_size c.args.self.now.rule.now.pattern c.args.p.0 =
    element-smaller _ _ _ _ _ c.requires.p_in c.loop-first.invariant.below c.in-Some.ensures.kept
    in
    let has_p : HasElement c.args.self.now.rule.now.pattern c.in-Some.first =
    first-below c.args.self.now.rule.now.pattern c.args.p.0 _ _ _ c.loop-first.invariant.below c.in-Some.ensures.kept
    in
    let has_c : HasElement c.args.self.now.code.now c.in-Some-next_bare.other =
    first-below c.args.self.now.code.now c.args.c.0 _ _ _ c.loop-first.invariant.beside c.in-Some-next_bare.ensures.kept
    in
    λ κs lives. (omega arith, search (rules, lives, has_p, has_c))

pub children_match-returns-then-not-branch : goal.children_match-returns-then-not-branch
children_match-returns-then-not-branch g t c =
    paired-differs _ _ _ _ _ _ c.loop-first.invariant.paired _ _ _ _ _ _
    (lent_next _ _ c.in-Some.first _ _ c.pattern-pattern.ensures c.in-Some.ensures.gives)
    c.in-Some-next_bare.ensures.gives
    c.in_ok-pair_matches.ensures
    c.if-not-branch.true

pub children_match-loop-first-preserved : goal.children_match-loop-first-preserved
children_match-loop-first-preserved g t c =
    let pattern = c.args.self.now.rule.now.pattern in
    let code = c.args.self.now.code.now in
    let n = c.args.p.0 in
    let m = c.args.c.0 in
    record {
      paired =
          paired-turns _ _ _ _ _ _ c.loop-first.invariant.paired _ _ _ _ _ _
          (lent_next _ _ c.in-Some.first _ _ c.pattern-pattern.ensures c.in-Some.ensures.gives)
          c.in-Some-next_bare.ensures.gives
          c.in_ok-pair_matches.ensures
          c.if-not-branch.false;
      below =
          tail_has (IsElementBelow pattern n) c.in-Some.first (siblings_left c.next_bare.new.self)
          (c.in-Some.ensures.kept.below pattern n c.loop-first.invariant.below);
      beside =
          tail_has (IsElementBelow code m) c.in-Some-next_bare.other (siblings_left c.next_bare-in-Some.new.self)
          (c.in-Some-next_bare.ensures.kept.below code m c.loop-first.invariant.beside);
    }

pub children_match-returns : goal.children_match-returns
children_match-returns g t c =
    paired-ends _ _ _ _ _ _ c.loop-first.invariant.paired
    (lent_none _ _ _ _ c.pattern-pattern.ensures c.in_default.ensures.gives c.in_default.ensures.none)
    _ c.next_bare-2.result _ _
    c.next_bare-2.ensures.gives
    c.next_bare-2.ensures.none
    c.is_none.ensures

pub pair_matches-returns-in-Token-Token : goal.pair_matches-returns-in-Token-Token
pair_matches-returns-in-Token-Token g t c =
    tokens-answer c.args.self.now.names (g.S.Semantics.meanings c.args.self.now.semantics.now) c.args.self.now.number c.args.self.now.rule.now c.args.self.now.rule.now.pattern c.pattern.result.now c.args.self.now.code.now c.args.p c.args.c _ _ _ _ c.in-Token-Token.is-0 c.in-Token-Token.is-1 c.pattern.ensures c.tokens_match.ensures

pub method_matches-generics_match-requires : goal.method_matches-generics_match-requires
method_matches-generics_match-requires g t c =
    let pattern = c.args.self.now.rule.now.pattern in
    let code = c.args.self.now.code.now in
    let n = c.args.p.0 in
    let sides = c.in-Some.sides in
    let below = subst (λ o. IfSome o (AreSidesBelow pattern code n)) c.in-Some.is c.in_ok-sides.ensures.below in
    let lt : children_size pattern sides.called.path.0 < lists_size pattern n =
    node-smaller pattern n sides.called.path c.requires.p_in below.called.path
    in
    let has_path : HasNode pattern sides.called.path.0 = below.called.path.0 in
    let has_method : HasMethodNodes code sides.method = below.method in
    λ κs lives. (omega arith, search (rules, lives, has_path, has_method))

pub method_matches-arguments_match-requires : goal.method_matches-arguments_match-requires
method_matches-arguments_match-requires g t c =
    let pattern = c.args.self.now.rule.now.pattern in
    let code = c.args.self.now.code.now in
    let n = c.args.p.0 in
    let sides = c.in-Some.sides in
    let below = subst (λ o. IfSome o (AreSidesBelow pattern code n)) c.in-Some.is c.in_ok-sides.ensures.below in
    let lt : children_size pattern sides.called.list.0 < lists_size pattern n =
    node-smaller pattern n sides.called.list c.requires.p_in below.called.list
    in
    let has_list : HasNode pattern sides.called.list.0 = below.called.list.0 in
    let has_method : HasMethodNodes code sides.method = below.method in
    λ κs lives. (omega arith, search (rules, lives, has_list, has_method))

pub method_matches-returns-then-not-branch : goal.method_matches-returns-then-not-branch
method_matches-returns-then-not-branch g t c =
    let pattern = c.args.self.now.rule.now.pattern in
    let code = c.args.self.now.code.now in
    let sides = c.in-Some.sides in
    generics-differ (bindings_in c.args.self.now.names (g.S.Semantics.meanings c.args.self.now.semantics.now) c.args.self.now.number c.args.self.now.rule.now) (called_at pattern sides.called)
    (method_at code sides.method) sides.receiver _ (ap (option_and_then (sides_at pattern code)) (sym c.in-Some.is) ∙ c.in_ok-sides.ensures.sides)
    _ _ _ _ c.in_ok-generics_match.ensures c.if-not-branch.true

pub method_matches-returns-then-not-branch-2 : goal.method_matches-returns-then-not-branch-2
method_matches-returns-then-not-branch-2 g t c =
    let pattern = c.args.self.now.rule.now.pattern in
    let code = c.args.self.now.code.now in
    let sides = c.in-Some.sides in
    arguments-differ (bindings_in c.args.self.now.names (g.S.Semantics.meanings c.args.self.now.semantics.now) c.args.self.now.number c.args.self.now.rule.now) (called_at pattern sides.called)
    (method_at code sides.method) sides.receiver _ (ap (option_and_then (sides_at pattern code)) (sym c.in-Some.is) ∙ c.in_ok-sides.ensures.sides)
    _ _ _ _ c.in_ok-arguments_match.ensures c.if-not-branch-2.true

pub method_matches-returns : goal.method_matches-returns
method_matches-returns g t c =
    let pattern = c.args.self.now.rule.now.pattern in
    let code = c.args.self.now.code.now in
    let sides = c.in-Some.sides in
    both-match (bindings_in c.args.self.now.names (g.S.Semantics.meanings c.args.self.now.semantics.now) c.args.self.now.number c.args.self.now.rule.now) (called_at pattern sides.called)
    (method_at code sides.method) sides.receiver _ (ap (option_and_then (sides_at pattern code)) (sym c.in-Some.is) ∙ c.in_ok-sides.ensures.sides)
    _ _ _ _ _ _ _ c.empty-held.ensures c.in_ok-generics_match.ensures c.if-not-branch.false c.in_ok-arguments_match.ensures c.if-not-branch-2.false
    c.in_ok-keep.ensures

pub generics_match-loop-first-init : goal.generics_match-loop-first-init
generics_match-loop-first-init g t c =
    let pattern = c.args.self.now.rule.now.pattern in
    record {
      paired =
          generics-start (bindings_in c.args.self.now.names (g.S.Semantics.meanings c.args.self.now.semantics.now) c.args.self.now.number c.args.self.now.rule.now) pattern c.args.self.now.code.now _ c.args.called.path.0 c.args.method.generics _ _ c.pattern-pattern.ensures
          c.arguments-arguments.ensures.gives;
      below =
          subst (λ s. All (IsElementBelow s c.args.called.path.0) (siblings_left c.arguments-arguments.result)) c.pattern-pattern.ensures
          c.arguments-arguments.ensures.below;
      has = c.requires.method_in.generics;
    }

pub generics_match-returns-in_default-take : goal.generics_match-returns-in_default-take
generics_match-returns-in_default-take g t c =
    paired-short _ _ _ _ _ _ c.loop-first.invariant.paired _ _
    (lent_next _ _ c.in-Some.first _ _ c.pattern-pattern.ensures c.in-Some.ensures.gives)
    (generics-none c.args.self.now.code.now _ (sym c.take.ensures.value ∙ none_there c.take.result c.in_default-take.not-Some))

pub generics_match-returns-then-not-branch : goal.generics_match-returns-then-not-branch
generics_match-returns-then-not-branch g t c =
    paired-differs _ _ _ _ _ _ c.loop-first.invariant.paired _ _ _ _ _ _
    (lent_next _ _ c.in-Some.first _ _ c.pattern-pattern.ensures c.in-Some.ensures.gives)
    (generics-taken c.args.self.now.code.now _ _ c.in-Some-take.other (sym c.in-Some-take.ensures.value) c.in-Some-take.ensures.after)
    c.in_ok-pair_matches.ensures
    c.if-not-branch.true

pub generics_match-loop-first-preserved : goal.generics_match-loop-first-preserved
generics_match-loop-first-preserved g t c =
    let pattern = c.args.self.now.rule.now.pattern in
    let n = c.args.called.path.0 in
    record {
      paired =
          paired-turns _ _ _ _ _ _ c.loop-first.invariant.paired _ _ _ _ _ _
          (lent_next _ _ c.in-Some.first _ _ c.pattern-pattern.ensures c.in-Some.ensures.gives)
          (generics-taken c.args.self.now.code.now _ _ c.in-Some-take.other (sym c.in-Some-take.ensures.value) c.in-Some-take.ensures.after)
          c.in_ok-pair_matches.ensures
          c.if-not-branch.false;
      below =
          tail_has (IsElementBelow pattern n) c.in-Some.first (siblings_left c.next_bare.new.self)
          (c.in-Some.ensures.kept.below pattern n c.loop-first.invariant.below);
      has = subst (λ o. IfSome o (λ node. HasNode c.args.self.now.code.now node.0)) (sym c.in-Some-take.ensures.after) tt;
    }

pub generics_match-returns : goal.generics_match-returns
generics_match-returns g t c =
    generics-end _ _ _ _ _ _ c.loop-first.invariant.paired
    (lent_none _ _ _ _ c.pattern-pattern.ensures c.in_default.ensures.gives c.in_default.ensures.none)
    c.args.self.now.code.now c.loop-first.left _ refl c.is_none.ensures

pub generics_match-pair_matches-requires : goal.generics_match-pair_matches-requires
generics_match-pair_matches-requires g t c =
    let pattern = c.args.self.now.rule.now.pattern in
    let code = c.args.self.now.code.now in
    let n = c.args.called.path.0 in
    let lt : element_size pattern c.in-Some.first < children_size pattern n =
    element-smaller _ _ _ _ _ c.requires.path_in c.loop-first.invariant.below c.in-Some.ensures.kept
    in
    let has_p : HasElement pattern c.in-Some.first = first-below pattern n _ _ _ c.loop-first.invariant.below c.in-Some.ensures.kept in
    let has_c : HasNode code c.in-Some-take.other.0 =
    subst (λ o. IfSome o (λ node. HasNode code node.0)) (sym c.in-Some-take.ensures.value) c.loop-first.invariant.has
    in
    λ κs lives. (omega arith, search (rules, lives, has_p, has_c))

pub arguments_match-loop-first-init : goal.arguments_match-loop-first-init
arguments_match-loop-first-init g t c =
    let pattern = c.args.self.now.rule.now.pattern in
    let n = c.args.called.list.0 in
    let items = c.into_iter-first-iterator.ensures.into_iter_gives in
    record {
      paired =
          arguments-start (bindings_in c.args.self.now.names (g.S.Semantics.meanings c.args.self.now.semantics.now) c.args.self.now.number c.args.self.now.rule.now) pattern c.args.self.now.code.now c.pattern.result.now n c.args.method c.into_iter-first-iterator.result _ _ c.pattern.ensures
          (ap (nodes_at c.pattern.result.now) items ∙ c.of-first-items.ensures.nodes) c.of-cs.ensures.nodes;
      below =
          subst (All (IsNodeBelow pattern n)) (sym items)
          (subst (λ s. All (IsNodeBelow s n) c.of-first-items.result) c.pattern.ensures c.of-first-items.ensures.below);
      beside = c.of-cs.ensures.has;
    }

pub arguments_match-returns-in_default : goal.arguments_match-returns-in_default
arguments_match-returns-in_default g t c =
    paired-short _ _ _ _ _ _ c.loop-first.invariant.paired _ _
    (nodes-next c.args.self.now.rule.now.pattern _ c.next.new.self c.in-Some.first c.in-Some.ensures.steps)
    (ap (node_parts c.args.self.now.code.now) c.in_default.ensures.steps.0)

pub arguments_match-returns-then-not-branch : goal.arguments_match-returns-then-not-branch
arguments_match-returns-then-not-branch g t c =
    paired-differs _ _ _ _ _ _ c.loop-first.invariant.paired _ _ _ _ _ _
    (nodes-next c.args.self.now.rule.now.pattern _ c.next.new.self c.in-Some.first c.in-Some.ensures.steps)
    (nodes-next c.args.self.now.code.now _ c.next-in-loop-first.new.self c.in-Some-next.other c.in-Some-next.ensures.steps)
    c.in_ok-node_matches.ensures
    c.if-not-branch.true

pub arguments_match-loop-first-preserved : goal.arguments_match-loop-first-preserved
arguments_match-loop-first-preserved g t c =
    let pattern = c.args.self.now.rule.now.pattern in
    let code = c.args.self.now.code.now in
    record {
      paired =
          paired-turns _ _ _ _ _ _ c.loop-first.invariant.paired _ _ _ _ _ _
          (nodes-next pattern _ c.next.new.self c.in-Some.first c.in-Some.ensures.steps)
          (nodes-next code _ c.next-in-loop-first.new.self c.in-Some-next.other c.in-Some-next.ensures.steps)
          c.in_ok-node_matches.ensures
          c.if-not-branch.false;
      below = nodes_behind (IsNodeBelow pattern c.args.called.list.0) c.in-Some.first _ c.next.new.self c.in-Some.ensures.steps c.loop-first.invariant.below;
      beside =
          nodes_behind (λ node. HasNode code node.0) c.in-Some-next.other _ c.next-in-loop-first.new.self c.in-Some-next.ensures.steps
          c.loop-first.invariant.beside;
    }

pub arguments_match-returns : goal.arguments_match-returns
arguments_match-returns g t c =
    nodes-end _ _ _ _ _ _ c.loop-first.invariant.paired (ap (node_parts c.args.self.now.rule.now.pattern) c.in-None.ensures.steps.0)
    c.args.self.now.code.now c.next-2.result c.loop-first.cs _ _ refl c.next-2.ensures.steps c.is_none.ensures

pub arguments_match-node_matches-requires : goal.arguments_match-node_matches-requires
arguments_match-node_matches-requires g t c =
    let pattern = c.args.self.now.rule.now.pattern in
    let code = c.args.self.now.code.now in
    let n = c.args.called.list.0 in
    let below = node_first (IsNodeBelow pattern n) c.in-Some.first _ c.next.new.self c.in-Some.ensures.steps c.loop-first.invariant.below in
    let lt : element_size pattern (element.Node c.in-Some.first) < children_size pattern n =
    smaller_below pattern n (element.Node c.in-Some.first) c.requires.list_in below
    in
    let has_p : HasNode pattern c.in-Some.first.0 = below.0 in
    let has_c : HasNode code c.in-Some-next.other.0 =
    node_first (λ node. HasNode code node.0) c.in-Some-next.other _ c.next-in-loop-first.new.self c.in-Some-next.ensures.steps c.loop-first.invariant.beside
    in
    λ κs lives. (omega arith, search (rules, lives, has_p, has_c))

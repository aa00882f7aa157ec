use Rattle.std.proofs.Common.{◌≡◌, ℕ, arith, rules, List, length, map, string_bytes, All, Ok, ap, sym, ◌∙◌}
use Rattle.std.proofs.lemmas.Grind.{common_steps}
use Rattle.std.proofs.lemmas.List.Elements.{All-weaker}
use Rattle.std.proofs.lemmas.List.{length-map, nil_from_length}
use Rattle.std.specs.declared.alloc.Global.{Global}
use Rattle.std.specs.declared.string.String.{String}
use Rattle.std.specs.Vec.Iter.{into_iter_items}
use Rattle.ssr_base_trees.specs.declared.ids.ScopeId.{ScopeId}
use Rattle.ssr_base_trees.specs.Meanings.{Meanings}
use Rattle.ide_ssr_rules.specs.declared.kinds.ParsedRule.{ParsedRule}
use Rattle.ide_ssr_rules.specs.Patterns.{HasEachAtMostOnce, AreReadOnce}
use Rattle.ide_ssr_rules.specs.Rules.{Rule}
use Rattle.ide_ssr_resolved_rule.specs.Patterns.{HasEachOnce, AreInArguments}
use Rattle.ide_ssr_resolved_rule.specs.Resolved.{ResolvedRule}
use Rattle.ide_ssr_rules.specs.Resolved.{resolved_kind, resolved_kinds}
use Rattle.ide_ssr_rules.proofs.ResolvedUses.{IsUsedOnce, resolved_once, resolved_known}
use Rattle.ide_ssr_rules.proofs.KindByKind.{Resolves, resolves_all, resolves_next}
use Rattle.ide_ssr_rules.proofs.resolved.resolve.Goals as goal

-- each of the resolved kinds uses its placeholders once
all_once : (m : Meanings) (scope : ScopeId) (rule : Rule) (left : List ParsedRule) (found : List ResolvedRule)
    → Resolves m scope rule.names rule.constraints rule.kinds found left → length left ≡ 0
    → All (AreReadOnce rule.names) rule.kinds → All IsUsedOnce found
all_once m scope rule left found so_far none once =
    resolved_once m scope rule.names rule.constraints rule.kinds found
    (resolves_all m scope rule.names rule.constraints rule.kinds left found so_far (nil_from_length left none)) once

pub loop-kind-preserved : goal.loop-kind-preserved
loop-kind-preserved g c =
    let m = g.S.Semantics.meanings c.args.semantics.now in
    let kind = c.in-Some.kind in
    let asked = c.args.parsed.constraints in
    let known = c.in_ok-known.known in
    let named : known ≡ c.args.parsed.names =
    c.in_ok-known.ensures ∙ ap (map string_bytes) c.as_slice.ensures.value ∙ c.into_parts-names.ensures.names in
    let resolved : resolved_kind m c.args.scope c.args.parsed.names asked kind ≡ Ok c.in_ok-resolved_kind.field-0 =
    ap (λ ns. resolved_kind m c.args.scope ns asked kind) (sym named)
    ∙ ap (λ asks. resolved_kind m c.args.scope known asks kind) (sym (c.as_slice-2.ensures.value ∙ c.into_parts-names.ensures.constraints))
    ∙ c.in_ok-resolved_kind.ensures in
    resolves_next m c.args.scope c.args.parsed.names asked c.args.parsed.kinds (into_iter_items c.loop-kind.kind-iterator) (into_iter_items c.next.new.self)
    c.loop-kind.resolved.items c.push.new.self.items kind c.in_ok-resolved_kind.field-0 c.loop-kind.invariant c.in-Some.ensures.steps.0
    resolved c.in_ok-push.ensures.items

pub returns-clause-each : goal.returns-clause-each
returns-clause-each g c =
    All-weaker IsUsedOnce (λ kind. HasEachOnce kind.names kind.pattern) (λ kind is. is.0) c.loop-kind.resolved.items
    (all_once (g.S.Semantics.meanings c.args.semantics.now) c.args.scope c.args.parsed (into_iter_items c.loop-kind.kind-iterator) c.loop-kind.resolved.items
    c.loop-kind.invariant (sym c.loop-kind.kind-iterator.rest.ok.0 ∙ c.in-None.ensures.steps.0) c.into_parts-names.ensures.once)

pub returns-clause-at_most_once : goal.returns-clause-at_most_once
returns-clause-at_most_once g c =
    All-weaker IsUsedOnce (λ kind. HasEachAtMostOnce kind.names kind.template) (λ kind is. is.1) c.loop-kind.resolved.items
    (all_once (g.S.Semantics.meanings c.args.semantics.now) c.args.scope c.args.parsed (into_iter_items c.loop-kind.kind-iterator) c.loop-kind.resolved.items
    c.loop-kind.invariant (sym c.loop-kind.kind-iterator.rest.ok.0 ∙ c.in-None.ensures.steps.0) c.into_parts-names.ensures.once)

pub returns-clause-in_arguments : goal.returns-clause-in_arguments
returns-clause-in_arguments g c =
    All-weaker IsUsedOnce (λ kind. AreInArguments kind.names kind.pattern kind.pattern_paths) (λ kind is. is.2) c.loop-kind.resolved.items
    (all_once (g.S.Semantics.meanings c.args.semantics.now) c.args.scope c.args.parsed (into_iter_items c.loop-kind.kind-iterator) c.loop-kind.resolved.items
    c.loop-kind.invariant (sym c.loop-kind.kind-iterator.rest.ok.0 ∙ c.in-None.ensures.steps.0) c.into_parts-names.ensures.once)

pub returns-clause-known : goal.returns-clause-known
returns-clause-known g c =
    let m = g.S.Semantics.meanings c.args.semantics.now in
    let rule = c.args.parsed in
    let left = into_iter_items c.loop-kind.kind-iterator in
    let found = c.loop-kind.resolved.items in
    let none : length left ≡ 0 = sym c.loop-kind.kind-iterator.rest.ok.0 ∙ c.in-None.ensures.steps.0 in
    let all : resolved_kinds m c.args.scope rule.names rule.constraints rule.kinds ≡ Ok found =
    resolves_all m c.args.scope rule.names rule.constraints rule.kinds left found c.loop-kind.invariant (nil_from_length left none) in
    resolved_known m c.args.scope rule.names rule.constraints rule.kinds found all c.into_parts-names.ensures.once

pub resolved_kind-requires : goal.resolved_kind-requires
resolved_kind-requires g c =
    let few = c.into_parts-names.ensures.few in
    omega (arith, few, ap length (c.in_ok-known.ensures ∙ ap (map string_bytes) c.as_slice.ensures.value), length-map {A = String Global} {B = List ℕ})

pub returns-clause-kinds : goal.returns-clause-kinds
returns-clause-kinds g c = first_of (search rules steps 500000, grind (arith, common_steps) steps 500000)

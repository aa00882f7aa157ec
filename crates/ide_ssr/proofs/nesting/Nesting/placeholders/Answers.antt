use Rattle.std.proofs.Common.{◌≡◌, ◌≢◌, ℕ, ◌∙◌, None, Some, All, AllPairs, Contains, get_or, map, sym, ap, subst}
use Rattle.std.specs.Prelude.{IsSome}
use Rattle.std.proofs.lemmas.Option.{same_Some}
use Rattle.ide_ssr_bindings.specs.Found.{FoundMatch}
use Rattle.ide_ssr_nesting.specs.Lists.{listed}
use Rattle.ide_ssr.specs.Nesting.{Show}
use Rattle.ide_ssr.specs.Private.Made.{ShowPlaceholders}
use Rattle.ide_ssr.proofs.Holders.{once}
use Rattle.ide_ssr.proofs.Showing.{under, all_there, show_taken, holding_none, held_made, holding_more, holding_all, holding_others, match_at, order_within, index_within, range_there, binding_shown}
use Rattle.ide_ssr.proofs.nesting.Nesting.placeholders.Goals as goal

pub loop-index-init : goal.loop-index-init
loop-index-init c =
    let kept = c.args.self.now.kept.now in
    let m = c.get-m.result.now in
    let order = c.deref-index-items.result.now in
    holding_none c.args.self.now.rules.now kept c.args.self.now.lists.now c.args.place m order c.args.made.now.items _ (match_at kept c.args.place m c.requires.kept c.get-m.ensures)
    (order_within kept c.workspace-workspace.result.now m c.in_ok-order.order.items order c.workspace-workspace.ensures c.in_ok-order.ensures
    c.deref-index-items.ensures.value)
    c.new-placeholders.ensures.items

pub binding_at-binding-requires : goal.binding_at-binding-requires
binding_at-binding-requires c =
    index_within c.args.self.now.kept.now.workspace c.get-m.result.now c.deref-index-items.result.now c.loop-index.index-index c.loop-index.invariant.by_start
    c.loop-index-test.true

pub take_list-requires-clause-once : goal.take_list-requires-clause-once
take_list-requires-clause-once c =
    subst (AllPairs (λ (m : ℕ) (n : ℕ). m ≢ n)) (sym c.under.ensures)
    (once c.args.self.now.kept.now c.args.self.now.lists.now c.requires.lists (under c.args.place (get_or c.deref-index-items.result.now c.loop-index.index-index 0)))

pub take_list-requires-clause-there : goal.take_list-requires-clause-there
take_list-requires-clause-there c =
    let made = c.loop-index.made.items in
    subst (All (λ (n : ℕ). IsSome (get_or made n None))) (sym c.under.ensures)
    (all_there c.args.self.now.rules.now c.args.self.now.kept.now c.args.self.now.lists.now made _
    (held_made c.args.self.now.rules.now c.args.self.now.kept.now c.args.self.now.lists.now c.args.place c.get-m.result.now c.deref-index-items.result.now c.loop-index.index-index
    c.args.made.now.items made c.loop-index.placeholders.items c.requires.kept c.requires.lists c.requires.made c.loop-index.invariant c.loop-index-test.true))

pub nested_placeholder-requires-clause-range : goal.nested_placeholder-requires-clause-range
nested_placeholder-requires-clause-range c =
    let b = c.binding_at-binding.result in
    range_there c.args.self.now.kept.now c.workspace-workspace.result.now c.get-m.result.now c.node-tree.result b _ c.loop-index.invariant.is_match
    c.workspace-workspace.ensures c.node-tree.ensures c.binding_at-binding.ensures

pub loop-index-preserved : goal.loop-index-preserved
loop-index-preserved c =
    let kept = c.args.self.now.kept.now in
    let lists = c.args.self.now.lists.now in
    let rules = c.args.self.now.rules.now in
    let place = c.args.place in
    let m = c.get-m.result.now in
    let order = c.deref-index-items.result.now in
    let p = c.loop-index.index-index in
    let b = c.binding_at-binding.result in
    let places = listed lists (under place (get_or order p 0)) in
    let made = c.loop-index.made.items in
    let all = held_made rules kept lists place m order p c.args.made.now.items made c.loop-index.placeholders.items c.requires.kept c.requires.lists c.requires.made
    c.loop-index.invariant c.loop-index-test.true in
    let placeholder = c.in_ok-nested_placeholder.field-0 in
    let taken : map Some c.in_ok-inner.inner.items ≡ map (λ n. get_or made n None) places =
    c.in_ok-inner.ensures.taken ∙ ap (map (λ n. get_or made n None)) c.under.ensures in
    holding_more rules kept lists place m order p c.args.made.now.items made _ c.loop-index.placeholders.items _ b placeholder c.requires.kept c.requires.lists
    c.loop-index.invariant c.loop-index-test.true
    c.binding_at-binding.ensures
    (binding_shown kept c.workspace-workspace.result.now rules m c.node-tree.result c.rule.result b placeholder c.placeholder_name-name.result.now
    c.workspace-workspace.ensures c.node-tree.ensures c.rule.ensures c.in_ok-nested_placeholder.ensures.name c.placeholder_name-name.ensures
    c.in_ok-nested_placeholder.ensures.range c.in_ok-nested_placeholder.ensures.deref_count c.in_ok-nested_placeholder.ensures.self_kind)
    (subst (Show rules kept lists places) (sym c.in_ok-nested_placeholder.ensures.inner) (show_taken rules kept lists made places c.in_ok-inner.inner.items all taken))
    (λ j out. c.in_ok-inner.ensures.others j (subst (λ places. Contains places j → ⊥) (sym c.under.ensures) out))
    c.in_ok-inner.ensures.counted c.in_ok-push.ensures.items

pub returns-clause-shown : goal.returns-clause-shown
returns-clause-shown c other is =
    let kept = c.args.self.now.kept.now in
    let m = c.get-m.result.now in
    subst (λ (m : FoundMatch). ShowPlaceholders c.args.self.now.rules.now kept c.args.self.now.lists.now c.args.place m c.loop-index.placeholders.items)
    (same_Some m other (sym c.get-m.ensures ∙ is))
    (holding_all c.args.self.now.rules.now kept c.args.self.now.lists.now c.args.place m c.deref-index-items.result.now c.loop-index.index-index c.args.made.now.items
    c.loop-index.made.items c.loop-index.placeholders.items c.loop-index.invariant c.loop-index-test.false)

pub returns-clause-others : goal.returns-clause-others
returns-clause-others c =
    holding_others c.args.self.now.rules.now c.args.self.now.kept.now c.args.self.now.lists.now c.args.place c.get-m.result.now c.deref-index-items.result.now c.loop-index.index-index
    c.args.made.now.items c.loop-index.made.items c.loop-index.placeholders.items c.loop-index.invariant

use Rattle.std.proofs.Common.{◌+◌, length, refl, sym, arith}
use Rattle.std.proofs.lemmas.Bool.{both_ways}
use Rattle.std.proofs.lemmas.Option.{slice_get_read}
use Rattle.std.specs.Option.{option_copied}
use Rattle.ssr_base_trees.specs.Workspace.{trees}
use Rattle.ide_ssr_nesting.specs.Kept.{IsShadowed}
use Rattle.ide_ssr_bindings.proofs.Shared.{is_tree}
use Rattle.ide_ssr_search.proofs.Asked.{unmatched_word, not_met}
use Rattle.ide_ssr_search.proofs.Finding.{found_more, found_unwanted, found_other, found_at, found_last, stays_shadowed}
use Rattle.ide_ssr_search.proofs.Counting.{kept_none, kept_try, kept_rule, kept_node}
use Rattle.ide_ssr_search.proofs.scan.TreeScan.add_matches.Goals as goal

pub loop-place-init : goal.loop-place-init
loop-place-init g c =
    let scan = c.args.self.now.known in
    record {
      found = c.requires.found;
      count = kept_none scan.workspace.now scan.context.now c.args.self.now.rules.now.rules.now c.args.self.now.rules.now.wanted.now scan.number c.args.node.0 c.args.tries.now;
      tried = omega arith;
    }

pub loop-place-preserved : goal.loop-place-preserved
loop-place-preserved g c =
    let scan = c.args.self.now.known in
    let rules = c.args.self.now.rules.now in
    let p = c.loop-place.place in
    let wanted = c.wants.ensures.0 c.if-not-wants.false in
    record {
      found =
          found_more scan.workspace.now (g.S.Semantics.meanings c.args.self.now.semantics.now) scan.context.now rules.rules.now rules.wanted.now (IsShadowed (trees scan.workspace.now)) (stays_shadowed scan.workspace.now) scan.number c.args.node.0 p scan.tree.now c.rule-item.result
          c.loop-place.found.items c.add_match.new.found.items c.requires.known.tree c.loop-place-test.true c.rule-item.is wanted c.loop-place.invariant.found c.in_ok-shadows.ensures.added;
      count =
          kept_try scan.workspace.now scan.context.now rules.rules.now rules.wanted.now scan.number c.args.node.0 p c.rule-item.result c.args.tries.now c.loop-place.tries c.add_match.new.tries
          (slice_get_read rules.rules.now (length rules.rules.now) p c.rule-item.result refl c.loop-place-test.true c.rule-item.is) wanted c.loop-place.invariant.count c.in_ok-shadows.ensures.count;
      tried = omega (arith, c.loop-place.invariant.tried, c.in_ok-shadows.ensures.tried);
    }

pub loop-place-preserved-then-not-wants : goal.loop-place-preserved-then-not-wants
loop-place-preserved-then-not-wants g c =
    let scan = c.args.self.now.known in
    let rules = c.args.self.now.rules.now in
    record {
      found =
          found_unwanted scan.workspace.now (g.S.Semantics.meanings c.args.self.now.semantics.now) scan.context.now rules.rules.now rules.wanted.now (IsShadowed (trees scan.workspace.now)) (stays_shadowed scan.workspace.now) scan.number c.args.node.0 c.loop-place.place
          c.loop-place.found.items (λ wanted. both_ways c.wants.result c.if-not-wants.true (c.wants.ensures.1 wanted)) c.loop-place.invariant.found;
      count =
          kept_rule scan.workspace.now scan.context.now rules.rules.now rules.wanted.now scan.number c.args.node.0 c.loop-place.place c.args.tries.now c.loop-place.tries c.loop-place.invariant.count;
      tried = c.loop-place.invariant.tried;
    }

pub loop-place-preserved-then-not-allows : goal.loop-place-preserved-then-not-allows
loop-place-preserved-then-not-allows g c =
    let scan = c.args.self.now.known in
    let w = scan.workspace.now in
    let m = g.S.Semantics.meanings c.args.self.now.semantics.now in
    let rules = c.args.self.now.rules.now in
    let n = c.args.node.0 in
    let p = c.loop-place.place in
    let rule = c.rule-item.result in
    let is_rule = slice_get_read rules.rules.now (length rules.rules.now) p rule refl c.loop-place-test.true c.rule-item.is in
    let asked = c.index-asked.result.now in
    let is_asked =
    c.requires.rules.each p rule asked is_rule
    (slice_get_read rules.asked.items (length rules.rules.now) p asked (sym c.requires.rules.counted) c.loop-place-test.true c.index-asked.ensures) in
    record {
      found =
          found_other w m scan.context.now rules.rules.now rules.wanted.now (IsShadowed (trees w)) (stays_shadowed w) scan.number n p rule c.loop-place.found.items is_rule
          (unmatched_word w m scan.number n scan.tree.now (is_tree w scan.number scan.tree.now c.requires.known.tree) rule (option_copied asked.word)
          (option_copied c.word_of-word.result) is_asked.word c.word_of-word.ensures (not_met c.allows.result _ _ c.allows.ensures c.if-not-allows.true))
          c.loop-place.invariant.found;
      count = kept_rule w scan.context.now rules.rules.now rules.wanted.now scan.number n p c.args.tries.now c.loop-place.tries c.loop-place.invariant.count;
      tried = c.loop-place.invariant.tried;
    }

pub returns-clause-found : goal.returns-clause-found
returns-clause-found g c =
    let scan = c.args.self.now.known in
    found_at scan.workspace.now (g.S.Semantics.meanings c.args.self.now.semantics.now) scan.context.now c.args.self.now.rules.now.rules.now c.args.self.now.rules.now.wanted.now (IsShadowed (trees scan.workspace.now)) (stays_shadowed scan.workspace.now) scan.number c.args.node.0 c.loop-place.place c.loop-place.found.items
    c.loop-place-test.false c.loop-place.invariant.found

pub returns-clause-count : goal.returns-clause-count
returns-clause-count g c =
    let scan = c.args.self.now.known in
    kept_node scan.workspace.now scan.context.now c.args.self.now.rules.now.rules.now c.args.self.now.rules.now.wanted.now scan.number c.args.node.0 scan.number c.args.node.0 c.loop-place.place c.args.tries.now c.loop-place.tries
    c.loop-place.invariant.count

pub returns-then-shadows-clause-found : goal.returns-then-shadows-clause-found
returns-then-shadows-clause-found g c =
    let scan = c.args.self.now.known in
    let w = scan.workspace.now in
    let m = g.S.Semantics.meanings c.args.self.now.semantics.now in
    let rules = c.args.self.now.rules.now in
    let p = c.loop-place.place in
    found_last w m scan.context.now rules.rules.now rules.wanted.now (IsShadowed (trees w)) (stays_shadowed w) scan.number c.args.node.0 p c.add_match.new.found.items
    (c.in_ok-shadows.ensures.shadows c.if-shadows.true)
    (found_more w m scan.context.now rules.rules.now rules.wanted.now (IsShadowed (trees w)) (stays_shadowed w) scan.number c.args.node.0 p scan.tree.now c.rule-item.result
    c.loop-place.found.items c.add_match.new.found.items c.requires.known.tree c.loop-place-test.true c.rule-item.is (c.wants.ensures.0 c.if-not-wants.false) c.loop-place.invariant.found
    c.in_ok-shadows.ensures.added)

pub returns-then-shadows-clause-count : goal.returns-then-shadows-clause-count
returns-then-shadows-clause-count g c =
    let scan = c.args.self.now.known in
    let w = scan.workspace.now in
    let rules = c.args.self.now.rules.now in
    let n = c.args.node.0 in
    let p = c.loop-place.place in
    kept_node w scan.context.now rules.rules.now rules.wanted.now scan.number n scan.number n (p + 1) c.args.tries.now c.add_match.new.tries
    (kept_try w scan.context.now rules.rules.now rules.wanted.now scan.number n p c.rule-item.result c.args.tries.now c.loop-place.tries c.add_match.new.tries
    (slice_get_read rules.rules.now (length rules.rules.now) p c.rule-item.result refl c.loop-place-test.true c.rule-item.is) (c.wants.ensures.0 c.if-not-wants.false)
    c.loop-place.invariant.count c.in_ok-shadows.ensures.count)

pub add_match-requires-clause-asked : goal.add_match-requires-clause-asked
add_match-requires-clause-asked g c =
    let rules = c.args.self.now.rules.now in
    let p = c.loop-place.place in
    c.requires.rules.each p c.rule-item.result c.index-asked.result.now
    (slice_get_read rules.rules.now (length rules.rules.now) p c.rule-item.result refl c.loop-place-test.true c.rule-item.is)
    (slice_get_read rules.asked.items (length rules.rules.now) p c.index-asked.result.now (sym c.requires.rules.counted) c.loop-place-test.true c.index-asked.ensures)

pub returns-then-shadows-clause-tried : goal.returns-then-shadows-clause-tried
returns-then-shadows-clause-tried g c = omega (arith, c.loop-place.invariant.tried, c.in_ok-shadows.ensures.tried)

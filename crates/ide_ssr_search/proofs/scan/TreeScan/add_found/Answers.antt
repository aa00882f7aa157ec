use Rattle.std.proofs.Common.{◌≡◌, ◌+◌, max, sym, ap, ◌∙◌, refl, inl, arith}
use Rattle.ssr_syntax_tree.specs.Places.{HasNode}
use Rattle.ssr_base_trees.specs.Workspace.{trees, node_id}
use Rattle.ide_ssr_search.specs.Private.Shut.{IsShutIn, IsShut}
use Rattle.ide_ssr_nesting.specs.Kept.{IsShadowed}
use Rattle.ide_ssr_bindings.proofs.Shared.{is_tree}
use Rattle.ide_ssr_search.specs.Private.Roots.{has_kind}
use Rattle.ide_ssr_search.proofs.Asked.{unmatched_kind, unshutting_kind, no_call_of_kind}
use Rattle.ide_ssr_search.proofs.Calls.{shut_kept}
use Rattle.ide_ssr_search.proofs.Finding.{found_in, found_unmatched, stays_shadowed}
use Rattle.ide_ssr_search.proofs.Counting.{kept_on, kept_node, kept_tree}
use Rattle.ide_ssr_search.proofs.Shutting.{past_now, past_turn, past_call, tested}
use Rattle.ide_ssr_search.proofs.scan.TreeScan.add_found.Goals as goal

pub add_at-requires-clause-shut : goal.add_at-requires-clause-shut
add_at-requires-clause-shut g c =
    let scan = c.args.self.now.known in
    let w = scan.workspace.now in
    let n = c.loop-number.number in
    let has : HasNode scan.tree.now n = omega arith in
    tested n c.loop-number.past (IsShutIn (trees w) (node_id scan.number n))
    (past_now (trees w) scan.number scan.tree.now (is_tree w scan.number scan.tree.now c.requires.known.tree) n c.loop-number.past has c.loop-number.invariant.past)

pub add_shut-requires-clause-shuts : goal.add_shut-requires-clause-shuts
add_shut-requires-clause-shuts g c =
    let scan = c.args.self.now.known in
    let w = scan.workspace.now in
    let n = c.loop-number.number in
    let has : HasNode scan.tree.now n = omega arith in
    tested n c.max-past.result (IsShut (trees w) (node_id scan.number n))
    (past_call (trees w) scan.number scan.tree.now (is_tree w scan.number scan.tree.now c.requires.known.tree) n c.past.result c.loop-number.past c.max-past.result has
    c.loop-number.invariant.past c.past.ensures c.max-past.ensures)

pub loop-number-preserved : goal.loop-number-preserved
loop-number-preserved g c =
    let scan = c.args.self.now.known in
    let w = scan.workspace.now in
    let n = c.loop-number.number in
    let has : HasNode scan.tree.now n = omega arith in
    record {
      found = c.in_ok-add_at.ensures.found;
      count =
          kept_on w scan.context.now c.args.self.now.rules.now.rules.now c.args.self.now.rules.now.wanted.now scan.number 0 scan.number n scan.number (n + 1) 0 c.args.tries.now c.loop-number.tries c.add_at.new.tries
          c.loop-number.invariant.count c.in_ok-add_at.ensures.count;
      tried = omega (arith, c.loop-number.invariant.tried, c.in_ok-add_at.ensures.tried);
      shut = c.in_ok-add_shut.ensures;
      past =
          past_turn (trees w) scan.number scan.tree.now (is_tree w scan.number scan.tree.now c.requires.known.tree) n c.past.result c.loop-number.past c.max-past.result has
          c.loop-number.invariant.past c.past.ensures c.max-past.ensures;
    }

pub loop-number-preserved-then-not-has : goal.loop-number-preserved-then-not-has
loop-number-preserved-then-not-has g c =
    let scan = c.args.self.now.known in
    let w = scan.workspace.now in
    let n = c.loop-number.number in
    let has : HasNode scan.tree.now n = omega arith in
    let at = is_tree w scan.number scan.tree.now c.requires.known.tree in
    let rules = c.args.self.now.rules.now in
    let same : c.loop-number.past ≡ max 0 c.loop-number.past = omega arith in
    let kinds = c.kinds_in-kinds.result in
    let are = c.kinds_in-kinds.ensures in
    let lacks = ap (has_kind kinds) (sym c.kind.ensures) ∙ sym c.has.ensures ∙ c.if-not-has.true in
    record {
      found =
          found_unmatched w (g.S.Semantics.meanings c.args.self.now.semantics.now) scan.context.now rules.rules.now rules.wanted.now (IsShadowed (trees w)) (stays_shadowed w) scan.number n c.loop-number.found.items
          (unmatched_kind w (g.S.Semantics.meanings c.args.self.now.semantics.now) scan.number n scan.tree.now at rules kinds are has lacks) c.loop-number.invariant.found;
      count =
          kept_node w scan.context.now rules.rules.now rules.wanted.now scan.number 0 scan.number n 0 c.args.tries.now c.loop-number.tries c.loop-number.invariant.count;
      tried = c.loop-number.invariant.tried;
      shut =
          shut_kept w scan.number n c.loop-number.shut (λ call _. no_call_of_kind w scan.number n scan.tree.now at rules kinds are lacks call)
          c.loop-number.invariant.shut;
      past =
          past_turn (trees w) scan.number scan.tree.now at n 0 c.loop-number.past c.loop-number.past has c.loop-number.invariant.past
          (inl (refl, unshutting_kind w scan.number n scan.tree.now at rules kinds are lacks)) same;
    }

pub returns-clause-found : goal.returns-clause-found
returns-clause-found g c =
    let scan = c.args.self.now.known in
    found_in scan.workspace.now (g.S.Semantics.meanings c.args.self.now.semantics.now) scan.context.now c.args.self.now.rules.now.rules.now c.args.self.now.rules.now.wanted.now (IsShadowed (trees scan.workspace.now)) (stays_shadowed scan.workspace.now) scan.number c.loop-number.number scan.tree.now
    c.loop-number.found.items c.requires.known.tree (omega arith) c.loop-number.invariant.found

pub returns-clause-count : goal.returns-clause-count
returns-clause-count g c =
    let scan = c.args.self.now.known in
    kept_tree scan.workspace.now scan.context.now c.args.self.now.rules.now.rules.now c.args.self.now.rules.now.wanted.now scan.number 0 scan.number c.loop-number.number c.args.tries.now c.loop-number.tries c.loop-number.invariant.count

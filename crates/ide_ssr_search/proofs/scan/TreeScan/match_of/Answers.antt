use Rattle.std.proofs.Common.{◌≡◌, ◌+◌, sym, ◌∙◌, inr, Option, Some, None, Result, Ok, Err}
use Rattle.std.specs.Prelude.{IfOk, IfSome}
use Rattle.ide_ssr_bindings.proofs.Shared.{is_tree}
use Rattle.ide_ssr_search.proofs.Asked.{unmatched_root}
use Rattle.ide_ssr_search.proofs.scan.TreeScan.match_of.Goals as goal

pub returns-then-not-is_met-clause-found : goal.returns-then-not-is_met-clause-found
returns-then-not-is_met-clause-found g c =
    let scan = c.args.self.now.known in
    let w = scan.workspace.now in
    λ bindings permitted. unmatched_root w (g.S.Semantics.meanings c.args.self.now.semantics.now) scan.number c.args.node.0 scan.tree.now (is_tree w scan.number scan.tree.now c.requires.known.tree) c.args.one.rule.now c.args.one.asked.root
    c.requires.asked.root (sym c.is_met.ensures ∙ c.if-not-is_met.true) bindings

pub returns-clause-count : goal.returns-clause-count
returns-clause-count g c = inr ((c.is_permitted.ensures c.args.one.rule.now c.requires.asked).0 c.if-not-is_permitted.false, c.match_in.ensures.count)

-- what holds anyway holds of what is found
of_found : {A E : Type 0} (P : Type 0) (result : Result (Option A) E) → P → IfOk result (λ found. IfSome found (λ _. P))
of_found P (Ok None) is = tt
of_found P (Ok (Some found)) is = is
of_found P (Err e) is = tt

pub returns-clause-counted : goal.returns-clause-counted
returns-clause-counted g c = of_found (c.match_in.new.tries ≡ c.args.tries.now + 1) c.match_in.result c.match_in.ensures.count

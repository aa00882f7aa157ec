use Rattle.std.proofs.Common.{◌≡◌, ℕ, ◌+◌, ◌≤◌, Bool, List, true, length, replicate, ◌∙◌, subst}
use Rattle.std.proofs.lemmas.Result.{IfOk-weaker}
use Rattle.ssr_base_trees.specs.Workspace.{trees}
use Rattle.ide_ssr_bindings.specs.Found.{AreMatches}
use Rattle.ide_ssr_nesting.specs.Kept.{AreEnough}
use Rattle.ide_ssr_search.specs.Found.{IsFound, IsFoundOf}
use Rattle.ide_ssr_search.specs.Tries.{IsMostOf}
use Rattle.ide_ssr_search.proofs.Finding.{enough_of_all}
use Rattle.ide_ssr_search.proofs.Matched.{are_matches_of}
use Rattle.ide_ssr_search.proofs.scan.find_matches.Goals as goal

pub returns-clause-found : goal.returns-clause-found
returns-clause-found g c =
    let w = c.args.workspace.now in
    let m = g.S.Semantics.meanings c.args.semantics.now in
    let context = c.args.context.now in
    let rules = c.args.rules.now in
    let all : c.in_ok-flags.flags.items ≡ replicate (length rules) true = c.in_ok-flags.ensures.items_if_clones_equal (λ y is. is) in
    IfOk-weaker c.find_wanted.result (λ found. AreEnough (trees w) (IsFoundOf w m context rules c.deref.result.now) found.items) (λ found. AreEnough (trees w) (IsFound w m context rules) found.items)
    (λ found are.
    enough_of_all w m context rules found.items
    (subst (λ wanted. AreEnough (trees w) (IsFoundOf w m context rules wanted) found.items) (c.deref.ensures.value ∙ all) are))
    c.find_wanted.ensures.found

pub returns-clause-in_order : goal.returns-clause-in_order
returns-clause-in_order g c = c.find_wanted.ensures.in_order

pub returns-clause-matches : goal.returns-clause-matches
returns-clause-matches g c =
    let w = c.args.workspace.now in
    let m = g.S.Semantics.meanings c.args.semantics.now in
    let context = c.args.context.now in
    let rules = c.args.rules.now in
    IfOk-weaker c.find_wanted.result (λ found. AreEnough (trees w) (IsFoundOf w m context rules c.deref.result.now) found.items) (λ found. AreMatches (trees w) found.items)
    (λ found are. are_matches_of w m context rules found.items (λ f had. (are.found f had).0))
    c.find_wanted.ensures.found

pub returns-clause-tried : goal.returns-clause-tried
returns-clause-tried g c = c.find_wanted.ensures.tried

pub returns-clause-count : goal.returns-clause-count
returns-clause-count g c =
    let w = c.args.workspace.now in
    let context = c.args.context.now in
    let rules = c.args.rules.now in
    let all : c.in_ok-flags.flags.items ≡ replicate (length rules) true = c.in_ok-flags.ensures.items_if_clones_equal (λ y is. is) in
    let most = λ (wanted : List Bool). (most : ℕ) → IsMostOf w context rules wanted most → c.find_wanted.new.tries ≤ c.args.tries.now + most in
    IfOk-weaker c.find_wanted.result (λ _. most c.deref.result.now) (λ _. most (replicate (length rules) true))
    (λ _. subst most (c.deref.ensures.value ∙ all))
    c.find_wanted.ensures.count

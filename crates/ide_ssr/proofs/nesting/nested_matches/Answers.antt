use Rattle.std.proofs.Common.{◌≡◌, ◌≢◌, ℕ, ◌∙◌, None, Some, All, AllPairs, get_or, map, sym, ap, subst, arith}
use Rattle.std.specs.Prelude.{IsSome}
use Rattle.std.proofs.lemmas.Result.{IfOk-weaker}
use Rattle.ide_ssr_nesting.specs.Lists.{listed}
use Rattle.ide_ssr.specs.Nesting.{Show}
use Rattle.ide_ssr.proofs.Holders.{once}
use Rattle.ide_ssr.proofs.Showing.{none_made, all_there, show_taken, outermost_made}
use Rattle.ide_ssr.proofs.nesting.nested_matches.Goals as goal

pub loop-place-init : goal.loop-place-init
loop-place-init c =
    none_made c.args.rules.now c.args.kept.now c.args.lists.now c.len-count.result c.in_ok-made.made.items c.len-count.ensures.kept c.len-count.ensures.count c.in_ok-made.ensures

pub take_list-requires-clause-once : goal.take_list-requires-clause-once
take_list-requires-clause-once c =
    subst (AllPairs (λ (m : ℕ) (n : ℕ). m ≢ n)) (sym c.outermost.ensures) (once c.args.kept.now c.args.lists.now c.requires None)

pub take_list-requires-clause-there : goal.take_list-requires-clause-there
take_list-requires-clause-there c =
    subst (All (λ (n : ℕ). IsSome (get_or c.loop-place.made.items n None))) (sym c.outermost.ensures)
    (all_there c.args.rules.now c.args.kept.now c.args.lists.now c.loop-place.made.items (listed c.args.lists.now None)
    (outermost_made c.args.rules.now c.args.kept.now c.args.lists.now c.loop-place.place c.loop-place.made.items c.len-count.ensures.kept c.requires (omega arith) c.loop-place.invariant))

pub returns : goal.returns
returns c =
    let kept = c.args.kept.now in
    let lists = c.args.lists.now in
    let rules = c.args.rules.now in
    let made = c.loop-place.made.items in
    let all = outermost_made rules kept lists c.loop-place.place made c.len-count.ensures.kept c.requires (omega arith) c.loop-place.invariant in
    IfOk-weaker c.take_list.result
    (λ list. map Some list.items ≡ map (λ n. get_or made n None) c.outermost.result.now)
    (λ list. Show rules kept lists (listed lists None) list.items)
    (λ list taken. show_taken rules kept lists made (listed lists None) list.items all (taken ∙ ap (map (λ n. get_or made n None)) c.outermost.ensures))
    c.take_list.ensures.taken

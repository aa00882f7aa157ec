use Rattle.std.proofs.Common.{All, sym, ap, ◌∙◌, subst, rules}
use Rattle.std.specs.Cmp.Lexicographic.{slice_cmp}
use Rattle.std.specs.List.Sorted.{IsSortedByKey}
use Rattle.std.specs.Ordering.{nat_cmp, is_lt}
use Rattle.std.proofs.lemmas.Cmp.{nat_list_cmp_total}
use Rattle.std.proofs.lemmas.Fn.{always_returns_same}
use Rattle.std.proofs.lemmas.List.Sorted.{ranks_by}
use Rattle.ide_ssr_nesting.specs.declared.lists.Row.{Row}
use Rattle.ide_ssr_nesting.specs.Private.Rows.{IsRowOf}
use Rattle.ide_ssr_nesting.proofs.Listing.{places_of, sorted_rows, lists_made}
use Rattle.ide_ssr_nesting.proofs.lists.Lists.new.Goals as goal

pub of_rows-requires-clause-in_order : goal.of_rows-requires-clause-in_order
of_rows-requires-clause-in_order c =
    subst (IsSortedByKey (λ (row : Row). row.key) (slice_cmp nat_cmp)) (sym c.deref.ensures.value)
    (c.sort_unstable_by.ensures.sorted (λ (x : Row) (y : Row). is_lt (slice_cmp nat_cmp x.key y.key)) (ranks_by nat_list_cmp_total (λ (row : Row). row.key))
    (always_returns_same _ _ _ (λ a r f' k. search rules)))

pub of_rows-requires-clause-rows : goal.of_rows-requires-clause-rows
of_rows-requires-clause-rows c =
    let up = c.sort_unstable_by.ensures.sorted (λ (x : Row) (y : Row). is_lt (slice_cmp nat_cmp x.key y.key)) (ranks_by nat_list_cmp_total (λ (row : Row). row.key))
    (always_returns_same _ _ _ (λ a r f' k. search rules)) in
    subst (All (IsRowOf c.args.kept.now)) (sym c.deref.ensures.value)
    (sorted_rows c.args.kept.now c.in_ok-rows.ensures.kept c.in_ok-rows.rows.items _ c.in_ok-rows.ensures.each c.in_ok-rows.ensures.places c.sort_unstable_by.ensures.permutation up)

pub returns : goal.returns
returns c =
    let up = c.sort_unstable_by.ensures.sorted (λ (x : Row) (y : Row). is_lt (slice_cmp nat_cmp x.key y.key)) (ranks_by nat_list_cmp_total (λ (row : Row). row.key))
    (always_returns_same _ _ _ (λ a r f' k. search rules)) in
    lists_made c.args.kept.now c.in_ok-rows.ensures.kept c.in_ok-rows.rows.items _ c.in_ok-rows.ensures.each c.in_ok-rows.ensures.places c.sort_unstable_by.ensures.permutation up
    c.in_ok-lists.lists (c.in_ok-lists.ensures.places ∙ ap places_of c.deref.ensures.value) c.in_ok-lists.ensures.beside

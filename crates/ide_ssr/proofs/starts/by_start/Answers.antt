use Rattle.std.proofs.Common.{ap, ◌∙◌, rules}
use Rattle.std.specs.Cmp.Lexicographic.{slice_cmp}
use Rattle.std.specs.Ordering.{nat_cmp, is_lt}
use Rattle.std.proofs.lemmas.Cmp.{nat_list_cmp_total}
use Rattle.std.proofs.lemmas.Fn.{always_returns_same}
use Rattle.std.proofs.lemmas.List.Sorted.{ranks_by}
use Rattle.std.proofs.Math.Seq.{take_all}
use Rattle.ide_ssr.specs.declared.starts.Start.{Start}
use Rattle.ide_ssr.specs.Private.Starts.{start_key}
use Rattle.ide_ssr.proofs.ByStart.{places_of, sorted_by_start}
use Rattle.ide_ssr.proofs.starts.by_start.Goals as goal

pub returns : goal.returns
returns c =
    let up = c.sort_unstable_by.ensures.sorted (λ (x : Start) (y : Start). is_lt (slice_cmp nat_cmp (start_key x) (start_key y))) (ranks_by nat_list_cmp_total start_key)
    (always_returns_same _ _ _ (λ a r f' k. search rules)) in
    sorted_by_start c.args.workspace.now c.args.m.now c.in_ok-starts.starts.items c.sort_unstable_by.new.self.items c.in_ok-starts.ensures c.sort_unstable_by.ensures.permutation up
    c.loop-start.order.items
    (c.loop-start.invariant
    ∙ ap places_of (take_all c.loop-start.start-index c.deref-start-items.result.now c.loop-start-test.false)
    ∙ ap places_of c.deref-start-items.ensures.value)

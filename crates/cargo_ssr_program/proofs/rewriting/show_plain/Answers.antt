use Rattle.std.proofs.Common.{ap, string_bytes, ◌∙◌}
use Rattle.std.proofs.lemmas.List.{take_all}
use Rattle.cargo_ssr_program.specs.Planned.{diffs_of}
use Rattle.ssr_streams.proofs.Shared.{piece_whole, sent_whole}
use Rattle.cargo_ssr_program.proofs.rewriting.show_plain.Goals as goal

pub loop-planned-preserved : goal.loop-planned-preserved
loop-planned-preserved g c =
    piece_whole (λ planned. string_bytes planned.diff) c.args.plan.now c.loop-planned.planned-index _ c.loop-planned-test.true
    (g.W.Sink.taken c.args.console.now.out) (g.W.Sink.taken c.loop-planned.console.out) _ _ (c.as_str.ensures.value ∙ ap (λ planned. string_bytes planned.diff) c.planned-item.is) c.loop-planned.invariant c.in_ok-show.ensures

pub returns : goal.returns
returns g c = sent_whole _ _ _ _ (ap diffs_of (take_all _ _ c.loop-planned-test.false)) c.loop-planned.invariant

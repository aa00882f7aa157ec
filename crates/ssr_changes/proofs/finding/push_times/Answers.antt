use Rattle.std.proofs.Common.{◌++◌, [], ◌∷◌, List, ℕ, ap, ◌∙◌, append_assoc}
use Rattle.std.proofs.lemmas.List.{replicate_more}
use Rattle.ssr_changes.proofs.finding.push_times.Goals as goal

pub loop-preserved : goal.loop-preserved
loop-preserved c =
    c.in_ok-push.ensures.items
    ∙ ap (λ (front : List ℕ). front ++ c.args.number ∷ []) c.loop.invariant
    ∙ append_assoc c.args.numbers.now.items _ (c.args.number ∷ [])
    ∙ ap (λ (more : List ℕ). c.args.numbers.now.items ++ more) (replicate_more c.loop.counter c.args.number)

use Rattle.std.proofs.Common.{◌++◌, [], ◌∷◌, List, ℕ, ap, ◌∙◌, append_assoc, string_bytes}
use Rattle.std.proofs.lemmas.List.{replicate_more}
use Rattle.ide_ssr_rewriting.proofs.prefixes.push_stars.Goals as goal

pub loop-preserved : goal.loop-preserved
loop-preserved c =
    c.in_ok-push_str.ensures.bytes
    ∙ ap (λ (front : List ℕ). front ++ 42 ∷ []) c.loop.invariant
    ∙ append_assoc (string_bytes c.args.text.now) _ (42 ∷ [])
    ∙ ap (λ (stars : List ℕ). string_bytes c.args.text.now ++ stars) (replicate_more c.loop.counter 42)

use Rattle.std.proofs.Common.{◌≡◌, ℕ, ◌-◌, List, ◌++◌, ◌∙◌, ap, arith, codes}
use Rattle.std.specs.List.{slice_range, flat_map}
use Rattle.ssr_diff.specs.Patch.{signed_line}
use Rattle.ssr_diff.proofs.WritingLaws.{kept_text}
use Rattle.ssr_diff.proofs.hunks.OpenHunk.before.Goals as goal

pub returns-clause-text : goal.returns-clause-text
returns-clause-text c =
    let old = c.args.texts.now.old in
    let place = c.args.place.old in
    let start : place - c.min-context.result ≡ place - 3 = omega (arith, c.min-context.ensures) in
    c.in_ok-push_lines.ensures
    ∙ (ap (λ (t : List ℕ). t ++ flat_map (signed_line (codes " ")) (slice_range old (place - c.min-context.result) place)) c.new-text.ensures.bytes
    ∙ (ap (λ (n : ℕ). flat_map (signed_line (codes " ")) (slice_range old n place)) start ∙ kept_text (slice_range old (place - 3) place)))

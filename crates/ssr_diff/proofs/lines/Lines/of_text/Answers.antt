use Rattle.std.proofs.Common.{List, ℕ, Bor, map, ◌∙◌, ap, subst, lit<}
use Rattle.std.specs.Str.Iter.{split_inclusive_text, IsSplitInclusiveRun}
use Rattle.ssr_diff.proofs.LinesOf.{lines_of_run}
use Rattle.ssr_diff.proofs.lines.Lines.of_text.Goals as goal

pub returns : goal.returns
returns c =
    let run = c.in_ok-lines.ensures.runs tt in
    let p = run.0 in
    let text = ap split_inclusive_text run.1 ∙ c.split_inclusive.ensures.text in
    let pieces = subst (λ (bs : List ℕ). IsSplitInclusiveRun p bs) text (c.split_inclusive.ensures.runs p p.seen) in
    let cuts = c.split_inclusive.ensures.cuts p p.seen run.1 (lit< tt) ((λ q e. e), (λ w o f. f)) in
    ap (map (λ (x : Bor (List ℕ)). x.now)) run.3.0 ∙ lines_of_run p c.args.text.now run.2 pieces cuts

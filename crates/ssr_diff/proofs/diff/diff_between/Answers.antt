use Rattle.std.proofs.Common.{◌≡◌, true, false, List, ℕ, ◌++◌, ◌∙◌, ap, rules, string_bytes}
use Rattle.ssr_diff.specs.Patch.{file_head}
use Rattle.ssr_diff.proofs.SameLines.{texts_differ, texts_agree}
use Rattle.ssr_diff.proofs.HunkLaws.{is_diff, no_diff}
use Rattle.ssr_diff.proofs.diff.diff_between.Goals as goal

pub returns-then-eq : goal.returns-then-eq
returns-then-eq c =
    let yes : c.eq.result ≡ true = search rules in
    no_diff c.args.name.now c.args.old.now c.args.new.now (string_bytes c.new.result)
    (texts_agree c.args.old.now c.args.new.now c.eq.result c.eq.ensures yes) c.new.ensures.bytes

pub returns : goal.returns
returns c =
    let no : c.eq.result ≡ false = search rules in
    is_diff c.args.name.now c.args.old.now c.args.new.now (string_bytes c.push_str.new.self) (string_bytes c.in_ok-hunks.hunks) c.in_ok-hunks.ensures
    (texts_differ c.args.old.now c.args.new.now c.eq.result c.eq.ensures no)
    (c.in_ok-push_str.ensures.bytes ∙ (ap (λ (t : List ℕ). t ++ c.as_str.result.now) c.in_ok-diff.ensures
    ∙ ap (λ (t : List ℕ). file_head c.args.name.now ++ t) c.as_str.ensures.value))

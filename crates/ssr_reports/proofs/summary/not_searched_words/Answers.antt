use Rattle.std.proofs.Common.{string_bytes, codes, ap, ◌∙◌, List, ℕ, ◌++◌}
use Rattle.ssr_reports.proofs.Joined.{more}
use Rattle.ssr_reports.proofs.summary.not_searched_words.Goals as goal

pub returns : goal.returns
returns c =
    more _ _ _ (string_bytes c.push_str.new.self) _ (c.in_ok-push_str.ensures.bytes ∙ ap (λ (x : List ℕ). x ++ codes ": not searched: ") c.in_ok-text.ensures)
    (more _ _ (string_bytes c.push_str.new.self) (string_bytes c.push_counted.new.text) _ c.in_ok-push_counted.ensures c.in_ok-push_some.ensures)

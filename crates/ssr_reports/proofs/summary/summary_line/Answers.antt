use Rattle.std.proofs.Common.{string_bytes}
use Rattle.ssr_reports.proofs.Joined.{first, more}
use Rattle.ssr_reports.proofs.summary.summary_line.Goals as goal

pub returns : goal.returns
returns c =
    first _ (string_bytes c.new-text.result) _ c.new-text.ensures.bytes (more _ _ (string_bytes c.new-text.result) (string_bytes c.push_counted.new.text) _ c.in_ok-push_counted.ensures
    (more _ _ (string_bytes c.push_counted.new.text) (string_bytes c.push_some.new.text) _ c.in_ok-push_some.ensures
    (more _ _ (string_bytes c.push_some.new.text) (string_bytes c.push_some-2.new.text) _ c.in_ok-push_some-2.ensures
    (more _ _ (string_bytes c.push_some-2.new.text) (string_bytes c.push_unchanged.new.text) _ c.in_ok-push_unchanged.ensures
    (more _ _ (string_bytes c.push_unchanged.new.text) (string_bytes c.push_some-3.new.text) _ c.in_ok-push_some-3.ensures
    (more _ _ (string_bytes c.push_some-3.new.text) (string_bytes c.push_some-4.new.text) _ c.in_ok-push_some-4.ensures
    c.in_ok-push_str.ensures.bytes))))))

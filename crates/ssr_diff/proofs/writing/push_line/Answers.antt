use Rattle.std.proofs.Common.{◌≡◌, false, sym, ◌∙◌, rules, string_bytes}
use Rattle.ssr_diff.proofs.WritingLaws.{signed_unended}
use Rattle.ssr_diff.proofs.writing.push_line.Goals as goal

pub returns-in_ok-push_str-3 : goal.returns-in_ok-push_str-3
returns-in_ok-push_str-3 c =
    let not_ended : c.is_ended.result ≡ false = search rules in
    signed_unended (string_bytes c.args.text.now) (string_bytes c.push_str.new.self) (string_bytes c.push_str-2.new.self)
    (string_bytes c.push_str-then-not-is_ended.new.self) c.args.sign.now c.args.line.now c.in_ok-push_str.ensures.bytes c.in_ok-push_str-2.ensures.bytes
    c.in_ok-push_str-3.ensures.bytes (sym c.is_ended.ensures ∙ not_ended)

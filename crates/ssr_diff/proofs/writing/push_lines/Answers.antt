use Rattle.std.proofs.Common.{string_bytes}
use Rattle.ssr_diff.specs.Patch.{signed_line}
use Rattle.ssr_diff.proofs.WritingLaws.{lines_more}
use Rattle.ssr_diff.proofs.writing.push_lines.Goals as goal

pub loop-place-preserved : goal.loop-place-preserved
loop-place-preserved c =
    lines_more (signed_line c.args.sign.now) c.args.lines.now c.args.from c.loop-place.place c.line.result.now (string_bytes c.args.text.now)
    (string_bytes c.loop-place.text) (string_bytes c.push_line.new.text) c.loop-place.auto.place c.line.ensures c.loop-place.invariant c.in_ok-push_line.ensures

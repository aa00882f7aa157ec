use Rattle.std.proofs.Common.{refl, string_bytes}
use Rattle.ssr_diff.proofs.WritingLaws.{block_text}
use Rattle.std.specs.List.{slice_range}
use Rattle.ssr_diff.proofs.hunks.OpenHunk.replace.Goals as goal

pub returns : goal.returns
returns c =
    let block = c.args.block.now in
    record {
      start = refl;
      end = refl;
      text = block_text (string_bytes c.args.self.text) (string_bytes c.push_lines.new.text) (string_bytes c.push_lines-2.new.text)
          (slice_range c.args.texts.now.old block.from.old block.to.old) (slice_range c.args.texts.now.new block.from.new block.to.new)
          c.in_ok-push_lines.ensures c.in_ok-push_lines-2.ensures;
    }

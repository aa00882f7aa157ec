use Rattle.std.proofs.Common.{List, ℕ, ◌++◌, ◌∙◌, ap, refl, string_bytes}
use Rattle.std.specs.List.{slice_range}
use Rattle.ssr_diff.proofs.WritingLaws.{kept_text}
use Rattle.ssr_diff.proofs.hunks.OpenHunk.keep.Goals as goal

pub returns : goal.returns
returns c = record {
  start = refl;
  end = refl;
  text = c.in_ok-push_lines.ensures ∙ ap (λ (t : List ℕ). string_bytes c.args.self.text ++ t) (kept_text (slice_range c.args.texts.now.old c.args.self.end.old c.args.place.old));
}

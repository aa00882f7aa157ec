use Rattle.std.proofs.Common.{map, string_bytes, sym, ◌∙◌, rules}
use Rattle.cargo_ssr_options.proofs.Paragraphs.{over_blank, over_comment, over_line}
use Rattle.cargo_ssr_options.proofs.rules_file.paragraphs.Goals as goal
use Rattle.cargo_ssr_options.proofs.rules_file.paragraphs.Goals.{then-is_blank+in_ok-close, else-is_blank+in_ok-push_line}

pub loop-line-preserved-then-is_comment : goal.loop-line-preserved-then-is_comment
loop-line-preserved-then-is_comment c =
    over_comment _ (string_bytes c.loop-line.rule) c.args.lines.now c.loop-line.line-index _ _ (search rules) (sym c.is_comment.ensures ∙ c.if-is_comment.true) c.loop-line.invariant

pub loop-line-preserved : goal.loop-line-preserved
loop-line-preserved c =
    elim c.if-is_blank.branch [
      | then-is_blank+in_ok-close w ↦ over_blank (map string_bytes c.loop-line.rules.items) (map string_bytes c.if-is_blank.rules.items) (string_bytes c.loop-line.rule) (string_bytes c.if-is_blank.rule) c.args.lines.now c.loop-line.line-index _ _ (search rules) (sym c.is_comment.ensures ∙ c.if-is_comment.false) (sym c.is_blank.ensures ∙ w.if-is_blank.true) (search rules) (search rules) c.loop-line.invariant
      | else-is_blank+in_ok-push_line w ↦ over_line (map string_bytes c.loop-line.rules.items) (map string_bytes c.if-is_blank.rules.items) (string_bytes c.loop-line.rule) (string_bytes c.if-is_blank.rule) c.args.lines.now c.loop-line.line-index _ _ (search rules) (sym c.is_comment.ensures ∙ c.if-is_comment.false) (sym c.is_blank.ensures ∙ w.if-is_blank.false) (search rules) (search rules) c.loop-line.invariant
    ]

use Rattle.std.proofs.Common.{◌∙◌}
use Rattle.std.proofs.lemmas.Result.{IfOk-weaker}
use Rattle.ssr_reports.proofs.Gaining.{line_of}
use Rattle.ssr_reports.proofs.json_lines.not_searched_json.Goals as goal

pub returns : goal.returns
returns c =
    IfOk-weaker c.ended.result _ _ (λ line h. line_of _ _ _ line c.in_ok-push_not_searched.ensures (c.new-writer.ensures.before ∙ c.new.ensures.items) c.new-writer.ensures.tokens h c.ended.ensures.reads_back) c.ended.ensures.line

use Rattle.std.proofs.Common.{◌∙◌, map, sym}
use Rattle.ssr_base_trees.specs.Origins.{span_of}
use Rattle.ssr_standing.specs.Around.{around}
use Rattle.ssr_standing.proofs.SameMarks.{told_by}
use Rattle.ssr_standing.proofs.agreeing.agree.Goals as goal

pub returns-clause-same : goal.returns-clause-same
returns-clause-same c = (
  λ told. sym c.new.ensures ∙ c.are_same.ensures.0 told ∙ c.new-2.ensures,
  λ same. c.are_same.ensures.1 (c.new.ensures ∙ same ∙ sym c.new-2.ensures),
)

pub returns-clause-value : goal.returns-clause-value
returns-clause-value c =
    told_by (around c.args.old.now (map span_of c.args.olds.now)) (around c.args.new.now (map span_of c.args.news.now)) c.are_same.result (returns-clause-same c)

use Rattle.std.proofs.Common.{sym, ◌∙◌}
use Rattle.std.proofs.lemmas.Bool.{not-false, not-true}
use Rattle.ssr_writing.proofs.Distinct.{added_free, refused_full}
use Rattle.ssr_writing.proofs.apart.take_place.Goals as goal

pub returns-in-Ok-true-clause-ok : goal.returns-in-Ok-true-clause-ok
returns-in-Ok-true-clause-ok c =
    added_free c.args.taken.now c.insert.new.self c.args.path c.in-Ok-true.ensures.updates (not-true _ (sym c.in-Ok-true.ensures.added ∙ c.in-Ok-true.field-0-test))

pub returns-in-Ok-false-clause-err : goal.returns-in-Ok-false-clause-err
returns-in-Ok-false-clause-err c =
    refused_full c.args.taken.now c.args.path.now (not-false _ (sym c.in-Ok-false.ensures.added ∙ c.in-Ok-false.field-0-test))

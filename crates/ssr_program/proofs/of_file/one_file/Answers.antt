use Rattle.std.proofs.Common.{Err, ap, ◌∙◌}
use Rattle.ssr_program.proofs.OneFile.{one_given, file_told, of_file, refusal_told}
use Rattle.ssr_program.proofs.of_file.one_file.Goals as goal

pub returns-in-Ok-build : goal.returns-in-Ok-build
returns-in-Ok-build c =
    file_told _ _
    (one_given _ _ c.args.text _ _ _ c.new-files.ensures.items c.in-Ok.ensures.items c.new.ensures.items c.build.ensures.gives c.in-Ok-build.is)

pub returns-in-Err-File : goal.returns-in-Err-File
returns-in-Err-File c =
    refusal_told _ _ _
    (one_given _ _ c.args.text _ _ _ c.new-files.ensures.items c.in-Ok.ensures.items c.new.ensures.items c.build.ensures.gives
    (c.in-Err-File.is ∙ ap Err c.in-Err-File.field-0-is))

pub unreachable-requires : goal.unreachable-requires
unreachable-requires c =
    of_file _ _
    (one_given _ _ c.args.text _ _ _ c.new-files.ensures.items c.in-Ok.ensures.items c.new.ensures.items c.build.ensures.gives
    (c.in-Err-TooManyTrees.is ∙ ap Err c.in-Err-TooManyTrees.field-0-is))

pub unreachable-requires-in-Err-Call : goal.unreachable-requires-in-Err-Call
unreachable-requires-in-Err-Call c =
    of_file _ _
    (one_given _ _ c.args.text _ _ _ c.new-files.ensures.items c.in-Ok.ensures.items c.new.ensures.items c.build.ensures.gives
    (c.in-Err-Call.is ∙ ap Err c.in-Err-Call.field-0-is))

pub unreachable-requires-in-Err-Nested : goal.unreachable-requires-in-Err-Nested
unreachable-requires-in-Err-Nested c =
    of_file _ _
    (one_given _ _ c.args.text _ _ _ c.new-files.ensures.items c.in-Ok.ensures.items c.new.ensures.items c.build.ensures.gives
    (c.in-Err-Nested.is ∙ ap Err c.in-Err-Nested.field-0-is))

pub unreachable-requires-in-Err-Origin : goal.unreachable-requires-in-Err-Origin
unreachable-requires-in-Err-Origin c =
    of_file _ _
    (one_given _ _ c.args.text _ _ _ c.new-files.ensures.items c.in-Ok.ensures.items c.new.ensures.items c.build.ensures.gives
    (c.in-Err-Origin.is ∙ ap Err c.in-Err-Origin.field-0-is))

pub unreachable-requires-in-Err-Expansion : goal.unreachable-requires-in-Err-Expansion
unreachable-requires-in-Err-Expansion c =
    of_file _ _
    (one_given _ _ c.args.text _ _ _ c.new-files.ensures.items c.in-Ok.ensures.items c.new.ensures.items c.build.ensures.gives
    (c.in-Err-Expansion.is ∙ ap Err c.in-Err-Expansion.field-0-is))

use Rattle.ssr_package.proofs.TextLaws.{files_read}
use Rattle.ssr_package.proofs.reading.Reading.finish.Goals as goal

pub returns-clause-read : goal.returns-clause-read
returns-clause-read g c = files_read _ c.args.texts c.in_ok-files.files.items c.in_ok-files.ensures.same c.requires

use Rattle.std.proofs.Common.{◌<◌, length, get_or}
use Rattle.ssr_names.specs.Private.Answered.{is_import}
use Rattle.ssr_names.proofs.Climbing.{get_again}
use Rattle.ssr_names.proofs.LookingUp.{found_more, no_entry}
use Rattle.ssr_names.proofs.space.Space.imported.Goals as goal

pub loop-entry-preserved : goal.loop-entry-preserved
loop-entry-preserved c =
    let entries = c.args.entries.now in
    let l = c.loop-entry in
    let entry = get_or entries l.entry-index no_entry in
    let within : l.entry-index < length entries = c.loop-entry-test.true in
    found_more c.args.self.now c.args.«module» c.args.question entries is_import l.entry-index entry within (get_again entries l.entry-index no_entry entry within)
    l.found c.with_imported-found.result c.with_imported-found.ensures l.invariant

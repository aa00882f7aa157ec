use Rattle.std.proofs.Common.{◌≡◌, map, rules}
use Rattle.ssr_package.specs.Private.Texts.{named}
use Rattle.ssr_package.proofs.TextLaws.{files_ordered}
use Rattle.ssr_package.proofs.texts.in_order.Goals as goal

pub returns-clause-order : goal.returns-clause-order
returns-clause-order c =
    let same : map named c.loop-name.files.items ≡ c.args.by_name.entries = search rules in
    files_ordered c.loop-name.files.items c.args.by_name.entries same c.into_iter-name-iterator.ensures.into_iter_gives.5

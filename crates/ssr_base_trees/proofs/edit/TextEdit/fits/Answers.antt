use Rattle.std.proofs.Common.{rules, ◌↔◌, IsTrue}
use Rattle.std.specs.List.{All}
use Rattle.ssr_base_trees.specs.Changes.{FitsText}
use Rattle.ssr_base_trees.specs.Applied.{change_of}
use Rattle.ssr_base_trees.proofs.Changes.{all_fit, shown}
use Rattle.ssr_base_trees.proofs.edit.TextEdit.fits.Goals as goal

pub returns-clause-fits : goal.returns-clause-fits
returns-clause-fits c =
    let pairs = c.deref.result.now in
    let all : IsTrue c.all.result ↔ All (λ pair. FitsText c.args.text.now (change_of pair)) pairs = search rules in
    let mapped = all_fit c.args.text.now pairs in
    rw (← shown c.deref.ensures.value c.self.view_is) (λ yes. mapped.0 (all.0 yes), λ fit. all.1 (mapped.1 fit))

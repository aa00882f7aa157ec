use Rattle.ssr_base_trees.specs.Workspace.{trees}
use Rattle.ssr_names.proofs.Telling.{tells_found, told_less}
use Rattle.ssr_names.proofs.resolving.Resolver.row.Goals as goal

pub returns-then-not-has_all_copies : goal.returns-then-not-has_all_copies
returns-then-not-has_all_copies c = λ d is. cc

pub returns-then-copies-le1 : goal.returns-then-copies-le1
returns-then-copies-le1 c =
    let r = c.args.self.now in
    tells_found r.space.now r.source.now.stranger r.scopes.now.trees.items r.source.now.trees.now c.args.word.node c.in-Some.tree.now c.in-Some-module_of.«module»
    c.in_ok-first.field-0 c.in-Some-2.first c.in-Some.ensures c.in-Some-module_of.ensures c.in-Some-2.is c.in_ok-first.ensures

pub returns : goal.returns
returns c =
    let r = c.args.self.now in
    told_less r.space.now r.source.now.stranger r.scopes.now.trees.items (trees r.source.now.trees.now) c.in-Some-2.first c.in_ok-row.row c.in_ok-row.ensures.0 c.in_ok-row.ensures.1
    (tells_found r.space.now r.source.now.stranger r.scopes.now.trees.items r.source.now.trees.now c.args.word.node c.in-Some.tree.now c.in-Some-module_of.«module»
    c.in_ok-first.field-0 c.in-Some-2.first c.in-Some.ensures c.in-Some-module_of.ensures c.in-Some-2.is c.in_ok-first.ensures)

use Rattle.std.proofs.Common.{false, sym, subst}
use Rattle.std.proofs.lemmas.Option.{MatchOption-at_some}
use Rattle.std.specs.Option.{IsSomeAnd}
use Rattle.std.specs.Prelude.{◌↔◌, IsTrue, slice_index_or}
use Rattle.ssr_syntax_tree.specs.Places.{HasNode}
use Rattle.ssr_base_trees.specs.Workspace.{trees}
use Rattle.ide_ssr_search.specs.Permitted.{IsInFunction}
use Rattle.ide_ssr_search.specs.Private.KnownTrees.{IsEarlierCall, StandsIn}
use Rattle.ide_ssr_bindings.proofs.Shared.{is_tree, in_tree}
use Rattle.ide_ssr_search.proofs.Inside.{stands_in}
use Rattle.ide_ssr_search.proofs.known_tree.is_inside.Goals as goal

pub returns : goal.returns
returns c =
    let w = c.args.workspace.now in
    let function = c.args.context.now.function in
    let call = c.in-Some.call in
    let tree = c.in-Some-tree.tree.now in
    let inside = slice_index_or c.args.inside.now call.tree false in
    let known : IsEarlierCall w c.args.number call = MatchOption-at_some _ _ call c.in-Some.is c.requires.call in
    let at = is_tree w call.tree tree (sym c.in-Some-tree.ensures) in
    let has = in_tree (trees w) call.tree tree (λ s. HasNode s call.node.0) at known.node in
    let told = subst (λ f. IsTrue c.stands_in.result ↔ StandsIn f tree call.tree inside call.node.0) c.function.ensures c.stands_in.ensures in
    let both = stands_in w c.requires.built call.tree tree at function inside call.node.0 has (c.requires.inside.known call.tree known.earlier) in
    subst (λ o. IsTrue c.stands_in.result ↔ IsSomeAnd o (IsInFunction (trees w) function)) (sym c.in-Some.is)
    (λ is. both.0 (told.0 is), λ is. told.1 (both.1 is))

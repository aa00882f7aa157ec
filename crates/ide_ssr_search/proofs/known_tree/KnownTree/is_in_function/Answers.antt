use Rattle.std.proofs.Common.{subst}
use Rattle.std.specs.Prelude.{◌↔◌, IsTrue}
use Rattle.ide_ssr_search.specs.Private.KnownTrees.{StandsIn}
use Rattle.ide_ssr_bindings.proofs.Shared.{is_tree}
use Rattle.ide_ssr_search.proofs.Inside.{stands_in}
use Rattle.ide_ssr_search.proofs.known_tree.KnownTree.is_in_function.Goals as goal

pub returns : goal.returns
returns c =
    let g = c.args.self.now in
    let w = g.workspace.now in
    let told = subst (λ f. IsTrue c.stands_in.result ↔ StandsIn f g.tree.now g.number g.inside c.args.node.0) c.function.ensures c.stands_in.ensures in
    let known = stands_in w c.requires.known.built g.number g.tree.now (is_tree w g.number g.tree.now c.requires.known.tree)
    g.context.now.function g.inside c.args.node.0 c.requires.has c.requires.known.inside in
    (λ is. known.0 (told.0 is), λ is. told.1 (known.1 is))

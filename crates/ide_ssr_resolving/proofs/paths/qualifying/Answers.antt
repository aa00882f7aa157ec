use Rattle.std.proofs.Common.{ap, ◌∙◌, map}
use Rattle.ssr_syntax_tree.specs.Places.{node_of}
use Rattle.ide_ssr_resolving.specs.Private.Parts.{below}
use Rattle.ide_ssr_resolving.proofs.Names.{none_qualify, these_qualify}
use Rattle.ide_ssr_resolving.proofs.paths.qualifying.Goals as goal

pub returns-in_default-clause-below : goal.returns-in_default-clause-below
returns-in_default-clause-below c =
    ap (map (below c.args.tree.now)) c.new-found.ensures.items ∙ none_qualify (node_of c.args.tree.now c.args.path.0).children c.in_default.ensures.below

pub returns-clause-below : goal.returns-clause-below
returns-clause-below c =
    these_qualify (node_of c.args.tree.now c.args.path.0).children (below c.args.tree.now c.in-Some.front) _ _ c.in-Some.ensures.below
    (ap (map (below c.args.tree.now)) c.new-found.ensures.items) c.in_ok-push_segments.ensures.below

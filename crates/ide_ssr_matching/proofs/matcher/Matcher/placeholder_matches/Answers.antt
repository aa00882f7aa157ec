use Rattle.std.proofs.Common.{[], ◌∷◌, ◌∙◌, ap}
use Rattle.ide_ssr_token_trees.specs.Recording.{recorded}
use Rattle.ide_ssr_matching.proofs.Pairs.{placeholder-binds, placeholder-lacks}
use Rattle.ide_ssr_matching.proofs.matcher.Matcher.placeholder_matches.Goals as goal

pub returns-then-not-meets : goal.returns-then-not-meets
returns-then-not-meets g c = placeholder-lacks _ _ _ _ _ _ _ c.kind.ensures c.meets.ensures c.if-not-meets.true

pub returns : goal.returns
returns g c = placeholder-binds _ _ _ _ _ _ _ _ c.requires c.kind.ensures c.meets.ensures c.if-not-meets.false
    (c.in_ok-add.ensures ∙ ap (λ b. recorded c.args.out.now (b ∷ [])) c.of_node.ensures)

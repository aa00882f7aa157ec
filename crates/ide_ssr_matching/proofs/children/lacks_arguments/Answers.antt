use Rattle.std.proofs.Common.{sym, ap, ◌∙◌}
use Rattle.ide_ssr_matching.specs.Children.{bare}
use Rattle.ide_ssr_matching.proofs.Arguments.{lacking_arguments}
use Rattle.ide_ssr_matching.proofs.children.lacks_arguments.Goals as goal

pub returns : goal.returns
returns c =
    lacking_arguments c.args.tree.now _ c.next_bare.result _ c.is_none.result c.is_none.ensures
    (ap bare (sym c.arguments-siblings.ensures.gives) ∙ c.next_bare.ensures.gives) c.next_bare.ensures.none

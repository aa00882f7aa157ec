use Rattle.std.proofs.Common.{refl}
use Rattle.ssr_macro_arguments.proofs.Tops.{with_nested}
use Rattle.ssr_macro_arguments.proofs.expanding.add_below.Goals as goal

pub returns-clause-made : goal.returns-clause-made
returns-clause-made c = λ trees count are.
    with_nested trees _ _ _ c.args.files c.args.next _ _ c.in_ok-append.ensures.items count refl c.requires.next c.index-2.ensures are
    c.in_ok-new.ensures.made

use Rattle.ssr_macro_arguments.proofs.Tops.{with_file}
use Rattle.ssr_macro_arguments.proofs.expanding.add_file.Goals as goal

pub returns-clause-made : goal.returns-clause-made
returns-clause-made c = λ files at are.
    with_file files _ _ _ c.args.file c.args.tree.now c.in_ok-append.ensures.items at are c.in_ok-new.ensures.made

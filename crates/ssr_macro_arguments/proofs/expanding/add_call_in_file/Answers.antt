use Rattle.ssr_syntax_tree.specs.Syntax.{source_of}
use Rattle.ssr_macro_arguments.specs.Calls.{file}
use Rattle.ssr_macro_arguments.proofs.expanding.add_call_in_file.Goals as goal

pub returns-clause-made : goal.returns-clause-made
returns-clause-made c = λ all.
    let place = file c.args.tree.now in
    let text = source_of c.args.tree.now in
    c.in_ok-add_made.ensures.made place c.args.file text all
    (c.in_ok-found.ensures.made place text c.in-Some.ensures.call c.in_ok-arguments.ensures.all c.in_ok-arguments.ensures.spelled)

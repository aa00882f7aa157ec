use Rattle.std.proofs.Common.{◌∙◌, ◌<◌, [], length, Option, ap, sym, arith}
use Rattle.std.specs.Option.{option_map_or}
use Rattle.ssr_syntax_tree.specs.Syntax.{Syntax, source_of}
use Rattle.ssr_base_trees.proofs.Shared.{file_there, none_there}
use Rattle.ide_ssr_rewriting.proofs.replacements.file_text.Goals as goal

pub returns-in-Some : goal.returns-in-Some
returns-in-Some c =
    let w = c.args.workspace.now in
    let less : c.args.file.0 < length w.files = omega (arith, c.file_count.ensures.count) in
    c.source.ensures ∙ sym (ap (λ (o : Option Syntax). option_map_or source_of o []) (file_there w c.args.file.0 c.in-Some.tree.now less c.in-Some.ensures))

pub returns-in-None : goal.returns-in-None
returns-in-None c =
    let w = c.args.workspace.now in
    let less : c.args.file.0 < length w.files = omega (arith, c.file_count.ensures.count) in
    absurd (none_there w c.args.file.0 less c.in-None.ensures)

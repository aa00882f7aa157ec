use Rattle.std.proofs.Common.{subst, sym, ◌<◌, ◌^◌, length}
use Rattle.std.specs.Prelude.{IfOk}
use Rattle.ssr_syntax_tree.specs.Syntax.{source_of}
use Rattle.ssr_syntax.specs.Reading.{IsTreeOfFileOf, FitsFileOf}
use Rattle.ssr_syntax.proofs.Decided.{decided}
use Rattle.ssr_syntax.proofs.fitting.fits_file_of.Goals as goal

pub returns : goal.returns
returns c =
    let tree = c.args.tree.now in
    decided c.parse_file_of.result tree (IsTreeOfFileOf c.args.reach (source_of tree) tree) c.is_answer.result c.is_answer.ensures
    (λ read.
    subst (λ text. IsTreeOfFileOf c.args.reach text tree) c.source.ensures
    (subst (λ answer. IfOk answer (λ tree. IsTreeOfFileOf c.args.reach c.source.result.now tree)) read c.parse_file_of.ensures.sound))
    (λ is.
    c.parse_file_of.ensures.complete tree
    (subst (λ text. length text < 2 ^ 32) (sym c.source.ensures) is.short)
    (subst (λ text. FitsFileOf c.args.reach text tree) (sym c.source.ensures) is.fits))
    (λ is. is.shallow)

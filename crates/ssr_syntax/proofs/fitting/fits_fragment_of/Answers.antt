use Rattle.std.proofs.Common.{subst, sym, ◌<◌, ◌^◌, length}
use Rattle.std.specs.Prelude.{IfOk, Ok, Err}
use Rattle.ssr_syntax_tree.specs.Syntax.{source_of}
use Rattle.ssr_syntax.specs.Reading.{IsTreeOfFragmentOf, FitsFragmentOf}
use Rattle.ssr_syntax.proofs.Decided.{decided}
use Rattle.ssr_syntax.proofs.fitting.fits_fragment_of.Goals as goal

pub returns-in-Ok : goal.returns-in-Ok
returns-in-Ok c =
    let tree = c.args.tree.now in
    decided (Ok c.in-Ok.read) tree (IsTreeOfFragmentOf c.args.reach c.args.kind (source_of tree) tree) c.is_answer.result c.is_answer.ensures
    (λ read.
    subst (λ text. IsTreeOfFragmentOf c.args.reach c.args.kind text tree) c.source.ensures
    (subst (λ answer. IfOk answer (λ tree. IsTreeOfFragmentOf c.args.reach c.args.kind c.source.result.now tree)) read c.in-Ok.ensures.sound))
    (λ is.
    c.in-Ok.ensures.complete tree
    (subst (λ text. length text < 2 ^ 32) (sym c.source.ensures) is.short)
    (subst (λ text. FitsFragmentOf c.args.reach c.args.kind text tree) (sym c.source.ensures) is.fits))
    (λ is. is.shallow)

pub returns-in-Err : goal.returns-in-Err
returns-in-Err c =
    let tree = c.args.tree.now in
    decided (Err c.in-Err.error) tree (IsTreeOfFragmentOf c.args.reach c.args.kind (source_of tree) tree) c.is_answer-in-Err.result c.is_answer-in-Err.ensures
    (λ read. absurd (cc read))
    (λ is.
    c.in-Err.ensures.complete tree
    (subst (λ text. length text < 2 ^ 32) (sym c.source.ensures) is.short)
    (subst (λ text. FitsFragmentOf c.args.reach c.args.kind text tree) (sym c.source.ensures) is.fits))
    (λ is. is.shallow)

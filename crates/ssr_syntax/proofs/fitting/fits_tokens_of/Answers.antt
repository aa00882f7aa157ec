use Rattle.std.proofs.Common.{subst}
use Rattle.std.specs.Prelude.{IfOk}
use Rattle.ssr_syntax.specs.Expansions.{IsTreeOfExpansionOf}
use Rattle.ssr_syntax.proofs.Decided.{decided}
use Rattle.ssr_syntax.proofs.fitting.fits_tokens_of.Goals as goal

pub returns : goal.returns
returns c =
    let tree = c.args.tree.now in
    decided c.parse_tokens_of.result tree (IsTreeOfExpansionOf c.args.reach c.args.kind c.args.tokens.now tree) c.is_answer.result c.is_answer.ensures
    (λ read. subst (λ answer. IfOk answer (λ tree. IsTreeOfExpansionOf c.args.reach c.args.kind c.args.tokens.now tree)) read c.parse_tokens_of.ensures.sound)
    (λ is. c.parse_tokens_of.ensures.complete tree is.short is.fits)
    (λ is. is.shallow)

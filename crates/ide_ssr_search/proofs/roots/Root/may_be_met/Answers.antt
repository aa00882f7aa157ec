use Rattle.std.proofs.Common.{sym, ◌∙◌}
use Rattle.ide_ssr_search.proofs.Asked.{asked_in}
use Rattle.ide_ssr_search.proofs.roots.Root.may_be_met.Goals as goal

pub returns-in-Some : goal.returns-in-Some
returns-in-Some c = λ tree n has are asked.
    c.has.ensures ∙ asked_in tree n c.args.tokens.now c.args.self c.in-Some.token has are (sym c.token.ensures ∙ c.in-Some.is) asked

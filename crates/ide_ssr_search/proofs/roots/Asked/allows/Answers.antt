use Rattle.std.proofs.Common.{◌⊎◌, ap, inr, subst, sym, Some}
use Rattle.std.specs.Prelude.{IsTrue}
use Rattle.std.specs.Option.{option_copied}
use Rattle.ide_ssr_search.specs.Private.Words.{LacksWord}
use Rattle.ide_ssr_search.proofs.AskedWords.{met_or_lacks, lacks_word}
use Rattle.ide_ssr_search.proofs.roots.Asked.allows.Goals as goal

pub returns-in-Some-word : goal.returns-in-Some-word
returns-in-Some-word c =
    subst (λ asked. IsTrue c.eq.result ⊎ LacksWord asked (option_copied c.args.word)) (ap option_copied (sym c.in-Some.is))
    (subst (λ own. IsTrue c.eq.result ⊎ LacksWord (Some c.in-Some.asked.now) own) (ap option_copied (sym c.in-Some-word.is))
    (met_or_lacks c.eq.result c.in-Some.asked.now c.in-Some-word.own.now c.eq.ensures))

pub returns-in-None : goal.returns-in-None
returns-in-None c =
    inr (subst (λ asked. LacksWord asked (option_copied c.args.word)) (ap option_copied (sym c.in-Some.is))
    (subst (λ own. LacksWord (Some c.in-Some.asked.now) own) (ap option_copied (sym c.in-None.is)) (lacks_word c.in-Some.asked.now)))

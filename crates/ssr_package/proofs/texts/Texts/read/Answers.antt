use Rattle.ssr_package.proofs.TextLaws.{given_last, kept_more}
use Rattle.ssr_package.proofs.texts.Texts.read.Goals as goal

pub returns-clause-kept : goal.returns-clause-kept
returns-clause-kept g c = kept_more _ _ _ c.args.self.now c.text_in.ensures c.requires

pub returns-clause-text : goal.returns-clause-text
returns-clause-text g c = given_last _ _ _ c.as_str.result.now c.args.name.now c.text_in.result c.as_str.ensures.value c.text_in.ensures

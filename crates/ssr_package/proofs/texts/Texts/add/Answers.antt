use Rattle.std.proofs.Common.{refl}
use Rattle.ssr_package.proofs.TextLaws.{kept_added, kept_same}
use Rattle.ssr_package.proofs.texts.Texts.add.Goals as goal

pub returns-in_err-insert : goal.returns-in_err-insert
returns-in_err-insert c gave kept was = kept_same gave c.args.self.now _ refl c.in_err-insert.ensures.err kept

pub returns : goal.returns
returns c gave kept was = kept_added gave c.args.self.now _ c.args.name c.args.text refl c.in_ok-insert.ensures.entries kept was

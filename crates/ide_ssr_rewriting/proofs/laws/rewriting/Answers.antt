use Rattle.ide_ssr_rewriting.specs.Private.Edits.{texts_of}
use Rattle.ide_ssr_rewriting.proofs.Nests.{is_nest}
use Rattle.ide_ssr_rewriting.proofs.Texts.{are_texts, one_text}
use Rattle.ide_ssr_rewriting.proofs.laws.rewriting.Goals as goal

pub returns-clause-exist : goal.returns-clause-exist
returns-clause-exist c kept lists rules is are = (texts_of kept lists rules, are_texts kept lists rules (is_nest kept lists is are))

pub returns-clause-one : goal.returns-clause-one
returns-clause-one c kept lists rules is are f g = one_text kept lists rules (is_nest kept lists is are) f g

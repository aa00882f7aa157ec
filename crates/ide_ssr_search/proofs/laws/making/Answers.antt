use Rattle.ide_ssr_search.proofs.Contexts.{one_context}
use Rattle.ide_ssr_search.proofs.SomeContext.{context_exists}
use Rattle.ide_ssr_search.proofs.laws.making.Goals as goal

pub returns : goal.returns
returns c = record { exist = context_exists; one = one_context }

use Rattle.ide_ssr_search.proofs.Matched.{one_list}
use Rattle.ide_ssr_search.proofs.SomeFound.{some_found}
use Rattle.ide_ssr_search.proofs.SomePermitted.{some_permitted}
use Rattle.ide_ssr_search.proofs.laws.searching.Goals as goal

pub returns : goal.returns
returns c = record { exist = λ w m context rules built. some_found w built m context rules; one = one_list; permitted = λ w context rule built. some_permitted w built context rule }

use Rattle.ide_ssr_nesting.proofs.InLists.{lists_what_is_held, lists_in_order, lists_each_once, one_listing}
use Rattle.ide_ssr_nesting.proofs.SomeListing.{lists_exist}
use Rattle.ide_ssr_nesting.proofs.laws.listing.Goals as goal

pub returns-clause-held : goal.returns-clause-held
returns-clause-held c = lists_what_is_held

pub returns-clause-in_order : goal.returns-clause-in_order
returns-clause-in_order c = lists_in_order

pub returns-clause-once : goal.returns-clause-once
returns-clause-once c = lists_each_once

pub returns-clause-exist : goal.returns-clause-exist
returns-clause-exist c = lists_exist

pub returns-clause-one : goal.returns-clause-one
returns-clause-one c = one_listing
